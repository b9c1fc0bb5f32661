use Rattle.std.proofs.Common.{arith}
use Rattle.sysv_msg.proofs.Passing.{unawaited-where}
use Rattle.sysv_msg.proofs.queue.Queue.is_unawaited.Goals as goal

pub returns : goal.returns
returns c =
    unawaited-where c.are_none.result c.args.bytes.now c.in-Some.fields.now c.in-Some-behind_fields.waiters.now
    (λ i. omega (arith, c.type_inv.bytes i)) c.in-Some.ensures c.in-Some-behind_fields.ensures c.are_none.ensures
