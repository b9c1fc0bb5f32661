use Rattle.waiting_model.specs.Waiters.{unawaited}
use Rattle.sysv_msg.specs.Body.{IsBodyOf}
use Rattle.sysv_msg.proofs.PackedMessages.{one-body}
use Rattle.sysv_msg.proofs.held.HeldQueue.unpack.Goals as goal

pub returns-in-Some-clause-only : goal.returns-in-Some-clause-only
returns-in-Some-clause-only c =
    let body : IsBodyOf (unawaited c.in-Some.packed) c.args.bytes.now = rw c.in-Some.is at c.in_ok-packed.ensures in
    λ q h. one-body c.args.bytes.now (unawaited c.in-Some.packed) q body h
