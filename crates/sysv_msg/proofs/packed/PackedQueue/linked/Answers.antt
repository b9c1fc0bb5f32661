use Rattle.waiting_model.specs.Waiters.{unawaited}
use Rattle.sysv_msg.proofs.packed.PackedQueue.linked.Goals as goal

pub returns-in-Ok : goal.returns-in-Ok
returns-in-Ok c =
    c.in-Ok.ensures.only (unawaited c.args.self.now) (rw c.as_slice.ensures c.in_ok-bytes.ensures)
