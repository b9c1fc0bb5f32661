use Rattle.std.proofs.Common.{◌≡◌}
use Rattle.waiting_model.specs.Queue.{try_queue}
use Rattle.waiter_fields.specs.Settling.{WaitUpto}
use Rattle.sysv_msg.proofs.awaiting.Awaiting.wake_first.Given as goal

abbrev pub invariant-loop-place : goal.invariant-loop-place
invariant-loop-place l =
    record { same : l.self ≡ l.initial.self; wait : WaitUpto try_queue l.initial.self l.place }
