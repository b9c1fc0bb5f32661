use Rattle.std.proofs.Common.{◌≡◌}
use Rattle.thread_tests.proofs.tests.journals.append_all.Given as goal

-- it is the same seat
abbrev pub invariant-loop-number : goal.invariant-loop-number
invariant-loop-number g l = (l.seat.lock ≡ l.fn.seat.lock) × (l.seat.number ≡ l.fn.seat.number)
