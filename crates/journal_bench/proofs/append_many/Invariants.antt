use Rattle.std.proofs.Common.{◌≡◌}
use Rattle.journal_bench.proofs.append_many.Given as goal

-- it is the same seat
abbrev pub invariant-loop : goal.invariant-loop
invariant-loop g l = (l.seat.lock ≡ l.fn.seat.lock) × (l.seat.number ≡ l.fn.seat.number)
