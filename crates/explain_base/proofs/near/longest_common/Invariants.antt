use Rattle.std.proofs.Common.{◌+◌, ◌≤◌, length}
use Rattle.explain_base.proofs.near.longest_common.Given as goal

abbrev pub invariant-loop-first : goal.invariant-loop-first
invariant-loop-first l =
    (l.best.first + l.best.size ≤ length l.a) × (l.best.second + l.best.size ≤ length l.b)

abbrev pub invariant-loop-second : goal.invariant-loop-second
invariant-loop-second l =
    (l.best.first + l.best.size ≤ length l.a) × (l.best.second + l.best.size ≤ length l.b)
