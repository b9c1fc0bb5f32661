use Rattle.std.proofs.Common.{◌≡◌, ◌++◌, map, Ok}
use Rattle.std.specs.Vec.Iter.{into_iter_items}
use Rattle.boxes_run.proofs.running.all_of.Given as goal

-- some are there, and these are left
abbrev pub invariant-loop-outcome : goal.invariant-loop-outcome
invariant-loop-outcome l = map Ok l.list ++ into_iter_items l.outcome-iterator ≡ l.fn.outcomes.items
