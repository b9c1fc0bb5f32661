use Rattle.std.proofs.Common.{◌≡◌, ◌++◌}
use Rattle.std.specs.Vec.Iter.{into_iter_items}
use Rattle.stamp_merge.specs.Merge.{all_items}
use Rattle.stamp_merge.proofs.together.Given as goal

abbrev pub invariant-loop-log : goal.invariant-loop-log
invariant-loop-log g l = l.items.items ++ all_items (into_iter_items l.log-iterator) ≡ all_items l.fn.logs
