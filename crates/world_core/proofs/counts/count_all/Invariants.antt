use Rattle.std.proofs.Common.{◌≡◌, take}
use Rattle.world_core.specs.Counts.{counts_of}
use Rattle.world_core.proofs.counts.count_all.Given as goal

abbrev pub invariant-loop-at : goal.invariant-loop-at
invariant-loop-at l = l.counts ≡ take l.at (counts_of l.nodes l.inboxes)
