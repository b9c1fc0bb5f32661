use Rattle.std.proofs.Common.{take}
use Rattle.lease_leader.specs.Counting.{HaveGone}
use Rattle.lease_leader.proofs.parcels.discount_all.Given as goal

abbrev pub invariant-loop-deed : goal.invariant-loop-deed
invariant-loop-deed l = HaveGone (take l.deed-index l.deeds) l.fn.counts.entries l.counts.entries
