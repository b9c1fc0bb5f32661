use Rattle.std.proofs.Common.{take}
use Rattle.lease_leader.specs.Counting.{AllHaveGone}
use Rattle.lease_leader.proofs.parcels.Parcels.remove_all.Given as goal

abbrev pub invariant-loop-item : goal.invariant-loop-item
invariant-loop-item l = AllHaveGone l.holder (take l.item-index l.items) l.fn.self l.self
