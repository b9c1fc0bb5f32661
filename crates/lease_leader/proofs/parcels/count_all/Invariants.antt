use Rattle.std.proofs.Common.{◌+◌, ◌≤◌, length, take}
use Rattle.indexmap.specs.IndexMap.{spare}
use Rattle.lease_leader.specs.Counting.{HaveCome}
use Rattle.lease_leader.proofs.parcels.count_all.Given as goal

abbrev pub invariant-loop-deed : goal.invariant-loop-deed
invariant-loop-deed l =
    record {
      come : HaveCome (take l.deed-index l.deeds) l.fn.counts.entries l.counts.entries;
      room : length l.deeds ≤ spare l.counts + l.deed-index;
    }
