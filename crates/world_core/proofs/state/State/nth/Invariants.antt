use Rattle.std.proofs.Common.{◌-◌}
use Rattle.world_model.specs.Schedule.{enabled_at}
use Rattle.world_model.specs.World.{node_count}
use Rattle.world_core.specs.State.{world_of}
use Rattle.world_core.proofs.Walks.{IsWalk}
use Rattle.world_core.proofs.state.State.nth.Given as goal

abbrev pub invariant-loop-at : goal.invariant-loop-at
invariant-loop-at l = IsWalk (enabled_at (world_of l.self)) 0 (node_count l.self.script) l.index l.from l.left

abbrev pub decreases-loop-at : goal.decreases-loop-at
decreases-loop-at l = 32 - l.from
