use Rattle.world_core.proofs.Under.{IsUnder}
use Rattle.world_core.proofs.world.World.of_logs.Given as goal

abbrev pub invariant-loop-event : goal.invariant-loop-event
invariant-loop-event l = IsUnder l.fn.script l.events l.event-index l.world
