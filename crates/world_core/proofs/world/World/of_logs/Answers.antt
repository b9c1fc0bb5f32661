use Rattle.world_core.proofs.Under.{IsUnder-next}
use Rattle.world_core.proofs.world.World.of_logs.Goals as goal

pub loop-event-preserved : goal.loop-event-preserved
loop-event-preserved c =
    IsUnder-next c.args.script c.args.events.now c.loop-event.event-index c.loop-event.world c.step.new.self
    c.event-item.result
    c.loop-event.invariant c.loop-event-test.true c.event-item.is c.in_ok-step.ensures.ok
