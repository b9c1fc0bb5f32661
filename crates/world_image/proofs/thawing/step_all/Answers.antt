use Rattle.std.proofs.Common.{arith}
use Rattle.world_image.proofs.Steps.{leads-there, stops-here, goes-further}
use Rattle.world_image.proofs.thawing.step_all.Goals as goal

pub returns-then-not-enabled : goal.returns-then-not-enabled
returns-then-not-enabled c =
    stops-here c.args.world.now c.args.events.now c.loop-event.event-index c.loop-event.world c.loop-event.last
    c.loop-event.invariant c.event-item.result c.loop-event-test.true c.event-item.is c.enabled.result c.enabled.ensures
    c.not_enabled.result c.if-not-enabled.true c.not_enabled.ensures

pub loop-event-preserved : goal.loop-event-preserved
loop-event-preserved c =
    goes-further c.args.world.now c.args.events.now c.loop-event.event-index c.loop-event.world c.loop-event.last
    c.loop-event.invariant c.event-item.result c.loop-event-test.true c.event-item.is c.enabled.result c.enabled.ensures
    c.step.new.self c.if-not-enabled.false c.in_ok-step.ensures.ok

pub returns : goal.returns
returns c =
    leads-there c.args.world.now c.args.events.now c.loop-event.event-index c.loop-event.world c.loop-event.last
    c.loop-event.invariant (omega arith)
