use Rattle.std.proofs.Common.{◌≡◌, sym, ◌∙◌, arith}
use Rattle.image_text.proofs.Falls.{fall-here, fall-next, fall-none}
use Rattle.image_text.proofs.order.fall_behind.Goals as goal

pub returns-then-falls : goal.returns-then-falls
returns-then-falls c =
    sym (fall-here c.loop-event.before.now c.event-item.result c.args.events.now c.loop-event.event-index
    c.loop-event-test.true c.event-item.is (sym c.falls.ensures ∙ c.if-falls.true)) ∙ c.loop-event.invariant

pub loop-event-preserved : goal.loop-event-preserved
loop-event-preserved c =
    sym (fall-next c.loop-event.before.now c.event-item.result c.args.events.now c.loop-event.event-index
    c.loop-event-test.true c.event-item.is (sym c.falls.ensures ∙ c.if-falls.false)) ∙ c.loop-event.invariant

pub returns : goal.returns
returns c =
    sym (fall-none c.loop-event.before.now c.args.events.now c.loop-event.event-index (omega arith))
    ∙ c.loop-event.invariant
