use Rattle.std.proofs.Common.{◌≡◌, drop}
use Rattle.image_text.specs.Order.{fall_behind}
use Rattle.image_text.proofs.order.fall_behind.Given as goal

-- the events that are left, behind the one before them
abbrev pub invariant-loop-event : goal.invariant-loop-event
invariant-loop-event l = fall_behind l.before (drop l.event-index l.events) ≡ fall_behind l.fn.first l.events
