use Rattle.std.proofs.Common.{◌≡◌, take}
use Rattle.stamp_merge.specs.Merge.{items_of}
use Rattle.image_text.proofs.order.log_of.Given as goal

-- those so far
abbrev pub invariant-loop-event : goal.invariant-loop-event
invariant-loop-event l = l.log ≡ items_of l.node (take l.event-index l.events)
