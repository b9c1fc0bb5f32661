use Rattle.std.proofs.Common.{◌≡◌, ◌++◌, take}
use Rattle.stamp_merge.specs.Merge.{items_of}
use Rattle.image_text.specs.Image.{event_lines}
use Rattle.image_text.proofs.freezing.push_events_of.Given as goal

-- those so far
abbrev pub invariant-loop-event : goal.invariant-loop-event
invariant-loop-event l = l.out.items ≡ l.fn.out.items ++ event_lines (items_of l.node (take l.event-index l.events))
