use Rattle.std.proofs.Common.{◌≡◌, ◌++◌}
use Rattle.std.specs.List.{flat_map}
use Rattle.stamp_merge.specs.Merge.{items_of}
use Rattle.world_model.specs.World.{numbers}
use Rattle.image_text.specs.Image.{event_lines}
use Rattle.image_text.proofs.freezing.push_events.Given as goal

-- those of the nodes so far
abbrev pub invariant-loop-before : goal.invariant-loop-before
invariant-loop-before l =
    l.out.items ≡ l.fn.out.items ++ event_lines (flat_map (λ p. items_of p l.events) (numbers 1 l.before))
