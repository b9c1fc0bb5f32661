use Rattle.std.proofs.Common.{◌∙◌, ◌+◌}
use Rattle.std.specs.List.{flat_map}
use Rattle.stamp_merge.specs.Merge.{items_of}
use Rattle.world_model.specs.World.{numbers}
use Rattle.image_text.proofs.Nodes.{items-next, lines-behind}
use Rattle.image_text.proofs.freezing.push_events.Goals as goal

pub loop-before-preserved : goal.loop-before-preserved
loop-before-preserved c =
    c.in_ok-push_events_of.ensures
    ∙ lines-behind c.args.out.now.items c.loop-before.out.items
    (flat_map (λ p. items_of p c.args.events.now) (numbers 1 c.loop-before.before))
    (items_of (c.loop-before.before + 1) c.args.events.now)
    (flat_map (λ p. items_of p c.args.events.now) (numbers 1 (c.loop-before.before + 1))) c.loop-before.invariant
    (items-next (λ p. items_of p c.args.events.now) c.loop-before.before)
