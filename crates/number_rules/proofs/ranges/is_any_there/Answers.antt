use Rattle.std.proofs.Common.{◌∙◌, sym}
use Rattle.world_model.specs.Ranges.{is_there}
use Rattle.node_state.specs.State.{node_of}
use Rattle.number_rules.proofs.InRow.{none-in-more}
use Rattle.number_rules.proofs.ranges.is_any_there.Goals as goal

pub loop-place-preserved : goal.loop-place-preserved
loop-place-preserved c =
    none-in-more (is_there (node_of c.args.node.now) c.args.kind) c.args.first c.loop-place.place
    c.loop-place.invariant (sym c.is_there.ensures ∙ c.if-is_there.false)
