use Rattle.std.proofs.Common.{ap, refl, ◌∙◌, arith, ◌-◌}
use Rattle.number_maps.specs.Maps.{put}
use Rattle.node_model.specs.Directory.{HasLeft}
use Rattle.lease_leader.specs.declared.partings.Stage.TheVariants.{Left}
use Rattle.lease_leader.proofs.StageLemmas.{set-from}
use Rattle.lease_leader.proofs.partings.Partings.note_left.Goals as goal

pub returns : goal.returns
returns c =
    set-from 1 c.self.inside.stages (c.node.inside.0 - 1) c.node.inside.0 Left HasLeft
    (omega (arith, c.node.invariant.0)) (omega (arith, c.node.invariant.0, c.node.invariant.1, c.self.invariant)) refl
    ∙ ap (λ ps. put ps c.node.inside.0 HasLeft) c.self.view_is
    ∙ ap (λ k. put c.args.self.now k HasLeft) c.node.view_is
