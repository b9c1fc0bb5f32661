use Rattle.std.proofs.Common.{ap, ◌∙◌, arith, ◌-◌}
use Rattle.number_maps.specs.Maps.{get}
use Rattle.lease_leader.specs.declared.partings.Stage.TheVariants.{Stays}
use Rattle.lease_leader.proofs.StageLemmas.{get-from}
use Rattle.lease_leader.proofs.partings.Partings.stage.Goals as goal

pub returns : goal.returns
returns c =
    get-from 1 c.self.inside.stages (c.node.inside.0 - 1) c.node.inside.0 Stays
    (omega (arith, c.node.invariant.0)) (omega (arith, c.node.invariant.0, c.node.invariant.1, c.self.invariant))
    ∙ ap (λ ps. get ps c.node.inside.0) c.self.view_is
    ∙ ap (get c.args.self.now) c.node.view_is
