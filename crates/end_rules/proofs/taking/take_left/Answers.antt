use Rattle.std.proofs.Common.{◌≡◌, ◌∙◌, false, refl, sym}
use Rattle.node_model.specs.Directory.{with_left}
use Rattle.node_model.specs.Parcels.{fitting_bodies}
use Rattle.world_model.specs.Lives.{end_released}
use Rattle.world_model.specs.Step.{step_to, with_directory}
use Rattle.node_state.specs.State.{node_of}
use Rattle.end_rules.proofs.Takes.{no-release, none-if, none-of-each}
use Rattle.end_rules.proofs.taking.take_left.Goals as goal

pub returns-then-not-may_end : goal.returns-then-not-may_end
returns-then-not-may_end c =
    let off : c.may_end.result ≡ false = cc
    in let n = node_of c.args.step.now.node
    in let d = c.args.step.now.node.leader.directory
    in (
      none-if _ _
          (none-of-each (end_released c.args.script.now n c.args.from c.args.parcel)
          (fitting_bodies n.deeds c.args.parcel)
          (λ bodies.
          no-release c.args.script.now (step_to (with_directory n (with_left d c.args.from))) d
          c.args.step.now.node.deeds.bodies c.args.parcel refl refl (sym c.may_end.ensures ∙ off))),
      refl,
    )
