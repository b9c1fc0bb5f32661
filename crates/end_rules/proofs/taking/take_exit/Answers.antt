use Rattle.std.proofs.Common.{◌≡◌, ◌∙◌, false, refl, sym}
use Rattle.world_model.specs.Step.{step_to}
use Rattle.node_state.specs.State.{node_of}
use Rattle.end_rules.proofs.Takes.{no-exit-by, none-if}
use Rattle.end_rules.proofs.taking.take_exit.Goals as goal

pub returns-then-not-lets_end : goal.returns-then-not-lets_end
returns-then-not-lets_end c =
    let off : c.lets_end.result ≡ false = cc
    in (
      none-if _ _
          (no-exit-by c.args.script.now (step_to (node_of c.args.step.now.node)) c.args.step.now.node.deeds.bodies
          c.args.parcel refl (sym c.lets_end.ensures ∙ off)),
      refl,
    )
