use Rattle.std.proofs.Common.{◌∙◌, [], Some, ap, refl, subst, sym}
use Rattle.std.proofs.lemmas.Result.{on_ok_weaker}
use Rattle.pico_base.specs.declared.numbers.Name.TheVariants.{Proc}
use Rattle.node_serve.specs.Callers.{waiting_with}
use Rattle.node_state.specs.Started.{started}
use Rattle.node_state.specs.State.{step_of}
use Rattle.world_model.specs.Step.{Step}
use Rattle.serve_rules.specs.declared.carrying.Held.{Held}
use Rattle.serve_rules.specs.Held.{IsServedHere}
use Rattle.serve_rules.proofs.Served.{acts}
use Rattle.serve_rules.proofs.own.act_waiting.Goals as goal

pub returns-in-AtOnce : goal.returns-in-AtOnce
returns-in-AtOnce c =
    on_ok_weaker c.carry_out_at_once.result
    (λ done.
    acts c.args.script.now (started (step_of c.args.step.now) c.args.call) (Proc c.args.step.now.node.pid) c.args.call
    c.who_starts-who.result c.args.step.now.node.deeds.bodies c.serve_held.new.deeds.bodies (Some c.in-AtOnce.reply) []
    c.in-AtOnce.reads [] refl c.who_starts-who.ensures
    (subst (λ (h : Held).
    IsServedHere c.args.step.now.node.deeds.bodies (Proc c.args.step.now.node.pid)
    (waiting_with c.who_starts-who.result c.args.call) c.serve_held.new.deeds.bodies h) c.in-AtOnce.is
    c.in_ok-served.ensures)
    ∙ ap (λ (t : Step). Some t) (sym done))
    c.carry_out_at_once.ensures

pub returns-in-Did : goal.returns-in-Did
returns-in-Did c =
    on_ok_weaker c.wait_or_wake.result
    (λ done.
    acts c.args.script.now (started (step_of c.args.step.now) c.args.call) (Proc c.args.step.now.node.pid) c.args.call
    c.who_starts-who.result c.args.step.now.node.deeds.bodies c.serve_held.new.deeds.bodies c.in-Did.own c.in-Did.wakes
    c.in-Did.reads c.in-Did.readers.items refl c.who_starts-who.ensures
    (subst (λ (h : Held).
    IsServedHere c.args.step.now.node.deeds.bodies (Proc c.args.step.now.node.pid)
    (waiting_with c.who_starts-who.result c.args.call) c.serve_held.new.deeds.bodies h) c.in-Did.is
    c.in_ok-served.ensures)
    ∙ ap (λ (t : Step). Some t) (sym done))
    c.wait_or_wake.ensures
