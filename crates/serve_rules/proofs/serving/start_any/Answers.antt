use Rattle.std.proofs.Common.{◌∙◌, [], Some, ap, refl, subst}
use Rattle.std.proofs.lemmas.Result.{on_ok_weaker}
use Rattle.node_serve.specs.Callers.{waiting_with}
use Rattle.node_state.specs.Started.{started}
use Rattle.node_state.specs.State.{step_of}
use Rattle.world_model.specs.Node.{asked_here}
use Rattle.world_model.specs.Step.{Step, carry_out, carry_out_waking}
use Rattle.serve_rules.specs.declared.carrying.Held.{Held}
use Rattle.serve_rules.specs.Held.{IsServedHere}
use Rattle.serve_rules.proofs.Served.{serves}
use Rattle.serve_rules.proofs.serving.start_any.Goals as goal

pub returns-in_ok-carry_out_at_once-in-AtOnce : goal.returns-in_ok-carry_out_at_once-in-AtOnce
returns-in_ok-carry_out_at_once-in-AtOnce c =
    let s : Step = started (step_of c.args.step.now) c.args.call
    in let struck : Step = started (step_of c.strike_if.new.self) c.args.call
    in on_ok_weaker c.note_caller.result
    (λ done.
    serves c.args.script.now s struck (step_of c.carry_out_at_once.new.self) (step_of c.note_caller.new.step)
    c.args.name
    (asked_here s.node c.args.call) c.who_starts-who.result c.args.step.now.node.deeds.bodies
    c.serve_held.new.deeds.bodies (Some c.in-AtOnce.reply) [] c.in-AtOnce.reads c.is_struck-struck.result [] [] refl
    c.who_starts-who.ensures
    (subst (λ (h : Held).
    IsServedHere c.args.step.now.node.deeds.bodies c.args.name (waiting_with c.who_starts-who.result c.args.call)
    c.serve_held.new.deeds.bodies h) c.in-AtOnce.is c.in_ok-served.ensures)
    c.is_struck-struck.ensures (ap (λ (t : Step). started t c.args.call) c.strike_if.ensures)
    (c.in_ok-carry_out_at_once-in-AtOnce.ensures
    ∙ ap (λ (t : Step).
    carry_out c.args.script.now struck (asked_here (started t c.args.call).node c.args.call) c.in-AtOnce.reply)
    c.strike_if.ensures)
    refl done)
    c.note_caller.ensures

pub returns-in_ok-wait_or_wake-in-Did : goal.returns-in_ok-wait_or_wake-in-Did
returns-in_ok-wait_or_wake-in-Did c =
    let s : Step = started (step_of c.args.step.now) c.args.call
    in let struck : Step = started (step_of c.strike_if-in-Did.new.self) c.args.call
    in on_ok_weaker c.note_reads.result
    (λ done.
    serves c.args.script.now s struck (step_of c.wait_or_wake.new.step) (step_of c.note_reads.new.step) c.args.name
    (asked_here s.node c.args.call) c.who_starts-who.result c.args.step.now.node.deeds.bodies
    c.serve_held.new.deeds.bodies c.in-Did.own c.in-Did.wakes c.in-Did.reads c.is_struck-struck.result
    c.in-Did.readers.items c.as_slice.result.now refl c.who_starts-who.ensures
    (subst (λ (h : Held).
    IsServedHere c.args.step.now.node.deeds.bodies c.args.name (waiting_with c.who_starts-who.result c.args.call)
    c.serve_held.new.deeds.bodies h) c.in-Did.is c.in_ok-served.ensures)
    c.is_struck-struck.ensures (ap (λ (t : Step). started t c.args.call) c.strike_if-in-Did.ensures)
    (c.in_ok-wait_or_wake-in-Did.ensures
    ∙ ap (λ (t : Step).
    carry_out_waking c.args.script.now struck (asked_here (started t c.args.call).node c.args.call) c.in-Did.own
    c.in-Did.wakes) c.strike_if-in-Did.ensures)
    c.as_slice.ensures.value done)
    c.note_reads.ensures
