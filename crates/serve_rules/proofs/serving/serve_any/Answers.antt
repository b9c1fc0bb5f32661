use Rattle.std.proofs.Common.{[], Some, refl, subst}
use Rattle.std.proofs.lemmas.Result.{on_ok_weaker}
use Rattle.node_serve.specs.Callers.{waiting_with}
use Rattle.node_state.specs.State.{step_of}
use Rattle.serve_rules.specs.declared.carrying.Held.{Held}
use Rattle.serve_rules.specs.Held.{IsServedHere}
use Rattle.serve_rules.proofs.Served.{serves}
use Rattle.serve_rules.proofs.serving.serve_any.Goals as goal

pub returns-in_ok-carry_out-in-AtOnce : goal.returns-in_ok-carry_out-in-AtOnce
returns-in_ok-carry_out-in-AtOnce c =
    on_ok_weaker c.note_caller.result
    (λ done.
    serves c.args.script.now (step_of c.args.step.now) (step_of c.strike_if.new.self) (step_of c.carry_out.new.self)
    (step_of c.note_caller.new.step) c.args.name c.args.asked c.who_asked-who.result
    c.args.step.now.node.deeds.bodies c.serve_held.new.deeds.bodies (Some c.in-AtOnce.reply) [] c.in-AtOnce.reads
    c.is_struck-struck.result [] [] refl c.who_asked-who.ensures
    (subst (λ (h : Held).
    IsServedHere c.args.step.now.node.deeds.bodies c.args.name (waiting_with c.who_asked-who.result c.args.asked.call)
    c.serve_held.new.deeds.bodies h) c.in-AtOnce.is c.in_ok-served.ensures)
    c.is_struck-struck.ensures c.strike_if.ensures c.in_ok-carry_out-in-AtOnce.ensures refl done)
    c.note_caller.ensures

pub returns-in_ok-carry_out_waking-in-Did : goal.returns-in_ok-carry_out_waking-in-Did
returns-in_ok-carry_out_waking-in-Did c =
    on_ok_weaker c.note_reads.result
    (λ done.
    serves c.args.script.now (step_of c.args.step.now) (step_of c.strike_if-in-Did.new.self)
    (step_of c.carry_out_waking.new.self) (step_of c.note_reads.new.step) c.args.name c.args.asked
    c.who_asked-who.result c.args.step.now.node.deeds.bodies c.serve_held.new.deeds.bodies c.in-Did.own c.in-Did.wakes
    c.in-Did.reads c.is_struck-struck.result c.in-Did.readers.items c.as_slice.result.now refl c.who_asked-who.ensures
    (subst (λ (h : Held).
    IsServedHere c.args.step.now.node.deeds.bodies c.args.name (waiting_with c.who_asked-who.result c.args.asked.call)
    c.serve_held.new.deeds.bodies h) c.in-Did.is c.in_ok-served.ensures)
    c.is_struck-struck.ensures c.strike_if-in-Did.ensures c.in_ok-carry_out_waking-in-Did.ensures
    c.as_slice.ensures.value done)
    c.note_reads.ensures
