use Rattle.std.proofs.Common.{[], Option, Some, ap, refl, subst}
use Rattle.std.proofs.lemmas.Result.{on_ok_weaker}
use Rattle.node_model.specs.Kinds.{Named}
use Rattle.node_serve.specs.declared.body.Body.{Body}
use Rattle.node_serve.specs.declared.prompt.Replied.{Replied}
use Rattle.node_serve.specs.Bodies.{bodies_of}
use Rattle.node_serve.specs.Callers.{waiting_with}
use Rattle.node_serve.specs.Prompt.{AnswersOr}
use Rattle.node_state.specs.State.{step_of}
use Rattle.world_model.specs.Step.{carry_out, with_deeds}
use Rattle.serve_rules.proofs.Here.{answered-here}
use Rattle.serve_rules.proofs.Served.{as-before, serves}
use Rattle.serve_rules.proofs.serving.serve_asked.Goals as goal

pub returns-in-Some : goal.returns-in-Some
returns-in-Some c =
    on_ok_weaker c.end_asked.result
    (λ done.
    serves c.args.script.now (step_of c.args.step.now) (step_of c.strike_if.new.self)
    (carry_out c.args.script.now (step_of c.strike_if.new.self) c.args.asked c.in-Some.at.reply)
    (step_of c.end_asked.new.step) c.args.name c.args.asked c.who_asked-who.result c.args.step.now.node.deeds.bodies
    c.reply_at_once.new.deeds.bodies (Some c.in-Some.at.reply) [] c.in-Some.at.reads c.is_struck-struck.result [] []
    refl c.who_asked-who.ensures
    (answered-here c.args.step.now.node.deeds.bodies c.reply_at_once.new.deeds.bodies c.args.name
    (waiting_with c.who_asked-who.result c.args.asked.call) c.in-Some.at
    (subst (λ (o : Option Replied).
    AnswersOr c.args.step.now.node.deeds.bodies c.args.name (waiting_with c.who_asked-who.result c.args.asked.call)
    c.reply_at_once.new.deeds.bodies o) c.in-Some.is c.in_ok-answered.ensures))
    c.is_struck-struck.ensures c.strike_if.ensures refl refl done)
    c.end_asked.ensures

pub returns-in-None : goal.returns-in-None
returns-in-None c =
    as-before c.serve_any.result c.args.script.now (step_of c.args.step.now)
    (step_of (record c.args.step.now { node = record c.args.step.now.node { deeds = c.reply_at_once.new.deeds } }))
    (step_of c.serve_any.new.step) c.args.name c.args.asked
    (ap (λ (b : Named Body). with_deeds (step_of c.args.step.now) (bodies_of b))
    (subst (λ (o : Option Replied).
    AnswersOr c.args.step.now.node.deeds.bodies c.args.name (waiting_with c.who_asked-who.result c.args.asked.call)
    c.reply_at_once.new.deeds.bodies o) c.in-None.is c.in_ok-answered.ensures))
    c.serve_any.ensures
