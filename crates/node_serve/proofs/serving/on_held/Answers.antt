use Rattle.std.proofs.Common.{sym}
use Rattle.node_serve.specs.Callers.{waiting_with}
use Rattle.node_serve.proofs.ServingLemmas.{comes-serves, kept-as-before}
use Rattle.node_serve.proofs.serving.on_held.Goals as goal

pub returns-in_err-on_body-in-Some-clause-err : goal.returns-in_err-on_body-in-Some-clause-err
returns-in_err-on_body-in-Some-clause-err c =
    kept-as-before c.from_residual.result c.args.deeds.now.bodies c.args.name c.in-Some.body.now c.on_body.new.body
    (sym c.in-Some.ensures.value)
    c.in_err-on_body-in-Some.ensures.err

pub returns-in_ok-on_body-in-Some-clause-ok : goal.returns-in_ok-on_body-in-Some-clause-ok
returns-in_ok-on_body-in-Some-clause-ok c =
    comes-serves c.args.deeds.now.bodies c.args.name (waiting_with c.args.who.now c.args.call.now) c.in-Some.body.now
    c.on_body.new.body c.in_ok-on_body-in-Some.field-0 c.rise.ensures (sym c.in-Some.ensures.value)
    c.in_ok-on_body-in-Some.ensures.ok
