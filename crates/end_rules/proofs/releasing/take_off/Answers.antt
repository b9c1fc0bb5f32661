use Rattle.std.proofs.Common.{sym, subst}
use Rattle.node_model.specs.declared.held.Held.{Held}
use Rattle.node_state.specs.State.{step_of}
use Rattle.end_rules.specs.Ending.{GoesOn}
use Rattle.end_rules.proofs.Rounds.{call-goes-on}
use Rattle.end_rules.proofs.releasing.take_off.Goals as goal

pub returns-in_ok-route_held-in-Request : goal.returns-in_ok-route_held-in-Request
returns-in_ok-route_held-in-Request c =
    subst (λ (item : Held).
    GoesOn c.args.script.now (step_of c.args.step.now) item (step_of c.route_held.new.step)) (sym c.in-Request.is)
    (call-goes-on c.args.script.now (step_of c.args.step.now) (step_of c.route_held.new.step) c.in-Request.asked
    c.places_rise.ensures c.in_ok-route_held-in-Request.ensures)
