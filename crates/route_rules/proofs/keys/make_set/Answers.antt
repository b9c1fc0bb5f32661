use Rattle.std.proofs.lemmas.Result.{on_ok_weaker}
use Rattle.node_state.specs.Leader.{leader_of}
use Rattle.node_state.specs.State.{node_of, step_of}
use Rattle.route_rules.proofs.Making.{set-made}
use Rattle.route_rules.proofs.keys.make_set.Goals as goal

pub returns : goal.returns
returns c =
    on_ok_weaker c.put_in_place.result
    (λ done.
    set-made c.args.script.now (step_of c.args.step.now) (step_of c.put_in_place.new.step) c.args.asked c.args.key
    c.args.count c.in_ok-number.number (node_of c.take_number.new.node) (node_of c.new_set.new.node)
    c.in_ok-name.name (leader_of c.bind_set.new.self) c.in_ok-number.ensures c.in_ok-name.ensures
    c.in_ok-bind_set.ensures done)
    c.put_in_place.ensures
