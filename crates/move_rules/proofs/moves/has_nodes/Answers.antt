use Rattle.std.proofs.Common.{◌∙◌, ap}
use Rattle.std.specs.List.{list_all}
use Rattle.std.proofs.lemmas.List.Folds.{list_all-map}
use Rattle.node_model.specs.Bodies.{waiters_of}
use Rattle.node_serve.specs.Bodies.{body_of}
use Rattle.world_model.specs.Node.{is_node}
use Rattle.move_rules.proofs.moves.has_nodes.Goals as goal

-- the nodes that are tested are those of the waiters
pub returns : goal.returns
returns c =
    c.are_nodes.ensures
    ∙ ap (list_all (is_node c.args.script.now)) (c.as_slice.ensures.value ∙ c.in_ok-nodes.ensures)
    ∙ list_all-map (is_node c.args.script.now) (λ w. w.caller) (waiters_of (body_of c.args.body.now))
