use Rattle.std.proofs.Common.{List, map, replicate, [], refl, sym, ap, subst, ◌∙◌}
use Rattle.world_model.specs.Node.{Node, opening_node}
use Rattle.world_model.specs.World.{numbers, node_count}
use Rattle.world_core.specs.State.{whole, AreWhole}
use Rattle.world_core.proofs.Openings.{opening-seats}
use Rattle.world_core.proofs.Wholes.{whole-map, AreWhole-map, same_world}
use Rattle.world_core.proofs.state.State.start.Goals as goal

pub returns-clause-made : goal.returns-clause-made
returns-clause-made c =
    let size = node_count c.args.script
    in let nodes : List Node = map opening_node (numbers 1 size)
    in (
      subst AreWhole (sym c.in_ok-nodes.ensures) (AreWhole-map nodes),
      same_world c.args.script c.args.script (whole c.in_ok-nodes.nodes.items) nodes c.in_ok-inboxes.inboxes.items
          (replicate size (replicate size [])) c.empty.result.entries [] refl
          (ap whole c.in_ok-nodes.ensures ∙ whole-map nodes)
          (c.in_ok-inboxes.ensures ∙ ap (λ k. replicate k (replicate k [])) c.len.ensures) c.empty.ensures.entries,
    )

pub count_all-requires : goal.count_all-requires
count_all-requires c =
    opening-seats c.args.script c.len.result _ _ c.requires (c.deref.ensures.value ∙ c.in_ok-nodes.ensures)
    (c.deref-2.ensures.value ∙ c.in_ok-inboxes.ensures) c.len.ensures
