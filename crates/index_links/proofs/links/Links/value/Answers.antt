use Rattle.std.proofs.Common.{◌≡◌, ◌<◌, ℕ, List, length, Some, None, option_map, sym, ap, subst, ◌∙◌}
use Rattle.std.specs.List.{slice_get}
use Rattle.index_links.specs.declared.places.Place.{Place}
use Rattle.index_links.specs.Nodes.{Node, IsThere, node_at}
use Rattle.index_links.proofs.AtHand.{value_kept, within_kept}
use Rattle.index_links.proofs.Seen.{seen}
use Rattle.index_links.proofs.Splits.{Split, split_at}
use Rattle.index_links.proofs.links.Links.value.Goals as goal

pub place_at-requires : goal.place_at-requires
place_at-requires g c =
    let nodes : c.self.invariant.nodes ≡ c.args.self.now.nodes = seen _ _ _ _ _ _ c.self.invariant c.self.view_is in
    let there : IsThere c.slot.inside.0 c.self.invariant.nodes =
    subst (λ (i : ℕ). IsThere i c.self.invariant.nodes) (sym c.slot.view_is)
    (subst (λ (ns : List (Node g.row.T.Denot)). IsThere c.args.slot ns) (sym nodes) c.requires) in
    subst (λ (places : List (Place g.row.T.Denot)). c.slot.inside.0 < length places) (sym c.deref.ensures.value)
    (within_kept _ _ _ _ c.self.invariant c.slot.inside.0 (split_at c.slot.inside.0 c.self.invariant.nodes there))

pub unreachable-requires : goal.unreachable-requires
unreachable-requires g c =
    let nodes : c.self.invariant.nodes ≡ c.args.self.now.nodes = seen _ _ _ _ _ _ c.self.invariant c.self.view_is in
    let there : IsThere c.slot.inside.0 c.self.invariant.nodes =
    subst (λ (i : ℕ). IsThere i c.self.invariant.nodes) (sym c.slot.view_is)
    (subst (λ (ns : List (Node g.row.T.Denot)). IsThere c.args.slot ns) (sym nodes) c.requires) in
    let place : slice_get c.self.inside.kept.places.items c.slot.inside.0 ≡ Some c.place_at.result.now =
    subst (λ (places : List (Place g.row.T.Denot)). slice_get places c.slot.inside.0 ≡ Some c.place_at.result.now)
    c.deref.ensures.value c.place_at.ensures in
    let s : Split c.slot.inside.0 c.self.invariant.nodes = split_at c.slot.inside.0 c.self.invariant.nodes there in
    let value = value_kept _ _ _ _ c.self.invariant c.slot.inside.0 c.place_at.result.now s place in
    let clash : None ≡ Some s.node.value =
    sym c.in-None.is ∙ (value ∙ ap (option_map (λ (n : Node g.row.T.Denot). n.value)) s.found) in
    absurd (cc)

pub returns : goal.returns
returns g c =
    let nodes : c.self.invariant.nodes ≡ c.args.self.now.nodes = seen _ _ _ _ _ _ c.self.invariant c.self.view_is in
    let there : IsThere c.slot.inside.0 c.self.invariant.nodes =
    subst (λ (i : ℕ). IsThere i c.self.invariant.nodes) (sym c.slot.view_is)
    (subst (λ (ns : List (Node g.row.T.Denot)). IsThere c.args.slot ns) (sym nodes) c.requires) in
    let place : slice_get c.self.inside.kept.places.items c.slot.inside.0 ≡ Some c.place_at.result.now =
    subst (λ (places : List (Place g.row.T.Denot)). slice_get places c.slot.inside.0 ≡ Some c.place_at.result.now)
    c.deref.ensures.value c.place_at.ensures in
    let s : Split c.slot.inside.0 c.self.invariant.nodes = split_at c.slot.inside.0 c.self.invariant.nodes there in
    let value = value_kept _ _ _ _ c.self.invariant c.slot.inside.0 c.place_at.result.now s place in
    ap (λ (i : ℕ). option_map (λ (n : Node g.row.T.Denot). n.value) (node_at i c.args.self.now.nodes))
    (sym c.slot.view_is)
    ∙ (ap
    (λ (ns : List (Node g.row.T.Denot)). option_map (λ (n : Node g.row.T.Denot). n.value)
    (node_at c.slot.inside.0 ns))
    (sym nodes)
    ∙ (sym value ∙ c.in-Some.is))
