use Rattle.std.proofs.Common.{◌≡◌, ◌<◌, ℕ, List, length, Some, option_map, SFits, w32, sym, ap, subst, ◌∙◌, rules}
use Rattle.std.proofs.lemmas.Int.{to_z-of_z}
use Rattle.std.specs.List.{slice_get}
use Rattle.index_links.specs.declared.places.Place.{Place}
use Rattle.index_links.specs.Nodes.{Node, IsThere, node_at}
use Rattle.index_links.proofs.AtHand.{class_kept, within_kept}
use Rattle.index_links.proofs.Seen.{seen}
use Rattle.index_links.proofs.Splits.{split_at}
use Rattle.index_links.proofs.links.Links.class.Goals as goal

pub place_at-requires : goal.place_at-requires
place_at-requires g c =
    let nodes : c.self.invariant.nodes ≡ c.args.self.now.nodes = seen _ _ _ _ _ _ c.self.invariant c.self.view_is in
    let there : IsThere c.slot.inside.0 c.self.invariant.nodes =
    subst (λ (i : ℕ). IsThere i c.self.invariant.nodes) (sym c.slot.view_is)
    (subst (λ (ns : List (Node g.row.T.Denot)). IsThere c.args.slot ns) (sym nodes) c.requires) in
    subst (λ (places : List (Place g.row.T.Denot)). c.slot.inside.0 < length places) (sym c.deref.ensures.value)
    (within_kept _ _ _ _ c.self.invariant c.slot.inside.0 (split_at c.slot.inside.0 c.self.invariant.nodes there))

pub returns : goal.returns
returns g c =
    let nodes : c.self.invariant.nodes ≡ c.args.self.now.nodes = seen _ _ _ _ _ _ c.self.invariant c.self.view_is in
    let there : IsThere c.slot.inside.0 c.self.invariant.nodes =
    subst (λ (i : ℕ). IsThere i c.self.invariant.nodes) (sym c.slot.view_is)
    (subst (λ (ns : List (Node g.row.T.Denot)). IsThere c.args.slot ns) (sym nodes) c.requires) in
    let place : slice_get c.self.inside.kept.places.items c.slot.inside.0 ≡ Some c.place_at.result.now =
    subst (λ (places : List (Place g.row.T.Denot)). slice_get places c.slot.inside.0 ≡ Some c.place_at.result.now)
    c.deref.ensures.value c.place_at.ensures in
    let fits : SFits w32 c.class_of.result = search rules in
    rw (to_z-of_z w32 c.class_of.result fits)
    (ap (λ (i : ℕ). option_map (λ (n : Node g.row.T.Denot). n.class) (node_at i c.args.self.now.nodes))
    (sym c.slot.view_is)
    ∙ (ap
    (λ (ns : List (Node g.row.T.Denot)). option_map (λ (n : Node g.row.T.Denot). n.class)
    (node_at c.slot.inside.0 ns))
    (sym nodes)
    ∙ (class_kept _ _ _ _ c.self.invariant c.slot.inside.0 c.place_at.result.now
    (split_at c.slot.inside.0 c.self.invariant.nodes there) place
    ∙ ap Some (sym c.class_of.ensures))))
