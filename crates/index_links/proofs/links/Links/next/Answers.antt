use Rattle.std.proofs.Common.{◌≡◌, ◌<◌, ℕ, List, length, Some, sym, ap, subst, ◌∙◌}
use Rattle.std.specs.List.{slice_get}
use Rattle.index_links.specs.declared.places.Place.{Place}
use Rattle.index_links.specs.Nodes.{Node, IsThere, slot_after}
use Rattle.index_links.proofs.AtHand.{next_kept, within_kept}
use Rattle.index_links.proofs.Seen.{seen}
use Rattle.index_links.proofs.Splits.{after_there, if_given, split_at}
use Rattle.index_links.proofs.links.Links.next.Goals as goal

pub place_at-requires : goal.place_at-requires
place_at-requires g c =
    let nodes : c.self.invariant.nodes ≡ c.args.self.now.nodes = seen _ _ _ _ _ _ c.self.invariant c.self.view_is in
    let there : IsThere c.slot.inside.0 c.self.invariant.nodes =
    subst (λ (i : ℕ). IsThere i c.self.invariant.nodes) (sym c.slot.view_is)
    (subst (λ (ns : List (Node g.row.T.Denot)). IsThere c.args.slot ns) (sym nodes) c.requires) in
    subst (λ (places : List (Place g.row.T.Denot)). c.slot.inside.0 < length places) (sym c.deref.ensures.value)
    (within_kept _ _ _ _ c.self.invariant c.slot.inside.0 (split_at c.slot.inside.0 c.self.invariant.nodes there))

pub returns-clause-slot : goal.returns-clause-slot
returns-clause-slot g c =
    let nodes : c.self.invariant.nodes ≡ c.args.self.now.nodes = seen _ _ _ _ _ _ c.self.invariant c.self.view_is in
    let there : IsThere c.slot.inside.0 c.self.invariant.nodes =
    subst (λ (i : ℕ). IsThere i c.self.invariant.nodes) (sym c.slot.view_is)
    (subst (λ (ns : List (Node g.row.T.Denot)). IsThere c.args.slot ns) (sym nodes) c.requires) in
    let place : slice_get c.self.inside.kept.places.items c.slot.inside.0 ≡ Some c.place_at.result.now =
    subst (λ (places : List (Place g.row.T.Denot)). slice_get places c.slot.inside.0 ≡ Some c.place_at.result.now)
    c.deref.ensures.value c.place_at.ensures in
    c.slot_at.ensures
    ∙ (next_kept _ _ _ _ c.self.invariant c.slot.inside.0 c.place_at.result.now
    (split_at c.slot.inside.0 c.self.invariant.nodes there) place
    ∙ (ap (λ (i : ℕ). slot_after i c.self.invariant.nodes) c.slot.view_is ∙ ap (slot_after c.args.slot) nodes))

pub returns-clause-there : goal.returns-clause-there
returns-clause-there g c =
    if_given _ (slot_after c.args.slot c.args.self.now.nodes) (λ (slot : ℕ). IsThere slot c.args.self.now.nodes)
    (returns-clause-slot g c) (λ s is. after_there c.args.slot c.args.self.now.nodes s is)
