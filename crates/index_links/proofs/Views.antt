-- What kept nodes are seen as, and what is at hand of them.
use Rattle.std.proofs.Common.{◌≡◌, ℕ, ℤ, suc, ◌≤◌, List, [], ◌∷◌, length, Option, option_map, refl, sym, ap, ◌∙◌}
use Rattle.std.proofs.lemmas.Bool.{ne_eqb}
use Rattle.std.specs.List.{AllByRecursion}
use Rattle.number_maps.specs.Maps.{Numbered}
use Rattle.index_links.specs.declared.places.Link.{Link}
use Rattle.index_links.specs.declared.places.Place.{Place}
use Rattle.index_links.specs.Chains.{nowhere, or_blank, Path, linked, arrival_links, slots, Stands, LackSlot, IsKept, walk, nodes_from, node_in, slot_or_none}
use Rattle.index_links.specs.Nodes.{Node, first_slot}
use Rattle.index_links.proofs.Linked.{linked_else}
use Rattle.index_links.proofs.Standing.{slot_some}

module _ {V : Type 0} where
  -- the link of a node's place
  pub arrival_at : (places : List (Place V)) (ends : Link) (n : Node V) → length places ≤ nowhere
      → (s : Stands places n)
      → linked ends (arrival_links places) n.slot ≡ s.place.arrival
  arrival_at places ends n few s =
      linked_else ends (arrival_links places) n.slot (slot_some places n few s)
      ∙ ap or_blank (ap (option_map (λ (p : Place V). p.arrival)) s.there)

  abbrev pub with_class : Node V → ℤ → Node V
  with_class n c = record { slot = n.slot; class = c; value = n.value }

  -- the chain of all leads over the nodes
  walk_is : (places : List (Place V)) (ends : Link) (a : ℕ) (ns : List (Node V)) → length places ≤ nowhere
      → AllByRecursion (Stands places) ns → Path (linked ends (arrival_links places)) a (slots ns) nowhere
      → walk (length ns) places (linked ends (arrival_links places) a).next ≡ ns
  walk_is places ends a [] few stand path = refl
  walk_is places ends a (n ∷ ns) few stand path =
      let s : Stands places n = stand.0 in
      ap (walk (suc (length ns)) places) path.0
      ∙ (ap (λ (o : Option (Place V)). nodes_from n.slot o (walk (length ns) places)) s.there
      ∙ (ap (λ (v : Option V). node_in n.slot s.place v (walk (length ns) places s.place.arrival.next)) s.value
      ∙ (ap (λ (c : ℤ). with_class n c ∷ walk (length ns) places s.place.arrival.next)
      s.class
      ∙ ap (λ (xs : List (Node V)). n ∷ xs)
      (ap (λ (l : Link). walk (length ns) places l.next) (sym (arrival_at places ends n few s))
      ∙ walk_is places ends n.slot ns few stand.1 path.2))))

  pub view_is : (places : List (Place V)) (rows : Numbered Link) (ends : Link) (len : ℕ)
      → (k : IsKept places rows ends len) → walk len places ends.next ≡ k.nodes
  view_is places rows ends len k =
      ap (λ (m : ℕ). walk m places ends.next) k.count
      ∙ walk_is places ends nowhere k.nodes k.kept.few k.kept.stand k.kept.all

  -- where a path begins, as a slot
  pub head_is : (link : ℕ → Link) (a : ℕ) (ns : List (Node V)) → LackSlot nowhere ns → Path link a (slots ns) nowhere
      → slot_or_none (link a).next ≡ first_slot ns
  head_is link a [] lack path = ap slot_or_none path.0
  head_is link a (n ∷ ns) lack path = ap slot_or_none path.0 ∙ rw (ne_eqb n.slot nowhere lack.0) refl
