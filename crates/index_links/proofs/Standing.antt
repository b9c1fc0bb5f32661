-- Nodes that are kept in places: they stay kept where one is added, or taken out.
use Rattle.std.proofs.Common.{◌≡◌, ◌≢◌, ◌⊎◌, ℕ, ◌<◌, ◌≤◌, Bool, true, false, cond, List, [], ◌∷◌, ◌++◌, length, Option, Some, None, option_map, nat_eq, refl, ap, ◌∙◌, inl, inr, arith}
use Rattle.std.proofs.lemmas.Bool.{eq-eqb, ne_eqb}
use Rattle.std.proofs.lemmas.List.{map-append}
use Rattle.std.proofs.lemmas.List.Elements.{filter-append}
use Rattle.std.proofs.lemmas.Option.{slice_get_within}
use Rattle.std.specs.List.{AllByRecursion, slice_get}
use Rattle.number_maps.proofs.Order.{same-from-nat_eq}
use Rattle.index_links.specs.declared.places.Place.{Place}
use Rattle.index_links.specs.Chains.{nowhere, Change, arrival_links, alike_links, relinked, AreRelinked, slots, of_key, Stands, LackSlot}
use Rattle.index_links.specs.Keys.{key_of}
use Rattle.index_links.specs.Nodes.{Node}
use Rattle.index_links.proofs.Paths.{Lack}
use Rattle.index_links.proofs.Linked.{IsValid}

-- ---- lists

-- what holds of all holds with one more
pub all_behind : {X : Type 0} (P : X → Type 0) (xs : List X) (x : X) → AllByRecursion P xs → P x
    → AllByRecursion P (xs ++ x ∷ [])
all_behind P [] x ps p = (p, tt)
all_behind P (y ∷ ys) x ps p = (ps.0, all_behind P ys x ps.1 p)

-- of the parts of a list
pub all_parts : {X : Type 0} (P : X → Type 0) (xs : List X) (x : X) (ys : List X) → AllByRecursion P (xs ++ x ∷ ys)
    → AllByRecursion P xs × P x × AllByRecursion P ys
all_parts P [] x ys ps = (tt, ps.0, ps.1)
all_parts P (z ∷ zs) x ys ps = let h = all_parts P zs x ys ps.1 in ((ps.0, h.0), h.1, h.2)

-- of two lists together
pub all_join : {X : Type 0} (P : X → Type 0) (xs ys : List X) → AllByRecursion P xs → AllByRecursion P ys
    → AllByRecursion P (xs ++ ys)
all_join P [] ys ps qs = qs
all_join P (x ∷ xs) ys ps qs = (ps.0, all_join P xs ys ps.1 qs)

-- what follows of each
pub all_map : {X : Type 0} (P Q : X → Type 0) → ((x : X) → P x → Q x) → (xs : List X) → AllByRecursion P xs
    → AllByRecursion Q xs
all_map P Q f [] ps = tt
all_map P Q f (x ∷ xs) ps = (f x ps.0, all_map P Q f xs ps.1)

-- of each two things
pub all_both : {X : Type 0} (P Q : X → Type 0) (xs : List X) → AllByRecursion P xs → AllByRecursion Q xs
    → AllByRecursion (λ x. P x × Q x) xs
all_both P Q [] ps qs = tt
all_both P Q (x ∷ xs) ps qs = ((ps.0, qs.0), all_both P Q xs ps.1 qs.1)

module _ {V : Type 0} where
  -- what holds of the nodes' slots holds of those of a class
  pub all_slots : (P : ℕ → Type 0) (ns : List (Node V)) → AllByRecursion (λ (n : Node V). P n.slot) ns
      → AllByRecursion P (slots ns)
  all_slots P [] ps = tt
  all_slots P (n ∷ ns) ps = (ps.0, all_slots P ns ps.1)

  chosen : (P : ℕ → Type 0) (key : ℕ) (n : Node V) (xs : List (Node V)) (b : Bool) → nat_eq (key_of n.class) key ≡ b
      → (key_of n.class ≡ key → P n.slot) → AllByRecursion P (slots xs) → AllByRecursion P (slots (cond b (n ∷ xs) xs))
  chosen P key n xs true is p ps = (p (same-from-nat_eq (key_of n.class) key is), ps)
  chosen P key n xs false is p ps = ps

  pub all_of_key : (P : ℕ → Type 0) (key : ℕ) (ns : List (Node V))
      → AllByRecursion (λ (n : Node V). key_of n.class ≡ key → P n.slot) ns → AllByRecursion P (slots (of_key key ns))
  all_of_key P key [] ps = tt
  all_of_key P key (n ∷ ns) ps =
      chosen P key n (of_key key ns) (nat_eq (key_of n.class) key) refl ps.0 (all_of_key P key ns ps.1)

  -- the nodes of a class among more
  pub slots_behind : (ns : List (Node V)) (n : Node V) → slots (ns ++ n ∷ []) ≡ slots ns ++ n.slot ∷ []
  slots_behind ns n = map-append (λ (m : Node V). m.slot) ns (n ∷ [])

  pub slots_join : (ns ms : List (Node V)) → slots (ns ++ ms) ≡ slots ns ++ slots ms
  slots_join ns ms = map-append (λ (m : Node V). m.slot) ns ms

  pub of_key_join : (key : ℕ) (ns ms : List (Node V))
      → slots (of_key key (ns ++ ms)) ≡ slots (of_key key ns) ++ slots (of_key key ms)
  of_key_join key ns ms =
      ap slots (filter-append (λ (n : Node V). nat_eq (key_of n.class) key) ns ms)
      ∙ slots_join (of_key key ns) (of_key key ms)

  pub of_key_same : (key : ℕ) (n : Node V) (ns : List (Node V)) → key_of n.class ≡ key
      → slots (of_key key (n ∷ ns)) ≡ n.slot ∷ slots (of_key key ns)
  of_key_same key n ns same = rw (eq-eqb (key_of n.class) key same) refl

  pub of_key_other : (key : ℕ) (n : Node V) (ns : List (Node V)) → key_of n.class ≢ key
      → slots (of_key key (n ∷ ns)) ≡ slots (of_key key ns)
  of_key_other key n ns ne = rw (ne_eqb (key_of n.class) key ne) refl

  -- ---- places

  -- a node's slot is no number of no place
  pub slot_some : (places : List (Place V)) (n : Node V) → length places ≤ nowhere → Stands places n → n.slot ≢ nowhere
  slot_some places n few s same =
      let within : n.slot < length places = slice_get_within places n.slot s.place s.there in absurd (omega arith)

  pub stands_relinked : (f g : Change) (old new : List (Place V)) (n : Node V) → AreRelinked f g old new → Stands old n
      → Stands new n
  stands_relinked f g old new n r s = record {
    place = relinked f g n.slot s.place;
    there = r.each n.slot ∙ ap (option_map (relinked f g n.slot)) s.there;
    key = s.key;
    class = s.class;
    value = s.value;
  }

  pub stands_else : (at : ℕ) (old new : List (Place V)) (n : Node V)
      → ((i : ℕ) → i ≢ at → slice_get new i ≡ slice_get old i) → n.slot ≢ at → Stands old n → Stands new n
  stands_else at old new n others ne s = record {
    place = s.place;
    there = others n.slot ne ∙ s.there;
    key = s.key;
    class = s.class;
    value = s.value;
  }

  -- what is in a place that isn't the changed one
  pub arrival_else : (f g : Change) (at : ℕ) (p0 p1 p2 : List (Place V))
      → ((i : ℕ) → i ≢ at → slice_get p1 i ≡ slice_get p0 i) → AreRelinked f g p1 p2 → (i : ℕ) → i ≢ at
      → arrival_links p2 i ≡ option_map (f i) (arrival_links p0 i)
  arrival_else f g at p0 p1 p2 others r i ne =
      ap (option_map (λ (p : Place V). p.arrival)) (r.each i ∙ ap (option_map (relinked f g i)) (others i ne))
      ∙ of_option (slice_get p0 i)
    where
      of_option : (o : Option (Place V)) → option_map (λ (p : Place V). p.arrival) (option_map (relinked f g i) o)
          ≡ option_map (f i) (option_map (λ (p : Place V). p.arrival) o)
      of_option None = refl
      of_option (Some p) = refl

  pub alike_else : (f g : Change) (at : ℕ) (p0 p1 p2 : List (Place V))
      → ((i : ℕ) → i ≢ at → slice_get p1 i ≡ slice_get p0 i) → AreRelinked f g p1 p2 → (i : ℕ) → i ≢ at
      → alike_links p2 i ≡ option_map (g i) (alike_links p0 i)
  alike_else f g at p0 p1 p2 others r i ne =
      ap (option_map (λ (p : Place V). p.alike)) (r.each i ∙ ap (option_map (relinked f g i)) (others i ne))
      ∙ of_option (slice_get p0 i)
    where
      of_option : (o : Option (Place V)) → option_map (λ (p : Place V). p.alike) (option_map (relinked f g i) o)
          ≡ option_map (g i) (option_map (λ (p : Place V). p.alike) o)
      of_option None = refl
      of_option (Some p) = refl

  -- a place that is a node's of this class, or the number of no place
  pub record HasKey (places : List (Place V)) (key i : ℕ) : Type 0 where
    pub place : Place V
    pub there : slice_get places i ≡ Some place
    pub is : place.key ≡ key

  abbrev pub InClass : List (Place V) → ℕ → ℕ → Type 0
  InClass places key i = (i ≡ nowhere) ⊎ HasKey places key i

  pub in_class : (places : List (Place V)) (key : ℕ) (ns : List (Node V)) → AllByRecursion (Stands places) ns
      → AllByRecursion (InClass places key) (slots (of_key key ns))
  in_class places key ns stand =
      all_of_key (InClass places key) key ns
      (all_map (Stands places) (λ (n : Node V). key_of n.class ≡ key → InClass places key n.slot)
      (λ n s same. inr (record { place = s.place; there = s.there; is = s.key ∙ same })) ns stand)

  pub valid_arrival : (places : List (Place V)) (ns : List (Node V)) → AllByRecursion (Stands places) ns
      → AllByRecursion (IsValid (arrival_links places)) (slots ns)
  valid_arrival places ns stand =
      all_slots (IsValid (arrival_links places)) ns
      (all_map (Stands places) (λ (n : Node V). IsValid (arrival_links places) n.slot)
      (λ n s. inr (s.place.arrival, ap (option_map (λ (p : Place V). p.arrival)) s.there)) ns stand)

  pub in_class_valid : (places : List (Place V)) (key i : ℕ) → InClass places key i → IsValid (alike_links places) i
  in_class_valid places key i h =
      elim h [
        | inl end ↦ inl end
        | inr p ↦ inr (p.place.alike, ap (option_map (λ (q : Place V). q.alike)) p.there)
      ]

  pub lack_all : (x : ℕ) (ns : List (Node V)) → LackSlot x ns → Lack x (slots ns)
  lack_all x ns lack = all_slots (λ i. i ≢ x) ns lack

  pub lack_of_key : (x key : ℕ) (ns : List (Node V)) → LackSlot x ns → Lack x (slots (of_key key ns))
  lack_of_key x key ns lack =
      all_of_key (λ i. i ≢ x) key ns
      (all_map (λ (n : Node V). n.slot ≢ x) (λ (n : Node V). key_of n.class ≡ key → n.slot ≢ x)
      (λ n ne same. ne) ns lack)

  pub lack_nowhere : (places : List (Place V)) (ns : List (Node V)) → length places ≤ nowhere
      → AllByRecursion (Stands places) ns → LackSlot nowhere ns
  lack_nowhere places ns few stand =
      all_map (Stands places) (λ (n : Node V). n.slot ≢ nowhere) (λ n s. slot_some places n few s) ns stand
