-- What is at hand of kept nodes: the first, the first of a class, the next, a value, and the lowest class.
use Rattle.std.proofs.Common.{◌≡◌, ◌≢◌, ℕ, ◌<◌, ◌≤◌, ℤ, ◌≤ℤ◌, Bool, true, false, cond, List, [], ◌∷◌, length, Option, Some, None, option_map, nat_eq, if◌then◌else◌, refl, sym, ap, subst, ◌∙◌, inl, inr, arith}
use Rattle.std.proofs.lemmas.Bool.{cases_eq, cases_order, cases_Bool, eq-eqb, ne_eqb, eqb-false}
use Rattle.std.proofs.lemmas.Option.{slice_get_within}
use Rattle.std.specs.List.{AllByRecursion, slice_get}
use Rattle.std.specs.Prelude.{int_le}
use Rattle.number_maps.specs.Maps.{Numbered, get}
use Rattle.number_maps.specs.Rising.{IsRising}
use Rattle.number_maps.proofs.LookUps.{get-first, get-later}
use Rattle.number_maps.proofs.Rising.{Above, above-first, above-lower, get-above, rising-rest}
use Rattle.index_links.specs.declared.places.Link.{Link}
use Rattle.index_links.specs.declared.places.Place.{Place}
use Rattle.index_links.specs.Chains.{nowhere, blank, or_blank, Chain, linked, row_at, arrival_links, alike_links, slots, of_key, first_filled, Stands, LackSlot, IsKept, slot_or_none}
use Rattle.index_links.specs.Keys.{key_of, class_of}
use Rattle.index_links.specs.Nodes.{Node, node_at, first_slot, first_slot_of, slot_after, least_upto}
use Rattle.index_links.proofs.Paths.{path_after}
use Rattle.index_links.proofs.Standing.{all_map, all_parts, lack_nowhere, lack_of_key, slots_join}
use Rattle.index_links.proofs.Views.{arrival_at, head_is}
use Rattle.index_links.proofs.Splits.{Split}
use Rattle.index_links.proofs.Classes.{class_rises, first_of_is, least_found, none_upto}

-- where nothing has the class of an empty row
row_none : (row : Link) (links : ℕ → Option Link) (zs : List ℕ) → AllByRecursion (λ z. z ≢ nowhere) zs
    → Chain (linked row links) zs → row.next ≡ nowhere → zs ≡ []
row_none row links [] lack chain ends = refl
row_none row links (z ∷ zs) lack chain ends = absurd (lack.0 (sym chain.0 ∙ ends))

-- ---- rows of which the first that leads somewhere is known

head_row : (e : ℕ × Link) (m : Numbered Link) (q : ℕ) → q ≡ e.0 → row_at (e ∷ m) q ≡ e.1
head_row e m q same = ap or_blank (get-first e m q same)

later_row : (e : ℕ × Link) (m : Numbered Link) (q : ℕ) → q ≢ e.0 → row_at (e ∷ m) q ≡ row_at m q
later_row e m q ne = ap or_blank (get-later e m q ne)

-- where none leads somewhere each leads nowhere
all_empty : (m : Numbered Link) → first_filled m ≡ None → (q : ℕ) → (row_at m q).next ≡ nowhere
all_empty [] none q = refl
all_empty (e ∷ m) none q =
    elim (cases_eq e.1.next nowhere) [
      | inl ends ↦
          let rest : first_filled m ≡ None = rw (eq-eqb e.1.next nowhere ends) at none in
          elim (cases_eq q e.0) [
            | inl same ↦ ap (λ (l : Link). l.next) (head_row e m q same) ∙ ends
            | inr ne ↦ ap (λ (l : Link). l.next) (later_row e m q ne) ∙ all_empty m rest q
          ]
      | inr some ↦ let clash : Some e.0 ≡ None = rw (ne_eqb e.1.next nowhere some) at none in absurd (cc)
    ]

-- those below it lead nowhere
empty_before : (m : Numbered Link) (key : ℕ) → first_filled m ≡ Some key → IsRising m → (q : ℕ) → q < key
    → (row_at m q).next ≡ nowhere
empty_before [] key first rising q lt = refl
empty_before (e ∷ m) key first rising q lt =
    elim (cases_eq e.1.next nowhere) [
      | inl ends ↦
          let rest : first_filled m ≡ Some key = rw (eq-eqb e.1.next nowhere ends) at first in
          elim (cases_eq q e.0) [
            | inl same ↦ ap (λ (l : Link). l.next) (head_row e m q same) ∙ ends
            | inr ne ↦
                ap (λ (l : Link). l.next) (later_row e m q ne)
                ∙ empty_before m key rest (rising-rest e m rising) q lt
          ]
      | inr some ↦
          let is : Some e.0 ≡ Some key = rw (ne_eqb e.1.next nowhere some) at first in
          let same : e.0 ≡ key = cc in
          let below : q < e.0 = omega arith in
          ap (λ (o : Option Link). (or_blank o).next)
          (get-above q (e ∷ m) (below, above-lower q e.0 m below (above-first e m rising)))
    ]

-- it is above the first where that leads nowhere
above_first_row : (n : ℕ) (m : Numbered Link) (key : ℕ) → Above n m → first_filled m ≡ Some key → n < key
above_first_row n [] key above first = absurd (cc)
above_first_row n (e ∷ m) key above first =
    elim (cases_eq e.1.next nowhere) [
      | inl ends ↦
          above_first_row n m key above.1 (rw (eq-eqb e.1.next nowhere ends) at first)
      | inr some ↦
          let is : Some e.0 ≡ Some key = rw (ne_eqb e.1.next nowhere some) at first in
          let same : e.0 ≡ key = cc in
          let less : n < e.0 = above.0 in
          omega arith
    ]

-- it leads somewhere
filled_there : (m : Numbered Link) (key : ℕ) → first_filled m ≡ Some key → IsRising m
    → (row_at m key).next ≢ nowhere
filled_there [] key first rising = absurd (cc)
filled_there (e ∷ m) key first rising =
    elim (cases_eq e.1.next nowhere) [
      | inl ends ↦
          let rest : first_filled m ≡ Some key = rw (eq-eqb e.1.next nowhere ends) at first in
          let less : e.0 < key = above_first_row e.0 m key (above-first e m rising) rest in
          let ne : key ≢ e.0 = omega arith in
          λ end. filled_there m key rest (rising-rest e m rising)
          (ap (λ (l : Link). l.next) (sym (later_row e m key ne)) ∙ end)
      | inr some ↦
          let is : Some e.0 ≡ Some key = rw (ne_eqb e.1.next nowhere some) at first in
          let same : key ≡ e.0 = cc in
          λ end. some (ap (λ (l : Link). l.next) (sym (head_row e m key same)) ∙ end)
    ]

not_less : (a b : ℕ) → (a < b → ⊥) → b ≤ a
not_less a b h =
    elim (cases_order a b) [
      | inl same ↦ omega arith
      | inr c ↦ elim c [ inl less ↦ absurd (h less) | inr more ↦ omega arith ]
    ]

module _ {V : Type 0} where
  filter_all : (P : Node V → Type 0) (key : ℕ) (ns : List (Node V)) → AllByRecursion P ns
      → AllByRecursion P (of_key key ns)
  filter_all P key [] ps = tt
  filter_all P key (n ∷ ns) ps =
      one P n (of_key key ns) (nat_eq (key_of n.class) key) ps.0 (filter_all P key ns ps.1)
    where
      one : (P : Node V → Type 0) (n : Node V) (xs : List (Node V)) (b : Bool) → P n → AllByRecursion P xs
          → AllByRecursion P (cond b (n ∷ xs) xs)
      one P n xs true p ps = (p, ps)
      one P n xs false p ps = ps

  none_of_key : (key : ℕ) (ns : List (Node V)) → slots (of_key key ns) ≡ []
      → AllByRecursion (λ (n : Node V). key_of n.class ≢ key) ns
  none_of_key key [] none = tt
  none_of_key key (n ∷ ns) none =
      one key n (of_key key ns) (nat_eq (key_of n.class) key) refl none
      (λ rest. none_of_key key ns rest)
    where
      one : (key : ℕ) (n : Node V) (xs : List (Node V)) (b : Bool) → nat_eq (key_of n.class) key ≡ b
          → slots (cond b (n ∷ xs) xs) ≡ []
          → (slots xs ≡ [] → AllByRecursion (λ (m : Node V). key_of m.class ≢ key) ns)
          → AllByRecursion (λ (m : Node V). key_of m.class ≢ key) (n ∷ ns)
      one key n xs true is none rest = absurd (cc)
      one key n xs false is none rest =
          ((λ e. eqb-false (key_of n.class) key is e), rest none)

  at_least : (low : ℕ) (ns : List (Node V))
      → ((key : ℕ) → key < low → AllByRecursion (λ (n : Node V). key_of n.class ≢ key) ns)
      → AllByRecursion (λ (n : Node V). low ≤ key_of n.class) ns
  at_least low [] h = tt
  at_least low (n ∷ ns) h = (
    not_less (key_of n.class) low (λ lt. (h (key_of n.class) lt).0 refl),
    at_least low ns (λ key lt. (h key lt).1),
  )

  -- nothing is kept where each row leads nowhere
  pub nothing_kept : (rows : Numbered Link) → ((q : ℕ) → row_at rows q ≡ blank) → IsKept {V = V} [] rows blank 0
  nothing_kept rows each = record {
    nodes = [];
    kept = record {
      few = omega arith;
      stand = tt;
      own = tt;
      all = (refl, refl);
      each = λ key. (ap (λ (l : Link). l.next) (each key), ap (λ (l : Link). l.back) (each key));
    };
    count = refl;
  }

  module _ (places : List (Place V)) (rows : Numbered Link) (ends : Link) (len : ℕ) (k : IsKept places rows ends len)
    where
      lack : LackSlot nowhere k.nodes
      lack = lack_nowhere places k.nodes k.kept.few k.kept.stand

      fit : AllByRecursion (λ (n : Node V). class_of (key_of n.class) ≡ n.class) k.nodes
      fit =
          all_map (Stands places) (λ (n : Node V). class_of (key_of n.class) ≡ n.class)
          (λ n s. ap class_of (sym s.key) ∙ s.class) k.nodes k.kept.stand

      pub first_kept : slot_or_none ends.next ≡ first_slot k.nodes
      first_kept = head_is (linked ends (arrival_links places)) nowhere k.nodes lack k.kept.all

      pub first_of_kept : (class : ℤ) → class_of (key_of class) ≡ class
          → slot_or_none (row_at rows (key_of class)).next ≡ first_slot_of class k.nodes
      first_of_kept class fits =
          head_is (linked (row_at rows (key_of class)) (alike_links places)) nowhere (of_key (key_of class) k.nodes)
          (filter_all (λ (n : Node V). n.slot ≢ nowhere) (key_of class) k.nodes lack) (k.kept.each (key_of class))
          ∙ first_of_is class k.nodes fit fits

      -- the place of a node that a slot names
      pub stands_at : (slot : ℕ) → (s : Split slot k.nodes) → Stands places s.node
      stands_at slot s =
          (all_parts (Stands places) s.before s.node s.after
          (subst (AllByRecursion (Stands places)) s.split k.kept.stand)).1

      pub within_kept : (slot : ℕ) → Split slot k.nodes → slot < length places
      within_kept slot s =
          slice_get_within places slot (stands_at slot s).place
          (ap (slice_get places) (sym s.is) ∙ (stands_at slot s).there)

      pub place_is : (slot : ℕ) (p : Place V) → (s : Split slot k.nodes) → slice_get places slot ≡ Some p
          → (stands_at slot s).place ≡ p
      place_is slot p s there =
          let one : Some (stands_at slot s).place ≡ Some p =
          sym (stands_at slot s).there ∙ (ap (slice_get places) s.is ∙ there) in
          cc

      pub next_kept : (slot : ℕ) (p : Place V) → Split slot k.nodes → slice_get places slot ≡ Some p
          → slot_or_none p.arrival.next ≡ slot_after slot k.nodes
      next_kept slot p s there =
          let L : ℕ → Link = linked ends (arrival_links places) in
          let st : Stands places s.node = stands_at slot s in
          let path =
          path_after L s.node.slot nowhere (slots s.before) (slots s.after) nowhere
          (subst (Chain L) (ap slots s.split ∙ slots_join s.before (s.node ∷ s.after)) k.kept.all) in
          let lacks : LackSlot nowhere s.after =
          (all_parts (λ (n : Node V). n.slot ≢ nowhere) s.before s.node s.after
          (subst (LackSlot nowhere) s.split lack)).2 in
          ap (λ (q : Place V). slot_or_none q.arrival.next) (sym (place_is slot p s there))
          ∙ (ap (λ (l : Link). slot_or_none l.next) (sym (arrival_at places ends s.node k.kept.few st))
          ∙ (head_is L s.node.slot s.after lacks path ∙ sym s.next))

      pub value_kept : (slot : ℕ) (p : Place V) → (s : Split slot k.nodes) → slice_get places slot ≡ Some p
          → p.value ≡ option_map (λ (n : Node V). n.value) (node_at slot k.nodes)
      value_kept slot p s there =
          ap (λ (q : Place V). q.value) (sym (place_is slot p s there))
          ∙ ((stands_at slot s).value ∙ sym (ap (option_map (λ (n : Node V). n.value)) s.found))

      pub class_kept : (slot : ℕ) (p : Place V) → (s : Split slot k.nodes) → slice_get places slot ≡ Some p
          → option_map (λ (n : Node V). n.class) (node_at slot k.nodes) ≡ Some (class_of p.key)
      class_kept slot p s there =
          let is : class_of p.key ≡ s.node.class =
          ap (λ (q : Place V). class_of q.key) (sym (place_is slot p s there)) ∙ (stands_at slot s).class in
          ap (option_map (λ (n : Node V). n.class)) s.found ∙ ap Some (sym is)

      -- a class whose row leads nowhere is no node's
      empty_row : (key : ℕ) → (row_at rows key).next ≡ nowhere
          → AllByRecursion (λ (n : Node V). key_of n.class ≢ key) k.nodes
      empty_row key ends_here =
          none_of_key key k.nodes
          (row_none (row_at rows key) (alike_links places) (slots (of_key key k.nodes))
          (lack_of_key nowhere key k.nodes lack)
          (k.kept.each key) ends_here)

      -- a class without a row is no node's
      pub no_row : (key : ℕ) → get rows key ≡ None → AllByRecursion (λ (n : Node V). key_of n.class ≢ key) k.nodes
      no_row key none = empty_row key (ap (λ (o : Option Link). (or_blank o).next) none)

      pub none_kept : (bound : ℤ) → first_filled rows ≡ None → least_upto bound k.nodes ≡ None
      none_kept bound none =
          nothing k.nodes (λ key. empty_row key (all_empty rows none key))
        where
          nothing : (ns : List (Node V)) → ((key : ℕ) → AllByRecursion (λ (n : Node V). key_of n.class ≢ key) ns)
              → least_upto bound ns ≡ None
          nothing [] h = refl
          nothing (n ∷ ns) h = absurd ((h (key_of n.class)).0 refl)

      pub least_kept : (bound : ℤ) (key : ℕ) → first_filled rows ≡ Some key → IsRising rows
          → (if int_le (class_of key) bound then Some (class_of key) else None) ≡ least_upto bound k.nodes
      least_kept bound key first rising =
          let low : AllByRecursion (λ (n : Node V). key ≤ key_of n.class) k.nodes =
          at_least key k.nodes (λ q lt. empty_row q (empty_before rows key first rising q lt)) in
          let all : AllByRecursion (λ (n : Node V). class_of key ≤ℤ n.class) k.nodes =
          lowest key k.nodes low fit in
          let some : of_key key k.nodes ≢ [] = λ none.
          filled_there rows key first rising
          (subst (λ (ms : List (Node V)). Chain (linked (row_at rows key) (alike_links places)) (slots ms)) none
          (k.kept.each key)).0 in
          let keys : AllByRecursion (λ (n : Node V). key_of n.class ≡ key → n.class ≡ class_of key) k.nodes =
          all_map (λ (n : Node V). class_of (key_of n.class) ≡ n.class)
          (λ (n : Node V). key_of n.class ≡ key → n.class ≡ class_of key)
          (λ n f same. sym f ∙ ap class_of same) k.nodes fit
          in elim (cases_Bool (int_le (class_of key) bound)) [
            | inl is_true ↦ rw is_true (sym (least_found bound (class_of key) key k.nodes all keys some is_true))
            | inr is_false ↦ rw is_false (sym (none_upto bound (class_of key) k.nodes all is_false))
          ]
        where
          lowest : (key : ℕ) (ns : List (Node V)) → AllByRecursion (λ (n : Node V). key ≤ key_of n.class) ns
              → AllByRecursion (λ (n : Node V). class_of (key_of n.class) ≡ n.class) ns
              → AllByRecursion (λ (n : Node V). class_of key ≤ℤ n.class) ns
          lowest key [] low fit = tt
          lowest key (n ∷ ns) low fit = (
            subst (λ (c : ℤ). class_of key ≤ℤ c) fit.0 (class_rises key (key_of n.class) low.0),
            lowest key ns low.1 fit.1,
          )
