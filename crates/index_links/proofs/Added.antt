-- Kept nodes with one more.
use Rattle.std.proofs.Common.{◌≡◌, ◌≢◌, ℕ, ◌<◌, ◌≤◌, List, [], ◌∷◌, ◌++◌, length, Some, None, option_map, refl, sym, ap, subst, ◌∙◌, inl, inr, append-nil, arith}
use Rattle.std.proofs.lemmas.Bool.{cases_eq, eq-eqb, ne_eqb}
use Rattle.std.proofs.lemmas.Option.{slice_get_within}
use Rattle.std.specs.List.{AllByRecursion, slice_get}
use Rattle.number_maps.specs.Maps.{Numbered, get, put}
use Rattle.number_maps.proofs.LookUps.{get-put-same, get-put-other}
use Rattle.index_links.specs.declared.places.Link.{Link}
use Rattle.index_links.specs.declared.places.Place.{Place}
use Rattle.index_links.specs.Chains.{nowhere, blank, or_blank, Chain, Change, added, linked, row_at, arrival_links, alike_links, relinked, AreRelinked, IsFree, fresh, IsPlaced, slots, of_key, Stands, LackSlot, HaveOwnSlots, AreKept}
use Rattle.index_links.specs.Keys.{key_of, class_of}
use Rattle.index_links.specs.Nodes.{Node}
use Rattle.index_links.proofs.Paths.{Lack, path_same, path_last_has}
use Rattle.index_links.proofs.Linked.{IsValid, linked_else, chain_grown, added_other}
use Rattle.index_links.proofs.Standing.{all_behind, all_map, all_both, InClass, HasKey, alike_else, arrival_else, in_class, in_class_valid, lack_all, lack_nowhere, lack_of_key, of_key_join, of_key_other, of_key_same, slots_behind, stands_else, stands_relinked, valid_arrival}

module _ {V : Type 0} where
  -- a free place is no node's
  pub free_lacks : (places : List (Place V)) (at : ℕ) (ns : List (Node V)) → IsFree places at
      → AllByRecursion (Stands places) ns → LackSlot at ns
  free_lacks places at ns free stand =
      all_map (Stands places) (λ (n : Node V). n.slot ≢ at)
      (λ n s same.
      let none : s.place.value ≡ None = free.none s.place (ap (slice_get places) (sym same) ∙ s.there) in
      let clash : None ≡ Some n.value = sym none ∙ s.value in absurd (cc))
      ns stand

  own_behind : (ns : List (Node V)) (n : Node V) → HaveOwnSlots ns → LackSlot n.slot ns → HaveOwnSlots (ns ++ n ∷ [])
  own_behind [] n own lack = (tt, tt)
  own_behind (m ∷ ms) n own lack = (
    all_behind (λ (k : Node V). k.slot ≢ m.slot) ms n own.0 (λ e. lack.0 (sym e)),
    own_behind ms n own.1 lack.1,
  )

  placed_else : (at : ℕ) (p : Place V) (old new : List (Place V)) → IsPlaced at p old new → (i : ℕ) → i ≢ at
      → slice_get new i ≡ slice_get old i
  placed_else at p old new placed i ne = rw (ne_eqb i at ne) at (placed.each i)

  placed_here : (at : ℕ) (p : Place V) (old new : List (Place V)) → IsPlaced at p old new → slice_get new at ≡ Some p
  placed_here at p old new placed = rw (eq-eqb at at refl) at (placed.each at)

  -- what a new node's place is behind
  pub record IsAdded (p0 p1 p2 : List (Place V)) (rows rows' : Numbered Link) (ends ends' : Link) (n : Node V) (key : ℕ)
      : Type 0 where
    pub free : IsFree p0 n.slot
    pub placed : IsPlaced n.slot (fresh key n.value) p0 p1
    pub relinked : AreRelinked (added ends.back n.slot) (added (row_at rows key).back n.slot) p1 p2
    pub at_end : ends' ≡ added ends.back n.slot nowhere ends
    pub in_rows : rows' ≡ put rows key (added (row_at rows key).back n.slot nowhere (row_at rows key))
    pub few : length p2 ≤ nowhere
    pub is_key : key ≡ key_of n.class
    pub is_class : class_of key ≡ n.class
    pub some : n.slot ≢ nowhere

  module _ (p0 p1 p2 : List (Place V)) (rows rows' : Numbered Link) (ends ends' : Link) (ns : List (Node V))
      (n : Node V) (key : ℕ) (k : AreKept p0 rows ends ns) (a : IsAdded p0 p1 p2 rows rows' ends ends' n key) where
    abbrev f : Change
    f = added ends.back n.slot

    abbrev g : Change
    g = added (row_at rows key).back n.slot

    lack : LackSlot n.slot ns
    lack = free_lacks p0 n.slot ns a.free k.stand

    others : (i : ℕ) → i ≢ n.slot → slice_get p1 i ≡ slice_get p0 i
    others i ne = placed_else n.slot (fresh key n.value) p0 p1 a.placed i ne

    new : slice_get p1 n.slot ≡ Some (fresh key n.value)
    new = placed_here n.slot (fresh key n.value) p0 p1 a.placed

    stand : AllByRecursion (Stands p2) (ns ++ n ∷ [])
    stand =
        all_behind (Stands p2) ns n
        (all_map (λ (m : Node V). (m.slot ≢ n.slot) × Stands p0 m) (Stands p2)
        (λ m h. stands_relinked f g p1 p2 m a.relinked (stands_else n.slot p0 p1 m others h.0 h.1)) ns
        (all_both (λ (m : Node V). m.slot ≢ n.slot) (Stands p0) ns lack k.stand))
        (stands_relinked f g p1 p2 n a.relinked (record {
          place = fresh key n.value;
          there = new;
          key = a.is_key;
          class = a.is_class;
          value = refl;
        }))

    all : Chain (linked ends' (arrival_links p2)) (slots (ns ++ n ∷ []))
    all =
        subst (Chain (linked ends' (arrival_links p2))) (sym (slots_behind ns n))
        (chain_grown ends ends' (arrival_links p0) (arrival_links p2) n.slot blank (slots ns) a.at_end
        (arrival_else f g n.slot p0 p1 p2 others a.relinked)
        (ap (option_map (λ (p : Place V). p.arrival))
        (a.relinked.each n.slot ∙ ap (option_map (relinked f g n.slot)) new))
        a.some (lack_all n.slot ns lack) (lack_all nowhere ns (lack_nowhere p0 ns k.few k.stand))
        (valid_arrival p0 ns k.stand) k.all)

    abbrev grown : Link
    grown = added (row_at rows key).back n.slot nowhere (row_at rows key)

    row_same : row_at rows' key ≡ added (row_at rows key).back n.slot nowhere (row_at rows key)
    row_same = ap or_blank (ap (λ (m : Numbered Link). get m key) a.in_rows ∙ get-put-same rows key grown)

    row_other : (q : ℕ) → q ≢ key → row_at rows' q ≡ row_at rows q
    row_other q ne = ap or_blank (ap (λ (m : Numbered Link). get m q) a.in_rows ∙ get-put-other rows key grown q ne)

    valid_key : (q : ℕ) → AllByRecursion (IsValid (alike_links p0)) (slots (of_key q ns))
    valid_key q =
        all_map (InClass p0 q) (IsValid (alike_links p0)) (λ i h. in_class_valid p0 q i h) (slots (of_key q ns))
        (in_class p0 q ns k.stand)

    lack_ends : (q : ℕ) → Lack nowhere (slots (of_key q ns))
    lack_ends q = lack_of_key nowhere q ns (lack_nowhere p0 ns k.few k.stand)

    each_same : Chain (linked (row_at rows' key) (alike_links p2)) (slots (of_key key (ns ++ n ∷ [])))
    each_same =
        subst (Chain (linked (row_at rows' key) (alike_links p2)))
        (sym (of_key_join key ns (n ∷ [])
        ∙ ap (λ (zs : List ℕ). slots (of_key key ns) ++ zs) (of_key_same key n [] (sym a.is_key))))
        (chain_grown (row_at rows key) (row_at rows' key) (alike_links p0) (alike_links p2) n.slot blank
        (slots (of_key key ns)) row_same (alike_else f g n.slot p0 p1 p2 others a.relinked)
        (ap (option_map (λ (p : Place V). p.alike))
        (a.relinked.each n.slot ∙ ap (option_map (relinked f g n.slot)) new))
        a.some (lack_of_key n.slot key ns lack) (lack_ends key) (valid_key key) (k.each key))

    last_in : InClass p0 key (row_at rows key).back
    last_in =
        path_last_has (linked (row_at rows key) (alike_links p0)) (InClass p0 key) nowhere
        (slots (of_key key ns)) nowhere
        (inl refl) (in_class p0 key ns k.stand) (k.each key)

    -- no place of another class is the last of this one
    apart : (q i : ℕ) → q ≢ key → i ≢ nowhere → HasKey p0 q i → i ≢ (row_at rows key).back
    apart q i ne some h same =
        elim last_in [
          | inl end ↦ some (same ∙ end)
          | inr l ↦
              let one : Some h.place ≡ Some l.place = sym h.there ∙ (ap (slice_get p0) same ∙ l.there) in
              let keys : Some h.place.key ≡ Some l.place.key = ap (option_map (λ (p : Place V). p.key)) one in
              let same_key : h.place.key ≡ l.place.key = cc in
              ne (sym h.is ∙ (same_key ∙ l.is))
        ]

    stays_at : (q i : ℕ) → q ≢ key → (i ≢ n.slot) × InClass p0 q i
        → linked (row_at rows' q) (alike_links p2) i ≡ linked (row_at rows q) (alike_links p0) i
    stays_at q i ne h =
        elim (h.1) [
          | inl end ↦ rw end (row_other q ne)
          | inr p ↦
              let within : i < length p0 = slice_get_within p0 i p.place p.there in
              let few : length p0 ≤ nowhere = k.few in
              let some : i ≢ nowhere = omega arith in
              let there : alike_links p0 i ≡ Some p.place.alike =
              ap (option_map (λ (x : Place V). x.alike)) p.there in
              linked_else (row_at rows' q) (alike_links p2) i some
              ∙ ap or_blank (alike_else f g n.slot p0 p1 p2 others a.relinked i h.0 ∙ ap (option_map (g i)) there)
              ∙ added_other (row_at rows key).back n.slot i p.place.alike (apart q i ne some p) h.0 some
              ∙ sym (linked_else (row_at rows q) (alike_links p0) i some ∙ ap or_blank there)
        ]

    each_other : (q : ℕ) → q ≢ key
        → Chain (linked (row_at rows' q) (alike_links p2)) (slots (of_key q (ns ++ n ∷ [])))
    each_other q ne =
        let apart_key : key_of n.class ≢ q = λ e. ne (sym (a.is_key ∙ e)) in
        let begin : (nowhere ≢ n.slot) × InClass p0 q nowhere = ((λ e. a.some (sym e)), inl refl) in
        subst (Chain (linked (row_at rows' q) (alike_links p2)))
        (sym (of_key_join q ns (n ∷ [])
        ∙ (ap (λ (zs : List ℕ). slots (of_key q ns) ++ zs) (of_key_other q n [] apart_key) ∙ append-nil
        (slots (of_key q ns)))))
        (path_same (linked (row_at rows q) (alike_links p0)) (linked (row_at rows' q) (alike_links p2))
        (λ i. (i ≢ n.slot) × InClass p0 q i) (λ i h. stays_at q i ne h) nowhere (slots (of_key q ns)) nowhere begin
        (all_both (λ i. i ≢ n.slot) (InClass p0 q) (slots (of_key q ns)) (lack_of_key n.slot q ns lack)
        (in_class p0 q ns k.stand)) begin (k.each q))

    pub kept_added : AreKept p2 rows' ends' (ns ++ n ∷ [])
    kept_added = record {
      few = a.few;
      stand = stand;
      own = own_behind ns n k.own lack;
      all = all;
      each = λ q.
          elim (cases_eq q key) [
            | inl same ↦
                subst (λ (j : ℕ). Chain (linked (row_at rows' j) (alike_links p2)) (slots (of_key j (ns ++ n ∷ []))))
                (sym same) each_same
            | inr ne ↦ each_other q ne
          ];
    }
