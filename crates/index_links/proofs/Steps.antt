-- What a push and an unlink find of kept nodes, and leave.
use Rattle.std.proofs.Common.{◌≡◌, ◌≢◌, ℕ, ◌<◌, ◌≤◌, ◌+◌, ◌-◌, Bool, true, false, ◌||◌, List, [], ◌∷◌, ◌++◌, length, take, drop, Option, Some, None, is_some, option_map, nat_eq, if◌then◌else◌, min, refl, sym, ap, subst, ◌∙◌, inl, inr, length-append, arith}
use Rattle.std.proofs.Math.Dec.{eqb}
use Rattle.std.proofs.lemmas.List.{length-map}
use Rattle.std.proofs.lemmas.Bool.{cases_eq, ne_eqb}
use Rattle.std.proofs.lemmas.Option.{slice_get_cases, slice_get_within}
use Rattle.std.proofs.Math.Seq.{take-append_seam}
use Rattle.std.proofs.lemmas.Map.Steps.{length-le_from_distinct_below}
use Rattle.std.specs.List.{AllByRecursion, IsDistinct, list_any, slice_get}
use Rattle.number_maps.proofs.Order.{same-from-nat_eq}
use Rattle.std.specs.Prelude.{IsSome}
use Rattle.number_maps.specs.Maps.{Numbered, get}
use Rattle.index_links.specs.declared.places.Link.{Link}
use Rattle.index_links.specs.declared.places.Place.{Place}
use Rattle.index_links.specs.Chains.{nowhere, or_blank, Chain, linked, row_at, row_of, arrival_links, alike_links, joined, stays, walk, spare_of, AreRelinked, Shrunk, slots, of_key, Stands, HaveOwnSlots, IsPlaced, IsKept, AreKept}
use Rattle.index_links.specs.Keys.{key_of}
use Rattle.index_links.specs.Nodes.{Node, node_at, IsThere, without}
use Rattle.index_links.proofs.Paths.{path_beside, path_last_has}
use Rattle.index_links.proofs.Linked.{IsValid, linked_else}
use Rattle.index_links.proofs.Standing.{all_map, all_parts, all_slots, InClass, in_class, in_class_valid, of_key_join, of_key_same, slot_some, slots_join, valid_arrival}
use Rattle.index_links.proofs.Added.{IsAdded, free_lacks, kept_added}
use Rattle.index_links.proofs.Removed.{IsCut, kept_removed}
use Rattle.index_links.proofs.Splits.{Split, none_at, split_at}
use Rattle.index_links.proofs.Views.{view_is}
use Rattle.index_links.proofs.Placed.{relinked_twice}
use Rattle.index_links.proofs.AtHand.{no_row, place_is, stands_at, value_kept}

module _ {V : Type 0} where
  -- a place that has a link is within
  linked_within : (f : Place V → Link) (places : List (Place V)) (i : ℕ) (l : Link) (o : Option (Place V))
      → slice_get places i ≡ o → option_map f o ≡ Some l → i < length places
  linked_within f places i l None is there = absurd (cc)
  linked_within f places i l (Some p) is there = slice_get_within places i p is

  pub within_arrival : (places : List (Place V)) (i : ℕ) → IsValid (arrival_links places) i → i ≢ nowhere
      → i < length places
  within_arrival places i valid some =
      elim valid [
        | inl end ↦ absurd (some end)
        | inr h ↦ linked_within (λ (p : Place V). p.arrival) places i h.0 (slice_get places i) refl h.1
      ]

  pub within_alike : (places : List (Place V)) (i : ℕ) → IsValid (alike_links places) i → i ≢ nowhere
      → i < length places
  within_alike places i valid some =
      elim valid [
        | inl end ↦ absurd (some end)
        | inr h ↦ linked_within (λ (p : Place V). p.alike) places i h.0 (slice_get places i) refl h.1
      ]

  -- a place stays within where one is written
  pub placed_within : (at i : ℕ) (p : Place V) (old new : List (Place V)) → IsPlaced at p old new → at < length new
      → i < length old → i < length new
  placed_within at i p old new placed here within =
      elim (cases_eq i at) [
        | inl same ↦ subst (λ (j : ℕ). j < length new) (sym same) here
        | inr ne ↦
            let h = slice_get_cases old i in
            elim (h.1) [
              | inl x ↦
                  slice_get_within new i x.0 (rw (ne_eqb i at ne) at (placed.each i) ∙ x.2)
              | inr past ↦ let le : length old ≤ i = past.0 in absurd (omega arith)
            ]
      ]

  module _ (places : List (Place V)) (rows : Numbered Link) (ends : Link) (len : ℕ) (k : IsKept places rows ends len)
    where
      pub last_valid : IsValid (arrival_links places) ends.back
      last_valid =
          path_last_has (linked ends (arrival_links places)) (IsValid (arrival_links places)) nowhere (slots k.nodes)
          nowhere (inl refl) (valid_arrival places k.nodes k.kept.stand) k.kept.all

      valid_of_key : (key : ℕ) (ns : List (Node V)) → AllByRecursion (Stands places) ns
          → AllByRecursion (IsValid (alike_links places)) (slots (of_key key ns))
      valid_of_key key ns stand =
          all_map (InClass places key) (IsValid (alike_links places)) (λ i h. in_class_valid places key i h)
          (slots (of_key key ns)) (in_class places key ns stand)

      pub row_last_valid : (key : ℕ) → IsValid (alike_links places) (row_at rows key).back
      row_last_valid key =
          path_last_has (linked (row_at rows key) (alike_links places)) (IsValid (alike_links places)) nowhere
          (slots (of_key key k.nodes)) nowhere (inl refl) (valid_of_key key k.nodes k.kept.stand) (k.kept.each key)

      -- the places beside a node's
      module _ (slot : ℕ) (s : Split slot k.nodes) where
        parts : AllByRecursion (Stands places) s.before × Stands places s.node × AllByRecursion (Stands places) s.after
        parts =
            all_parts (Stands places) s.before s.node s.after
            (subst (AllByRecursion (Stands places)) s.split k.kept.stand)

        some : s.node.slot ≢ nowhere
        some = slot_some places s.node k.kept.few parts.1

        pub beside : (q : Place V) → slice_get places s.node.slot ≡ Some q
            → IsValid (arrival_links places) q.arrival.back × IsValid (arrival_links places) q.arrival.next
        beside q there =
            let L : ℕ → Link = linked ends (arrival_links places) in
            let here : L s.node.slot ≡ q.arrival =
            linked_else ends (arrival_links places) s.node.slot some
            ∙ ap or_blank (ap (option_map (λ (p : Place V). p.arrival)) there) in
            let both =
            path_beside L (IsValid (arrival_links places)) s.node.slot nowhere (slots s.before) (slots s.after) nowhere
            (inl refl) (valid_arrival places s.before parts.0) (valid_arrival places s.after parts.2) (inl refl)
            (subst (Chain L) (ap slots s.split ∙ slots_join s.before (s.node ∷ s.after)) k.kept.all) in (
              subst (λ (l : Link). IsValid (arrival_links places) l.back) here both.0,
              subst (λ (l : Link). IsValid (arrival_links places) l.next) here both.1,
            )

        pub beside_alike : (q : Place V) → slice_get places s.node.slot ≡ Some q → q.key ≡ key_of s.node.class
            → IsValid (alike_links places) q.alike.back × IsValid (alike_links places) q.alike.next
        beside_alike q there same =
            let L : ℕ → Link = linked (row_at rows q.key) (alike_links places) in
            let here : L s.node.slot ≡ q.alike =
            linked_else (row_at rows q.key) (alike_links places) s.node.slot some
            ∙ ap or_blank (ap (option_map (λ (p : Place V). p.alike)) there) in
            let both =
            path_beside L (IsValid (alike_links places)) s.node.slot nowhere (slots (of_key q.key s.before))
            (slots (of_key q.key s.after)) nowhere (inl refl) (valid_of_key q.key s.before parts.0)
            (valid_of_key q.key s.after parts.2) (inl refl)
            (subst (Chain L)
            (ap (λ (ns : List (Node V)). slots (of_key q.key ns)) s.split
            ∙ (of_key_join q.key s.before (s.node ∷ s.after)
            ∙ ap (λ (zs : List ℕ). slots (of_key q.key s.before) ++ zs) (of_key_same q.key s.node s.after (sym same))))
            (k.kept.each q.key)) in (
              subst (λ (l : Link). IsValid (alike_links places) l.back) here both.0,
              subst (λ (l : Link). IsValid (alike_links places) l.next) here both.1,
            )

        pub row_there : (key : ℕ) → key ≡ key_of s.node.class → IsSome (get rows key)
        row_there key same = found (get rows key) refl
          where
            found : (o : Option Link) → get rows key ≡ o → IsSome o
            found None none =
                let lacks =
                subst (AllByRecursion (λ (n : Node V). key_of n.class ≢ key)) s.split
                (no_row places rows ends len k key none) in
                absurd ((all_parts (λ (n : Node V). key_of n.class ≢ key) s.before s.node s.after lacks).1 (sym same))
            found (Some row) there = refl

  abbrev pub added_node : (p0 p1 p2 : List (Place V)) (rows rows' : Numbered Link) (ends ends' : Link) (len : ℕ)
      (n : Node V)
      (key : ℕ) → (k : IsKept p0 rows ends len) → IsAdded p0 p1 p2 rows rows' ends ends' n key
      → IsKept p2 rows' ends' (len + 1)
  added_node p0 p1 p2 rows rows' ends ends' len n key k a = record {
    nodes = k.nodes ++ n ∷ [];
    kept = kept_added p0 p1 p2 rows rows' ends ends' k.nodes n key k.kept a;
    count = let count : len ≡ length k.nodes = k.count in omega (arith, length-append k.nodes (n ∷ []));
  }

  abbrev pub removed_node : (p0 p1 p2 : List (Place V)) (rows rows' : Numbered Link) (ends ends' : Link) (len : ℕ)
      (slot : ℕ)
      (q : Place V) → (k : IsKept p0 rows ends len) → Split slot k.nodes → IsCut p0 p1 p2 rows rows' ends ends' slot q
      → IsKept p2 rows' ends' (len - 1)
  removed_node p0 p1 p2 rows rows' ends ends' len slot q k s c = record {
    nodes = s.before ++ s.after;
    kept =
        kept_removed p0 p1 p2 rows rows' ends ends' s.before s.node s.after q
        (subst (AreKept p0 rows ends) s.split k.kept)
        (subst (λ (i : ℕ). IsCut p0 p1 p2 rows rows' ends ends' i q) (sym s.is) c);
    count =
        let count : len ≡ length k.nodes = k.count in
        let parts : length k.nodes ≡ length (s.before ++ s.node ∷ s.after) = ap length s.split in
        omega (arith, length-append s.before (s.node ∷ s.after), length-append s.before s.after);
  }

module _ {V : Type 0} where
  -- nodes are at most as many as places
  distinct_slots : (ns : List (Node V)) → HaveOwnSlots ns → IsDistinct eqb (slots ns)
  unfolding IsDistinct
  distinct_slots [] own = tt
  distinct_slots (n ∷ ns) own = (
    all_slots (λ i. eqb n.slot i ≡ false) ns
        (all_map (λ (m : Node V). m.slot ≢ n.slot) (λ (m : Node V). eqb n.slot m.slot ≡ false)
        (λ m ne. ne_eqb n.slot m.slot (λ e. ne (sym e))) ns own.0),
    distinct_slots ns own.1,
  )

  found_below : (places : List (Place V)) (n : Node V) (q : ℕ) (b c : Bool) → Stands places n → eqb q n.slot ≡ b
      → (b || c) ≡ true → (c ≡ true → q < length places) → q < length places
  found_below places n q true c s is found rest =
      subst (λ (i : ℕ). i < length places) (sym (same-from-nat_eq q n.slot is))
      (slice_get_within places n.slot s.place s.there)
  found_below places n q false c s is found rest = rest found

  slots_below : (places : List (Place V)) (ns : List (Node V)) → AllByRecursion (Stands places) ns → (q : ℕ)
      → list_any (eqb q) (slots ns) ≡ true → q < length places
  slots_below places [] stand q found = absurd (cc)
  slots_below places (n ∷ ns) stand q found =
      found_below places n q (eqb q n.slot) (list_any (eqb q) (slots ns)) stand.0 refl found
      (λ h. slots_below places ns stand.1 q h)

  pub few_nodes : (places : List (Place V)) (rows : Numbered Link) (ends : Link) (len : ℕ) → IsKept places rows ends len
      → len ≤ length places
  few_nodes places rows ends len k =
      let all : length (slots k.nodes) ≤ length places =
      length-le_from_distinct_below (slots k.nodes) (length places) (distinct_slots k.nodes k.kept.own)
      (slots_below places k.nodes k.kept.stand) in
      let count : len ≡ length k.nodes = k.count in
      let same : length (slots k.nodes) ≡ length k.nodes = length-map k.nodes (λ (n : Node V). n.slot) in
      omega arith

  -- where one of them is, there are some
  pub some_nodes : (places : List (Place V)) (rows : Numbered Link) (ends : Link) (len slot : ℕ)
      → (k : IsKept places rows ends len) → Split slot k.nodes → 0 < len
  some_nodes places rows ends len slot k s =
      let count : len ≡ length k.nodes = k.count in
      let parts : length k.nodes ≡ length (s.before ++ s.node ∷ s.after) = ap length s.split in
      omega (arith, length-append s.before (s.node ∷ s.after))

  -- the class of the place that a node's slot names
  pub key_at : (places : List (Place V)) (rows : Numbered Link) (ends : Link) (len slot : ℕ)
      → (k : IsKept places rows ends len) → (s : Split slot k.nodes) (q : Place V) → slice_get places slot ≡ Some q
      → q.key ≡ key_of s.node.class
  key_at places rows ends len slot k s q there =
      ap (λ (p : Place V). p.key) (sym (place_is places rows ends len k slot q s there))
      ∙ (stands_at places rows ends len k slot s).key

  -- ---- whole steps

  -- what a push leaves
  pub record Grown (p0 p1 : List (Place V)) (rows : Numbered Link) (ends ends' : Link) (len : ℕ)
      (n : Node V) : Type 0 where
    pub kept : IsKept p1 rows ends' (len + 1)
    pub new : node_at n.slot (walk len p0 ends.next) ≡ None
    pub nodes : walk (len + 1) p1 ends'.next ≡ walk len p0 ends.next ++ n ∷ []

  pub grown : (p0 p1 p2 : List (Place V)) (rows rows' : Numbered Link) (ends ends' : Link) (len : ℕ) (n : Node V)
      (key : ℕ) → IsKept p0 rows ends len → IsAdded p0 p1 p2 rows rows' ends ends' n key
      → Grown p0 p2 rows' ends ends' len n
  grown p0 p1 p2 rows rows' ends ends' len n key k a =
      let new : IsKept p2 rows' ends' (len + 1) = added_node p0 p1 p2 rows rows' ends ends' len n key k a in
      record {
        kept = new;
        new =
            ap (node_at n.slot) (view_is p0 rows ends len k)
            ∙ none_at n.slot k.nodes (free_lacks p0 n.slot k.nodes a.free k.kept.stand);
        nodes =
            view_is p2 rows' ends' (len + 1) (added_node p0 p1 p2 rows rows' ends ends' len n key k a)
            ∙ ap (λ (ns : List (Node V)). ns ++ n ∷ []) (sym (view_is p0 rows ends len k));
      }

  pub is_cut : (p0 p1 p2 p3 : List (Place V)) (rows rows' : Numbered Link) (ends ends' : Link) (x : ℕ) (q : Place V)
      → slice_get p0 x ≡ Some q → ((i : ℕ) → i ≢ x → slice_get p1 i ≡ slice_get p0 i)
      → AreRelinked (joined q.arrival.back q.arrival.next) stays p1 p2
      → AreRelinked stays (joined q.alike.back q.alike.next) p2 p3
      → ends' ≡ joined q.arrival.back q.arrival.next nowhere ends
      → ((key : ℕ) → row_at rows' key
      ≡ (if nat_eq key q.key then or_blank (row_of (joined q.alike.back q.alike.next nowhere (row_at rows q.key)))
      else row_at rows key)) → length p3 ≤ nowhere → IsCut p0 p1 p3 rows rows' ends ends' x q
  is_cut p0 p1 p2 p3 rows rows' ends ends' x q there others all alike at_end in_rows few = record {
    there = there;
    others = others;
    relinked =
        relinked_twice (joined q.arrival.back q.arrival.next) stays stays
        (joined q.alike.back q.alike.next) p1 p2 p3 all
        alike;
    at_end = at_end;
    in_rows = in_rows;
    few = few;
  }

  pub split_of : (places : List (Place V)) (rows : Numbered Link) (ends : Link) (len slot : ℕ)
      → (k : IsKept places rows ends len) → IsThere slot (walk len places ends.next) → Split slot k.nodes
  split_of places rows ends len slot k there =
      split_at slot k.nodes (subst (IsThere slot) (view_is places rows ends len k) there)

  pub shrunk : (p0 p1 p2 : List (Place V)) (rows rows' : Numbered Link) (ends ends' : Link) (len slot : ℕ) (q : Place V)
      → IsKept p0 rows ends len → IsThere slot (walk len p0 ends.next)
      → IsCut p0 p1 p2 rows rows' ends ends' slot q → Shrunk p0 p2 rows' ends ends' len slot q
  shrunk p0 p1 p2 rows rows' ends ends' len slot q k there c =
      let s : Split slot k.nodes = split_of p0 rows ends len slot k there in
      let value = value_kept p0 rows ends len k slot q s c.there in
      record {
        kept = removed_node p0 p1 p2 rows rows' ends ends' len slot q k s c;
        value =
            value
            ∙ ap (λ (ns : List (Node V)). option_map (λ (n : Node V). n.value) (node_at slot ns))
            (sym (view_is p0 rows ends len k));
        some =
            ap is_some (value ∙ ap (option_map (λ (n : Node V). n.value)) s.found);
        nodes =
            view_is p2 rows' ends' (len - 1) (removed_node p0 p1 p2 rows rows' ends ends' len slot q k s c)
            ∙ (sym s.rest ∙ ap (without slot) (sym (view_is p0 rows ends len k)));
      }

-- ---- room

min_one : (a b c d : ℕ) → a ≤ c + 1 → b ≤ d + 1 → min a b ≤ min c d + 1
min_one a b c d h i = omega arith

less_one : (n a b : ℕ) → b ≤ a + 1 → n - a ≤ (n - b) + 1
less_one n a b h = omega arith

min_more : (a b c d : ℕ) → a ≤ c → b ≤ d → min a b ≤ min c d
min_more a b c d h i = omega arith

less_more : (m n a b : ℕ) → m ≤ n → b ≤ a → m - a ≤ n - b
less_more m n a b h i = omega arith

-- a push takes room for one at most
pub spare_one : (l m c r s k : ℕ) → m ≤ l + 1 → s ≤ r + 1 → spare_of l c r k ≤ spare_of m c s k + 1
spare_one l m c r s k h i =
    min_one (min (c - l) (nowhere - l)) (k - r) (min (c - m) (nowhere - m)) (k - s)
    (min_one (c - l) (nowhere - l) (c - m) (nowhere - m) (less_one c l m h) (less_one nowhere l m h)) (less_one k r s i)

-- and what leaves no more places and rows, and no less room for them, none
pub spare_more : (l m c d r s k j : ℕ) → m ≤ l → c ≤ d → s ≤ r → k ≤ j → spare_of l c r k ≤ spare_of m d s j
spare_more l m c d r s k j h i u v =
    min_more (min (c - l) (nowhere - l)) (k - r) (min (d - m) (nowhere - m)) (j - s)
    (min_more (c - l) (nowhere - l) (d - m) (nowhere - m) (less_more c d l m i h)
    (less_more nowhere nowhere l m (omega arith) h))
    (less_more k j r s v u)

-- room for some is room for places, for their numbers and for rows
pub spare_parts : (n l c r k : ℕ) → n ≤ spare_of l c r k → (n ≤ c - l) × (n ≤ nowhere - l) × (n ≤ k - r)
spare_parts n l c r k h = (omega arith, omega arith, omega arith)

-- what is lent whole and given back is what it became
pub rejoined : {X : Type 0} (size : ℕ) (xs ys : List X) → length xs ≡ size → take size (xs ++ drop (length xs) ys) ≡ xs
rejoined size xs ys len = rw (sym len) (take-append_seam xs (drop (length xs) ys))
