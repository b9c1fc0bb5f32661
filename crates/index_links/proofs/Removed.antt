-- Kept nodes without one of them.
use Rattle.std.proofs.Common.{◌≡◌, ◌≢◌, ℕ, ◌≤◌, List, [], ◌∷◌, ◌++◌, length, Some, option_map, nat_eq, if◌then◌else◌, refl, sym, ap, subst, ◌∙◌, inl, inr}
use Rattle.std.proofs.lemmas.Bool.{cases_eq, eq-eqb, ne_eqb}
use Rattle.std.specs.List.{AllByRecursion, slice_get}
use Rattle.number_maps.specs.Maps.{Numbered}
use Rattle.index_links.specs.declared.places.Link.{Link}
use Rattle.index_links.specs.declared.places.Place.{Place}
use Rattle.index_links.specs.Chains.{nowhere, or_blank, Chain, Change, joined, linked, row_at, row_of, arrival_links, alike_links, AreRelinked, slots, of_key, Stands, LackSlot, HaveOwnSlots, AreKept}
use Rattle.index_links.specs.Keys.{key_of}
use Rattle.index_links.specs.Nodes.{Node}
use Rattle.index_links.proofs.Paths.{Lack, path_into, path_onto, path_stays}
use Rattle.index_links.proofs.Linked.{IsValid, linked_else, chain_cut, cut_others, row_empty, row_of_is}
use Rattle.index_links.proofs.Standing.{all_both, all_join, all_map, all_parts, InClass, alike_else, arrival_else, in_class, in_class_valid, lack_all, lack_nowhere, lack_of_key, of_key_join, of_key_other, of_key_same, slot_some, slots_join, stands_else, stands_relinked, valid_arrival}

module _ {V : Type 0} where
  -- the slots of others than one
  pub record OwnApart (before : List (Node V)) (n : Node V) (after : List (Node V)) : Type 0 where
    pub lack_before : LackSlot n.slot before
    pub lack_after : LackSlot n.slot after
    pub rest : HaveOwnSlots (before ++ after)

  pub own_apart : (before : List (Node V)) (n : Node V) (after : List (Node V)) → HaveOwnSlots (before ++ n ∷ after)
      → OwnApart before n after
  own_apart [] n after own = record { lack_before = tt; lack_after = own.0; rest = own.1 }
  own_apart (m ∷ ms) n after own =
      let rec = own_apart ms n after own.1 in
      let parts = all_parts (λ (k : Node V). k.slot ≢ m.slot) ms n after own.0 in
      record {
        lack_before = ((λ e. parts.1 (sym e)), rec.lack_before);
        lack_after = rec.lack_after;
        rest = (all_join (λ (k : Node V). k.slot ≢ m.slot) ms after parts.0 parts.2, rec.rest);
      }

  -- what a node's place was before it was taken out
  pub record IsCut (p0 p1 p2 : List (Place V)) (rows rows' : Numbered Link) (ends ends' : Link) (x : ℕ) (q : Place V)
      : Type 0 where
    pub there : slice_get p0 x ≡ Some q
    pub others : (i : ℕ) → i ≢ x → slice_get p1 i ≡ slice_get p0 i
    pub relinked : AreRelinked (joined q.arrival.back q.arrival.next) (joined q.alike.back q.alike.next) p1 p2
    pub at_end : ends' ≡ joined q.arrival.back q.arrival.next nowhere ends
    pub in_rows : (key : ℕ) → row_at rows' key
        ≡ (if nat_eq key q.key then or_blank (row_of (joined q.alike.back q.alike.next nowhere (row_at rows q.key)))
        else row_at rows key)
    pub few : length p2 ≤ nowhere

  module _ (p0 p1 p2 : List (Place V)) (rows rows' : Numbered Link) (ends ends' : Link) (before : List (Node V))
      (n : Node V) (after : List (Node V)) (q : Place V) (k : AreKept p0 rows ends (before ++ n ∷ after))
      (c : IsCut p0 p1 p2 rows rows' ends ends' n.slot q) where
    abbrev f : Change
    f = joined q.arrival.back q.arrival.next

    abbrev g : Change
    g = joined q.alike.back q.alike.next

    parts : AllByRecursion (Stands p0) before × Stands p0 n × AllByRecursion (Stands p0) after
    parts = all_parts (Stands p0) before n after k.stand

    own : OwnApart before n after
    own = own_apart before n after k.own

    some : n.slot ≢ nowhere
    some = slot_some p0 n k.few parts.1

    -- the node's class is the place's
    key_is : key_of n.class ≡ q.key
    key_is =
        let one : Some parts.1.place ≡ Some q = sym parts.1.there ∙ c.there in
        let keys : Some parts.1.place.key ≡ Some q.key = ap (option_map (λ (p : Place V). p.key)) one in
        let same : parts.1.place.key ≡ q.key = cc in
        sym parts.1.key ∙ same

    stand_part : (ms : List (Node V)) → LackSlot n.slot ms → AllByRecursion (Stands p0) ms
        → AllByRecursion (Stands p2) ms
    stand_part ms lack stand =
        all_map (λ (m : Node V). (m.slot ≢ n.slot) × Stands p0 m) (Stands p2)
        (λ m h. stands_relinked f g p1 p2 m c.relinked (stands_else n.slot p0 p1 m c.others h.0 h.1)) ms
        (all_both (λ (m : Node V). m.slot ≢ n.slot) (Stands p0) ms lack stand)

    all : Chain (linked ends' (arrival_links p2)) (slots (before ++ after))
    all =
        subst (Chain (linked ends' (arrival_links p2))) (sym (slots_join before after))
        (chain_cut ends ends' (arrival_links p0) (arrival_links p2) n.slot q.arrival (slots before) (slots after)
        (ap (option_map (λ (p : Place V). p.arrival)) c.there) some c.at_end
        (arrival_else f g n.slot p0 p1 p2 c.others c.relinked) (lack_all n.slot before own.lack_before)
        (lack_all n.slot after own.lack_after) (valid_arrival p0 before parts.0) (valid_arrival p0 after parts.2)
        (subst (Chain (linked ends (arrival_links p0))) (slots_join before (n ∷ after)) k.all))

    abbrev row : Link
    row = joined q.alike.back q.alike.next nowhere (row_at rows q.key)

    valid_key : (key : ℕ) (ms : List (Node V)) → AllByRecursion (Stands p0) ms
        → AllByRecursion (IsValid (alike_links p0)) (slots (of_key key ms))
    valid_key key ms stand =
        all_map (InClass p0 key) (IsValid (alike_links p0)) (λ i h. in_class_valid p0 key i h) (slots (of_key key ms))
        (in_class p0 key ms stand)

    -- the chain of the node's class
    whole : Chain (linked (row_at rows q.key) (alike_links p0))
        (slots (of_key q.key before) ++ n.slot ∷ slots (of_key q.key after))
    whole =
        subst (Chain (linked (row_at rows q.key) (alike_links p0)))
        (of_key_join q.key before (n ∷ after)
        ∙ ap (λ (zs : List ℕ). slots (of_key q.key before) ++ zs) (of_key_same q.key n after key_is))
        (k.each q.key)

    cut : Chain (linked row (alike_links p2)) (slots (of_key q.key before) ++ slots (of_key q.key after))
    cut =
        chain_cut (row_at rows q.key) row (alike_links p0) (alike_links p2) n.slot q.alike (slots (of_key q.key before))
        (slots (of_key q.key after)) (ap (option_map (λ (p : Place V). p.alike)) c.there) some refl
        (alike_else f g n.slot p0 p1 p2 c.others c.relinked) (lack_of_key n.slot q.key before own.lack_before)
        (lack_of_key n.slot q.key after own.lack_after) (valid_key q.key before parts.0)
        (valid_key q.key after parts.2) whole

    lack_ends : Lack nowhere (slots (of_key q.key before) ++ slots (of_key q.key after))
    lack_ends =
        all_join (λ (i : ℕ). i ≢ nowhere) (slots (of_key q.key before)) (slots (of_key q.key after))
        (lack_of_key nowhere q.key before (lack_nowhere p0 before k.few parts.0))
        (lack_of_key nowhere q.key after (lack_nowhere p0 after k.few parts.2))

    row_same : row_at rows' q.key ≡ row
    row_same =
        rw (eq-eqb q.key q.key refl) at (c.in_rows q.key)
        ∙ row_of_is row
        (row_empty row (alike_links p2) (slots (of_key q.key before) ++ slots (of_key q.key after)) lack_ends cut)

    row_other : (key : ℕ) → key ≢ q.key → row_at rows' key ≡ row_at rows key
    row_other key ne = rw (ne_eqb key q.key ne) at (c.in_rows key)

    each_same : Chain (linked (row_at rows' q.key) (alike_links p2)) (slots (of_key q.key (before ++ after)))
    each_same =
        subst (λ (l : Link). Chain (linked l (alike_links p2)) (slots (of_key q.key (before ++ after)))) (sym row_same)
        (subst (Chain (linked row (alike_links p2))) (sym (of_key_join q.key before after)) cut)

    -- in the chain of all of the class the links beside the node lead to it
    here : linked (row_at rows q.key) (alike_links p0) n.slot ≡ q.alike
    here =
        linked_else (row_at rows q.key) (alike_links p0) n.slot some
        ∙ ap or_blank (ap (option_map (λ (p : Place V). p.alike)) c.there)

    each_other : (key : ℕ) → key ≢ q.key
        → Chain (linked (row_at rows' key) (alike_links p2)) (slots (of_key key (before ++ after)))
    each_other key ne =
        let L : ℕ → Link = linked (row_at rows q.key) (alike_links p0) in
        let into : (L q.alike.back).next ≡ n.slot =
        subst (λ (l : Link). (L l.back).next ≡ n.slot) here
        (path_into L n.slot nowhere (slots (of_key q.key before)) (slots (of_key q.key after)) nowhere whole) in
        let onto : (L q.alike.next).back ≡ n.slot =
        subst (λ (l : Link). (L l.next).back ≡ n.slot) here
        (path_onto L n.slot nowhere (slots (of_key q.key before)) (slots (of_key q.key after)) nowhere whole) in
        let apart : nowhere ≢ n.slot = λ e. some (sym e) in
        let other : key_of n.class ≢ key = λ e. ne (sym e ∙ key_is) in
        let lacks : Lack n.slot (slots (of_key key (before ++ after))) =
        lack_of_key n.slot key (before ++ after)
        (all_join (λ (m : Node V). m.slot ≢ n.slot) before after own.lack_before own.lack_after) in
        let old : Chain (linked (row_at rows key) (alike_links p0)) (slots (of_key key (before ++ after))) =
        subst (Chain (linked (row_at rows key) (alike_links p0)))
        (of_key_join key before (n ∷ after)
        ∙ (ap (λ (zs : List ℕ). slots (of_key key before) ++ zs) (of_key_other key n after other)
        ∙ sym (of_key_join key before after)))
        (k.each key) in
        subst (λ (l : Link). Chain (linked l (alike_links p2)) (slots (of_key key (before ++ after))))
        (sym (row_other key ne))
        (path_stays (linked (row_at rows key) (alike_links p0)) (linked (row_at rows key) (alike_links p2)) n.slot
        (cut_others (row_at rows key) (row_at rows q.key) (alike_links p0) (alike_links p2) n.slot q.alike
        (alike_else f g n.slot p0 p1 p2 c.others c.relinked) into onto) nowhere (slots (of_key key (before ++ after)))
        nowhere apart lacks apart old)

    pub kept_removed : AreKept p2 rows' ends' (before ++ after)
    kept_removed = record {
      few = c.few;
      stand = all_join (Stands p2) before after (stand_part before own.lack_before parts.0)
          (stand_part after own.lack_after parts.2);
      own = own.rest;
      all = all;
      each = λ key.
          elim (cases_eq key q.key) [
            | inl same ↦
                subst (λ (j : ℕ). Chain (linked (row_at rows' j) (alike_links p2)) (slots (of_key j (before ++ after))))
                (sym same) each_same
            | inr ne ↦ each_other key ne
          ];
    }
