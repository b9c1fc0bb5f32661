-- How many deeds of a name are held: what a change of a spot makes of it.
use Rattle.std.proofs.Common.{◌≡◌, ℕ, zero, suc, ◌+◌, Bool, true, false, cond, ◌||◌, nat_lt, List, [], ◌∷◌, Option, Some, None, unwrap_or, sum_by, refl, sym, ap, ◌∙◌, arith}
use Rattle.std.proofs.lemmas.Bool.{lt-ltb}
use Rattle.std.proofs.lemmas.List.Sums.{sum_by-cons, sum_by_push}
use Rattle.std.proofs.lemmas.Map.Entries.{sum_by-insert_entry}
use Rattle.std.specs.Cmp.{nat_cmp_total}
use Rattle.std.specs.List.{list_any}
use Rattle.std.specs.Map.{values_of}
use Rattle.std.specs.Option.{option_map}
use Rattle.pico_base.specs.declared.numbers.Name.{Name}
use Rattle.pico_base.specs.declared.numbers.Name.TheVariants.{Proc, Msg, Sem}
use Rattle.number_maps.specs.Maps.{Numbered, get}
use Rattle.number_maps.specs.Rising.{IsRising}
use Rattle.node_model.specs.declared.held.Held.{Held}
use Rattle.node_model.specs.declared.held.Held.TheVariants.{Request, Ending}
use Rattle.node_model.specs.Kinds.{Named, get_named, put_named, is_same_name}
use Rattle.node_model.specs.Directory.{Parting, is_held_in, is_parcel_with}
use Rattle.lease_leader.specs.Places.{items_in, places_by, spot_at, with_item}
use Rattle.lease_leader.specs.Counting.{AllAreIn, AreCounted, Counts, count_in, deeds_in, deeds_named, named_among, named_at, named_in, parcel_deeds}
use Rattle.lease_leader.specs.declared.spot.Spot.{Spot}
use Rattle.lease_leader.specs.declared.spot.Spot.TheVariants as spots
use Rattle.lease_leader.proofs.Changes.{items_of-place_by}

-- ---- some, by a count

above-sum : (a b : ℕ) → (nat_lt 0 a || nat_lt 0 b) ≡ nat_lt 0 (a + b)
above-sum zero b = ap (nat_lt 0) (omega arith)
above-sum (suc a) b =
    ap (λ (t : Bool). t || nat_lt 0 b) (lt-ltb 0 (suc a) (omega arith)) ∙ sym (lt-ltb 0 (suc a + b) (omega arith))

any-sum : {X : Type 0} (p : X → Bool) (f : X → ℕ) → ((x : X) → p x ≡ nat_lt 0 (f x)) → (xs : List X)
    → list_any p xs ≡ nat_lt 0 (sum_by f xs)
any-sum p f each [] = refl
any-sum p f each (x ∷ xs) =
    ap (λ (b : Bool). b || list_any p xs) (each x)
    ∙ ap (λ (b : Bool). nat_lt 0 (f x) || b) (any-sum p f each xs)
    ∙ above-sum (f x) (sum_by f xs)
    ∙ ap (nat_lt 0) (sym (sum_by-cons f x xs))

one-above : (b : Bool) → b ≡ nat_lt 0 (cond b 1 0)
one-above true = refl
one-above false = refl

module _ (name : Name) where
  parcel-count : (item : Held) → is_parcel_with name item ≡ nat_lt 0 (deeds_named name (parcel_deeds item))
  parcel-count (Request asked) = refl
  parcel-count (Ending parcel) =
      any-sum (λ deed. is_same_name name deed.name) _ (λ deed. one-above (is_same_name name deed.name)) parcel.deeds

  spot-count : (spot : Spot) → list_any (is_parcel_with name) (items_in spot) ≡ nat_lt 0 (named_at name spot)
  spot-count spot = any-sum (is_parcel_with name) _ parcel-count (items_in spot)

  -- a held parcel has the name's deed where its count isn't 0
  pub is_held_in-count : (partings : Numbered Parting) (kept : Numbered Spot)
      → is_held_in name (places_by partings kept) ≡ nat_lt 0 (named_among name kept)
  is_held_in-count partings [] = refl
  is_held_in-count partings (e ∷ kept) =
      ap (λ (items : List Held). list_any (is_parcel_with name) items || is_held_in name (places_by partings kept))
      (items_of-place_by partings e.1)
      ∙ ap (λ (b : Bool). b || is_held_in name (places_by partings kept)) (spot-count e.1)
      ∙ ap (λ (b : Bool). nat_lt 0 (named_at name e.1) || b) (is_held_in-count partings kept)
      ∙ above-sum (named_at name e.1) (named_among name kept)
      ∙ ap (nat_lt 0) (sym (sum_by-cons (named_at name) e.1 (values_of kept)))

  -- ---- a change of a spot

  none-counts : (items : List Held) → sum_by (λ item. deeds_named name []) items ≡ 0
  none-counts [] = refl
  none-counts (item ∷ items) =
      omega (arith, sum_by-cons {X = Held} (λ item'. deeds_named name []) item items, none-counts items)

  none-count : (o : Option Spot)
      → unwrap_or (option_map (λ spot. sum_by (λ item. deeds_named name []) (items_in spot)) o) 0 ≡ 0
  none-count None = refl
  none-count (Some spot) = none-counts (items_in spot)

  -- what counts at a spot of this name
  abbrev pub counted_at : Name → Spot → ℕ
  counted_at holder spot = named_in name holder (items_in spot)

  pub named_among-put : (kept : Named Spot) (holder : Name) (spot : Spot) → IsRising kept.processes
      → named_among name (put_named kept holder spot).processes
      + unwrap_or (option_map (counted_at holder) (get_named kept holder)) 0
      ≡ named_among name kept.processes + counted_at holder spot
  named_among-put kept (Proc pid) spot rising =
      sum_by-insert_entry (named_at name) nat_cmp_total kept.processes pid spot rising
  named_among-put kept (Msg id) spot rising =
      omega (arith, none-count (get kept.queues id), none-counts (items_in spot))
  named_among-put kept (Sem id) spot rising =
      omega (arith, none-count (get kept.sets id), none-counts (items_in spot))

  pub counted-with_item : (holder : Name) (spot : Spot) (item : Held)
      → counted_at holder (with_item spot item) ≡ counted_at holder spot + deeds_named name (deeds_in holder item)
  counted-with_item holder (spots.WhileItStays node) item =
      sum_by_push (λ i. deeds_named name (deeds_in holder i)) [] item
  counted-with_item holder (spots.Regardless node) item =
      sum_by_push (λ i. deeds_named name (deeds_in holder i)) [] item
  counted-with_item holder (spots.Coming to held) item =
      sum_by_push (λ i. deeds_named name (deeds_in holder i)) held item

  counted-spot_at : (holder : Name) (node : ℕ) (b : Bool) → counted_at holder (spot_at node b) ≡ 0
  counted-spot_at holder node true = refl
  counted-spot_at holder node false = refl

-- ---- the counts stay those of the parcels

module _ (counts counts' : Counts) (kept : Named Spot) (holder : Name) (rising : IsRising kept.processes)
    (counted : AreCounted counts kept) where
  -- a name that wasn't known comes to a node
  pub counted-new : (node : ℕ) (b : Bool) → get_named kept holder ≡ None
      → AreCounted counts (put_named kept holder (spot_at node b))
  counted-new node b none name =
      let was : unwrap_or (option_map (counted_at name holder) (get_named kept holder)) 0 ≡ 0 =
      ap (λ (o : Option Spot). unwrap_or (option_map (counted_at name holder) o) 0) none in
      omega (
        arith,
        named_among-put name kept holder (spot_at node b) rising,
        was,
        counted-spot_at name holder node b,
        counted name,
      )

  -- another spot, by what counted at the one before
  counted-there : (spot : Spot) (name : Name) → get_named kept holder ≡ Some spot
      → unwrap_or (option_map (counted_at name holder) (get_named kept holder)) 0 ≡ counted_at name holder spot
  counted-there spot name there = ap (λ (o : Option Spot). unwrap_or (option_map (counted_at name holder) o) 0) there

  pub counted-same : (spot spot' : Spot) → get_named kept holder ≡ Some spot → items_in spot ≡ [] → items_in spot' ≡ []
      → AreCounted counts (put_named kept holder spot')
  counted-same spot spot' there none none' name =
      let before : counted_at name holder spot ≡ 0 = ap (named_in name holder) none in
      let after : counted_at name holder spot' ≡ 0 = ap (named_in name holder) none' in
      omega (
        arith,
        named_among-put name kept holder spot' rising,
        counted-there spot name there,
        before,
        after,
        counted name,
      )

  -- an item is held, and its deeds have come to the counts
  pub counted-held : (spot : Spot) (item : Held) → get_named kept holder ≡ Some spot
      → ((name : Name) → count_in counts' name ≡ count_in counts name + deeds_named name (deeds_in holder item))
      → AreCounted counts' (put_named kept holder (with_item spot item))
  counted-held spot item there come name =
      omega (
        arith,
        named_among-put name kept holder (with_item spot item) rising,
        counted-there spot name there,
        counted-with_item name holder spot item,
        come name,
        counted name,
      )

  -- what is held for a name is in the counts
  pub counted-in : (spot : Spot) → get_named kept holder ≡ Some spot → AllAreIn counts holder (items_in spot)
  counted-in spot there name =
      omega (
        arith,
        named_among-put name kept holder (spots.Regardless 0) rising,
        counted-there spot name there,
        counted name,
      )

  -- the name comes to a node, and what was held for it has gone from the counts
  pub counted-gone : (spot : Spot) (node : ℕ) (b : Bool) → get_named kept holder ≡ Some spot
      → ((name : Name) → count_in counts' name + named_in name holder (items_in spot) ≡ count_in counts name)
      → AreCounted counts' (put_named kept holder (spot_at node b))
  counted-gone spot node b there gone name =
      omega (
        arith,
        named_among-put name kept holder (spot_at node b) rising,
        counted-there spot name there,
        counted-spot_at name holder node b,
        gone name,
        counted name,
      )
