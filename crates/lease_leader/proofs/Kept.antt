-- The places that are kept spots mean: look-ups and changes of them.
use Rattle.std.proofs.Common.{◌≡◌, ℕ, Bool, true, false, cond, [], ◌∷◌, Option, Some, None, is_none, refl, ap}
use Rattle.std.specs.Option.{option_map}
use Rattle.std.specs.Ordering.{nat_cmp, match_ordering}
use Rattle.std.specs.declared.cmp.Ordering.{Ordering}
use Rattle.std.specs.declared.cmp.Ordering.TheVariants.{Less, Equal, Greater}
use Rattle.std.specs.BTreeMap.{is_at}
use Rattle.pico_base.specs.declared.numbers.Name.{Name}
use Rattle.pico_base.specs.declared.numbers.Name.TheVariants.{Proc, Msg, Sem}
use Rattle.number_maps.specs.Maps.{Numbered, get, put}
use Rattle.node_model.specs.Kinds.{Named, get_named, put_named}
use Rattle.node_model.specs.Directory.{Parting, Place, At}
use Rattle.lease_leader.specs.Places.{all_places_by, place_by, places_by, spot_at}
use Rattle.lease_leader.specs.declared.spot.Spot.{Spot}

module _ (partings : Numbered Parting) where
  looked : (b : Bool) (spot : Spot) (later : Option Place) (o : Option Spot) → later ≡ option_map (place_by partings) o
      → cond b (Some (place_by partings spot)) later ≡ option_map (place_by partings) (cond b (Some spot) o)
  looked true spot later o h = refl
  looked false spot later o h = h

  pub get-places_by : (kept : Numbered Spot) (k : ℕ)
      → get (places_by partings kept) k ≡ option_map (place_by partings) (get kept k)
  get-places_by [] k = refl
  get-places_by (e ∷ kept) k = looked (is_at (nat_cmp k) e.0) e.1 _ (get kept k) (get-places_by kept k)

  written : (o : Ordering) (k : ℕ) (spot : Spot) (e : ℕ × Spot) (kept rest : Numbered Spot) (rest' : Numbered Place)
      → places_by partings rest ≡ rest'
      → places_by partings (match_ordering o ((k, spot) ∷ e ∷ kept) ((e.0, spot) ∷ kept) (e ∷ rest))
      ≡ match_ordering o ((k, place_by partings spot) ∷ (e.0, place_by partings e.1) ∷ places_by partings kept)
      ((e.0, place_by partings spot) ∷ places_by partings kept) ((e.0, place_by partings e.1) ∷ rest')
  written Less k spot e kept rest rest' h = refl
  written Equal k spot e kept rest rest' h = refl
  written Greater k spot e kept rest rest' h = ap (λ (xs : Numbered Place). (e.0, place_by partings e.1) ∷ xs) h

  pub places_by-put : (kept : Numbered Spot) (k : ℕ) (spot : Spot)
      → places_by partings (put kept k spot) ≡ put (places_by partings kept) k (place_by partings spot)
  places_by-put [] k spot = refl
  places_by-put (e ∷ kept) k spot =
      written (nat_cmp k e.0) k spot e kept (put kept k spot) _ (places_by-put kept k spot)

  -- the place of a name
  pub get-all_places_by : (kept : Named Spot) (name : Name)
      → get_named (all_places_by partings kept) name ≡ option_map (place_by partings) (get_named kept name)
  get-all_places_by kept (Proc pid) = get-places_by kept.processes pid
  get-all_places_by kept (Msg id) = get-places_by kept.queues id
  get-all_places_by kept (Sem id) = get-places_by kept.sets id

  -- the places, with another spot for a name
  pub all_places_by-put : (kept : Named Spot) (name : Name) (spot : Spot)
      → all_places_by partings (put_named kept name spot)
      ≡ put_named (all_places_by partings kept) name (place_by partings spot)
  all_places_by-put kept (Proc pid) spot =
      let with : Numbered Place → Named Place =
      λ xs. record { processes = xs; queues = places_by partings kept.queues; sets = places_by partings kept.sets } in
      ap with (places_by-put kept.processes pid spot)
  all_places_by-put kept (Msg id) spot =
      let with : Numbered Place → Named Place =
      λ xs. record {
        processes = places_by partings kept.processes;
        queues = xs;
        sets = places_by partings kept.sets;
      } in
      ap with (places_by-put kept.queues id spot)
  all_places_by-put kept (Sem id) spot =
      let with : Numbered Place → Named Place =
      λ xs. record {
        processes = places_by partings kept.processes;
        queues = places_by partings kept.queues;
        sets = xs;
      } in
      ap with (places_by-put kept.sets id spot)

  come : (node : ℕ) (o : Option Parting) → get partings node ≡ o
      → place_by partings (spot_at node (is_none o)) ≡ At node
  come node None h = rw h refl
  come node (Some p) h = refl

  -- a name that comes to a node is at it
  pub place_by-spot_at : (node : ℕ) → place_by partings (spot_at node (is_none (get partings node))) ≡ At node
  place_by-spot_at node = come node (get partings node) refl
