-- What a change of the spots makes of the directory.
use Rattle.std.proofs.Common.{◌≡◌, ℕ, Bool, true, false, cond, not, List, [], ◌∷◌, Option, Some, None, is_none, is_some, refl, sym, ap, ◌∙◌, IsTrue, IsSome}
use Rattle.std.proofs.lemmas.Bool.{false≢true}
use Rattle.std.specs.Option.{option_map}
use Rattle.pico_base.specs.declared.numbers.Name.{Name}
use Rattle.number_maps.specs.Maps.{Numbered, get, put}
use Rattle.node_model.specs.declared.held.Held.{Held}
use Rattle.node_model.specs.Kinds.{Named, PerKind, get_named, put_named}
use Rattle.node_model.specs.Directory.{Directory, Parting, IsLeaving, HasLeft, Place, At, Coming, bound_for, destination_of, held_for, hold, hold_at, is_coming, is_coming_to, is_known, is_leaving, items_of, maker, maker_stays, place_name, place_of, route, route_by, route_by_maker, stays, with_leaving, with_left, with_place}
use Rattle.lease_leader.specs.Places.{AllAreLate, all_places_by, destination_in, directory_by, is_at, is_at_node, items_in, place_by, route_of, spot_at, with_item}
use Rattle.lease_leader.specs.declared.spot.Spot.{Spot}
use Rattle.lease_leader.specs.declared.spot.Spot.TheVariants as spots
use Rattle.lease_leader.proofs.Late.{all_places_by-leaving, all_places_by-left}
use Rattle.lease_leader.proofs.Kept.{get-all_places_by, all_places_by-put, place_by-spot_at}

none-from : {A : Type 0} (o : Option A) → is_none o ≡ true → o ≡ None
none-from None h = refl
none-from (Some a) h = absurd (false≢true h)

-- an option by its test
pub none-some : {A : Type 0} (o : Option A) → is_some o ≡ false → o ≡ None
none-some None h = refl
none-some (Some a) h = absurd (false≢true (sym h))

-- the value that is there
pub some-there : {A : Type 0} (o : Option A) → IsSome o → (a : A) × (o ≡ Some a)
some-there None h = absurd (false≢true h)
some-there (Some a) h = (a, refl)

-- where a call on a known name goes doesn't depend on its number
route_of_known : (place : Place) (b : Bool) (made_by : Option ℕ) → route_by (Some place) b made_by ≡ route_of place
route_of_known (At node) b made_by = refl
route_of_known (Coming to items) b made_by = refl

module _ (partings : Numbered Parting) where
  known-by : (o : Option Spot) → not (is_none (option_map (place_by partings) o)) ≡ is_some o
  known-by None = refl
  known-by (Some spot) = refl

  some-coming : (o : Option Spot) → IsTrue (is_coming_to (option_map (place_by partings) o)) → IsSome o
  some-coming None h = h
  some-coming (Some spot) h = refl

  some-at : (o : Option Spot) → IsTrue (is_at_node (option_map (place_by partings) o)) → IsSome o
  some-at None h = h
  some-at (Some spot) h = refl

  items-by : (b : Bool) (node : ℕ) → items_of (Some (cond b (At node) (Coming None []))) ≡ []
  items-by true node = refl
  items-by false node = refl

  -- what is held for a name whose spot this is
  pub items_of-place_by : (spot : Spot) → items_of (Some (place_by partings spot)) ≡ items_in spot
  items_of-place_by (spots.WhileItStays node) = items-by (is_none (get partings node)) node
  items_of-place_by (spots.Regardless node) = refl
  items_of-place_by (spots.Coming to held) = refl

  bound-by : (b : Bool) (node : ℕ) → destination_of (Some (cond b (At node) (Coming None []))) ≡ None
  bound-by true node = refl
  bound-by false node = refl

  destination_in-place_by : (spot : Spot) → destination_in spot ≡ destination_of (Some (place_by partings spot))
  destination_in-place_by (spots.WhileItStays node) = sym (bound-by (is_none (get partings node)) node)
  destination_in-place_by (spots.Regardless node) = refl
  destination_in-place_by (spots.Coming to held) = refl

  -- nothing is held for a name that is at a node
  pub at-items : (spot : Spot) → IsTrue (is_at_node (Some (place_by partings spot))) → items_in spot ≡ []
  at-items (spots.WhileItStays node) h = refl
  at-items (spots.Regardless node) h = refl
  at-items (spots.Coming to held) h = absurd (false≢true h)

  module _ (kept : Named Spot) (ranges : PerKind (List ℕ)) where
    pub known : (name : Name) → is_known (directory_by partings kept ranges) name ≡ is_some (get_named kept name)
    known name =
        ap (λ (o : Option Place). not (is_none o)) (get-all_places_by partings kept name)
        ∙ known-by (get_named kept name)

    pub place_of-spot : (name : Name) (spot : Spot) → get_named kept name ≡ Some spot
        → place_of (directory_by partings kept ranges) name ≡ Some (place_by partings spot)
    place_of-spot name spot there =
        get-all_places_by partings kept name ∙ ap (option_map (place_by partings)) there

    -- a name that is coming, or at a node, has a spot
    pub coming-there : (name : Name) → IsTrue (is_coming (directory_by partings kept ranges) name)
        → IsSome (get_named kept name)
    coming-there name h =
        some-coming (get_named kept name) (ap is_coming_to (sym (get-all_places_by partings kept name)) ∙ h)

    pub at-there : (name : Name) → IsTrue (is_at (directory_by partings kept ranges) name)
        → IsSome (get_named kept name)
    at-there name h = some-at (get_named kept name) (ap is_at_node (sym (get-all_places_by partings kept name)) ∙ h)

    -- another spot for a name is another place
    pub with-spot : (name : Name) (spot : Spot) (place : Place) → place_by partings spot ≡ place
        → directory_by partings (put_named kept name spot) ranges
        ≡ with_place (directory_by partings kept ranges) name place
    with-spot name spot place is =
        let with : Named Place → Directory =
        λ places. record { places = places; partings = partings; ranges = ranges } in
        ap with (all_places_by-put partings kept name spot
        ∙ ap (λ (p : Place). put_named (all_places_by partings kept) name p) is)

    pub comes-to : (name : Name) (node : ℕ)
        → directory_by partings (put_named kept name (spot_at node (is_none (get partings node)))) ranges
        ≡ with_place (directory_by partings kept ranges) name (At node)
    comes-to name node = with-spot name _ (At node) (place_by-spot_at partings node)

    -- a name that isn't known is placed, and a known one isn't
    pub place-new : (name : Name) (node : ℕ) → is_some (get_named kept name) ≡ false
        → directory_by partings (put_named kept name (spot_at node (is_none (get partings node)))) ranges
        ≡ place_name (directory_by partings kept ranges) name node
    place-new name node new =
        let d = directory_by partings kept ranges in
        comes-to name node ∙ ap (λ (b : Bool). cond b d (with_place d name (At node))) (sym (known name ∙ new))

    pub place-known : (name : Name) (node : ℕ) → is_some (get_named kept name) ≡ true
        → directory_by partings kept ranges ≡ place_name (directory_by partings kept ranges) name node
    place-known name node there =
        let d = directory_by partings kept ranges in
        ap (λ (b : Bool). cond b d (with_place d name (At node))) (sym (known name ∙ there))

    held-while : (name : Name) (item : Held) (node : ℕ) (b : Bool)
        → IsTrue (is_coming_to (Some (cond b (At node) (Coming None []))))
        → with_place (directory_by partings kept ranges) name (Coming None (item ∷ []))
        ≡ hold_at (directory_by partings kept ranges) name item (Some (cond b (At node) (Coming None [])))
    held-while name item node true h = absurd (false≢true h)
    held-while name item node false h = refl

    held-by : (name : Name) (item : Held) (spot : Spot) → IsTrue (is_coming_to (Some (place_by partings spot)))
        → with_place (directory_by partings kept ranges) name (place_by partings (with_item spot item))
        ≡ hold_at (directory_by partings kept ranges) name item (Some (place_by partings spot))
    held-by name item (spots.WhileItStays node) h = held-while name item node (is_none (get partings node)) h
    held-by name item (spots.Regardless node) h = absurd (false≢true h)
    held-by name item (spots.Coming to held) h = refl

    -- a further item is held
    pub holds : (name : Name) (item : Held) (spot : Spot) → get_named kept name ≡ Some spot
        → IsTrue (is_coming (directory_by partings kept ranges) name)
        → directory_by partings (put_named kept name (with_item spot item)) ranges
        ≡ hold (directory_by partings kept ranges) name item
    holds name item spot there coming =
        let d = directory_by partings kept ranges in
        let is = place_of-spot name spot there in
        with-spot name (with_item spot item) _ refl
        ∙ held-by name item spot (ap is_coming_to (sym is) ∙ coming)
        ∙ ap (hold_at d name item) (sym is)

    pub held-items : (name : Name) (spot : Spot) → get_named kept name ≡ Some spot
        → items_in spot ≡ held_for (directory_by partings kept ranges) name
    held-items name spot there = sym (ap items_of (place_of-spot name spot there) ∙ items_of-place_by spot)

    -- where a call on a known name goes
    pub route-known : (name : Name) (spot : Spot) → get_named kept name ≡ Some spot
        → route_of (place_by partings spot) ≡ route (directory_by partings kept ranges) name
    route-known name spot there =
        let d = directory_by partings kept ranges in
        sym (ap (λ (o : Option Place). route_by o (maker_stays d (maker d name)) (maker d name))
        (place_of-spot name spot there)
        ∙ route_of_known (place_by partings spot) _ _)

    -- where a call on a name that isn't known goes
    pub route-unknown : (name : Name) (made_by : Option ℕ) → get_named kept name ≡ None
        → made_by ≡ maker (directory_by partings kept ranges) name
        → route (directory_by partings kept ranges) name
        ≡ route_by_maker (maker_stays (directory_by partings kept ranges) made_by) made_by
    route-unknown name made_by none is =
        let d = directory_by partings kept ranges in
        ap (λ (o : Option Place). route_by o (maker_stays d (maker d name)) (maker d name))
        (get-all_places_by partings kept name ∙ ap (option_map (place_by partings)) none)
        ∙ ap (λ (m : Option ℕ). route_by_maker (maker_stays d m) m) (sym is)

    pub bound-none : (name : Name) → get_named kept name ≡ None
        → None ≡ bound_for (directory_by partings kept ranges) name
    bound-none name none =
        sym (ap destination_of (get-all_places_by partings kept name ∙ ap (option_map (place_by partings)) none))

    pub bound-spot : (name : Name) (spot : Spot) → get_named kept name ≡ Some spot
        → destination_in spot ≡ bound_for (directory_by partings kept ranges) name
    bound-spot name spot there =
        destination_in-place_by spot ∙ sym (ap destination_of (place_of-spot name spot there))

    pub at-spot : (name : Name) (spot : Spot) → get_named kept name ≡ Some spot
        → IsTrue (is_at (directory_by partings kept ranges) name) → items_in spot ≡ []
    at-spot name spot there h = at-items spot (ap is_at_node (sym (place_of-spot name spot there)) ∙ h)

    -- a node leaves, or has left
    pub leaves : (node : ℕ) → IsTrue (stays (directory_by partings kept ranges) node) → AllAreLate partings kept
        → directory_by (put partings node IsLeaving) kept ranges ≡ with_leaving (directory_by partings kept ranges) node
    leaves node h late =
        let with : Named Place → Directory =
        λ places. record { places = places; partings = put partings node IsLeaving; ranges = ranges } in
        ap with (all_places_by-leaving partings node (none-from (get partings node) h) kept late)

    pub has-left : (node : ℕ) → IsTrue (is_leaving (directory_by partings kept ranges) node)
        → directory_by (put partings node HasLeft) kept ranges ≡ with_left (directory_by partings kept ranges) node
    has-left node h =
        let with : Named Place → Directory =
        λ places. record { places = places; partings = put partings node HasLeft; ranges = ranges } in
        ap with (all_places_by-left partings node h kept)
