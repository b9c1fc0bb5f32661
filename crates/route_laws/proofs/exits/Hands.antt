-- The leader's hand once the names of its first parcel are at a node: what was held for them is in it, in front of the
-- rest.
use Rattle.std.proofs.Common.{◌≡◌, ℕ, Bool, true, false, cond, if◌then◌else◌, List, [], ◌∷◌, ◌++◌, filter, flat_map, Some, Contains, refl, ap, sym, subst, ◌∙◌, inl, inr}
use Rattle.std.specs.List.{AllByRecursion}
use Rattle.std.proofs.lemmas.Bool.{false≢true}
use Rattle.std.proofs.lemmas.List.Elements.{filter-append, Contains-append_right, Contains-append_cases}
use Rattle.pico_base.specs.declared.numbers.Name.{Name}
use Rattle.pico_base.specs.declared.numbers.Name.TheVariants.{Proc, Msg, Sem}
use Rattle.pico_base.specs.declared.script.Script.{Script}
use Rattle.rpc_frame.specs.declared.deed.Parcel.{Parcel}
use Rattle.node_model.specs.declared.held.Held.{Held}
use Rattle.node_model.specs.declared.held.Held.TheVariants.{Request, Ending}
use Rattle.node_model.specs.Kinds.{is_object}
use Rattle.node_model.specs.Directory.{Directory, At, place_of, held_for, has_deed_of, is_parcel_with}
use Rattle.world_model.specs.Ends.{names_in, held_for_all}
use Rattle.world_model.specs.World.{World}
use Rattle.world_laws.specs.Places.{Beside}
use Rattle.world_laws.specs.Sights.{directory_of, is_born_in}
use Rattle.world_laws.specs.Names.{NameSight, name_sight, NameHolds, OneIf, IsItemFor, IsItemWith, is_kept_for, node_in, forker}
use Rattle.world_laws.specs.Ways.{IsParcelIn, kept as kept_in, at_hand}
use Rattle.world_laws.specs.Invariant.{HoldsOwing}
use Rattle.world_laws.specs.Cancels.{Owing}
use Rattle.route_laws.proofs.exits.Arrivals.{is_one_of, has-is-one, Arrives, AreApart, held-kept, kept-of-all, held-for-one, none-of-all, each-of-all, names-apart}
use Rattle.route_laws.proofs.exits.Released.{IsSeenHeld}
use Rattle.route_laws.proofs.exits.Parcels.{hand-sender, parcel-in-hand, others-lack}

-- no process ends for a queue or a set
no-ending-for : (name other : Name) → is_object name ≡ true → (items : List Held)
    → AllByRecursion (IsItemFor name) items
    → filter (is_parcel_with other) items ≡ []
no-ending-for name other object [] all = refl
no-ending-for name other object (Request asked ∷ items) all = no-ending-for name other object items all.1
no-ending-for name other object (Ending parcel ∷ items) all = absurd (false≢true (sym (ap is_object all.0) ∙ object))

module _ (script : Script) (w : World) (items : List Held) (parcel : Parcel) {owes : Owing} (b : Beside)
    (holds : HoldsOwing script w (Ending parcel ∷ items) owes b) where
  -- what is in hand
  abbrev pub hand : List Held
  hand = Ending parcel ∷ items

  -- the names of the first parcel
  abbrev pub names : List Name
  names = names_in parcel

  -- what the leader knows
  abbrev pub d : Directory
  d = directory_of w

  -- what is in hand then
  abbrev pub hand_then : List Held
  hand_then = held_for_all d names ++ items

  -- each name is once in the parcel
  pub parcel-apart : AreApart names
  parcel-apart =
      let sender = hand-sender script w items parcel b holds
      in let is_of = sender.is_of
      in names-apart parcel is_of.bodies is_of.packed is_of.ordered

  in_parcel : (name : Name) → is_one_of name names ≡ has_deed_of name parcel
  in_parcel name = has-is-one name parcel

  -- ---- a name

  module _ (name : Name) where
    abbrev x : NameSight
    x = name_sight script w hand b name

    known : NameHolds script b.pids (is_born_in w) name x
    known = holds.names name

    -- what is held for a name with a deed of this one
    abbrev pub held_with : Name → List Held
    held_with m = filter (is_parcel_with name) (held_for d m)

    items-for : (m : Name) → AllByRecursion (IsItemFor m) (held_for d m)
    items-for m =
        let of : NameHolds script b.pids (is_born_in w) m (name_sight script w hand b m) = holds.names m
        in of.items

    -- only for processes
    pub seen-held : IsSeenHeld script b.pids names x held_with
    seen-held =
        record {
          processes = λ pid. refl;
          queues = λ id. no-ending-for (Msg id) name refl (held_for d (Msg id)) (items-for (Msg id));
          sets = λ id. no-ending-for (Sem id) name refl (held_for d (Sem id)) (items-for (Sem id));
        }

    split : filter (is_parcel_with name) hand_then ≡ flat_map held_with names ++ filter (is_parcel_with name) items
    split =
        filter-append (is_parcel_with name) (held_for_all d names) items
        ∙ ap (λ xs. xs ++ filter (is_parcel_with name) items) (kept-of-all (is_parcel_with name) d names)

    -- of a name that isn't in the parcel
    pub in-hand-then : has_deed_of name parcel ≡ false
        → filter (is_parcel_with name) hand_then ≡ flat_map held_with names ++ x.hand
    in-hand-then e =
        split
        ∙ ap (λ xs. flat_map held_with names ++ xs)
        (sym (ap (λ t. cond t (Ending parcel ∷ filter (is_parcel_with name) items)
        (filter (is_parcel_with name) items)) e))

    none-kept-before : has_deed_of name parcel ≡ true → (m : Name) → held_with m ≡ []
    none-kept-before e (Proc pid) =
        let sender = hand-sender script w items parcel b holds
        in let parcel_is = parcel-in-hand script w items parcel b holds
        in subst (λ z. OneIf (is_kept_for (forker script) b.pids z pid) (IsItemWith name x.body (b.pids (node_in z)))
        (x.kept pid)) (parcel_is.deeds name e) (known.kept pid)
    none-kept-before e (Msg id) = no-ending-for (Msg id) name refl (held_for d (Msg id)) (items-for (Msg id))
    none-kept-before e (Sem id) = no-ending-for (Sem id) name refl (held_for d (Sem id)) (items-for (Sem id))

    -- nothing in hand has a deed of a name of the parcel
    pub none-in-hand : has_deed_of name parcel ≡ true → filter (is_parcel_with name) hand_then ≡ []
    none-in-hand e =
        split
        ∙ ap (λ xs. xs ++ filter (is_parcel_with name) items) (none-of-all held_with names (none-kept-before e))
        ∙ others-lack script w items parcel b holds name e

  -- ---- what is held then

  module _ (x : ℕ) (d2 : Directory) (arrives : Arrives d d2 names x) where
    -- with a deed of a name that isn't in the parcel
    pub kept-then : (name : Name) (pid : ℕ)
        → filter (is_parcel_with name) (held_for d2 (Proc pid))
        ≡ (if is_one_of (Proc pid) names then [] else filter (is_parcel_with name) (held_for d (Proc pid)))
    kept-then name pid = held-kept d d2 names x arrives (is_parcel_with name) (Proc pid)

    -- with one of a name of the parcel
    pub none-kept-then : (name : Name) → has_deed_of name parcel ≡ true → (pid : ℕ)
        → filter (is_parcel_with name) (held_for d2 (Proc pid)) ≡ []
    none-kept-then name e pid = kept-then name pid ∙ by-test (is_one_of (Proc pid) names)
      where
        by-test : (t : Bool)
            → (if t then [] else filter (is_parcel_with name) (held_for d (Proc pid))) ≡ []
        by-test true = refl
        by-test false = none-kept-before name e (Proc pid)

    -- the place of a name of the parcel
    pub place-then : (name : Name) → has_deed_of name parcel ≡ true → place_of d2 name ≡ Some (At x)
    place-then name e =
        arrives.place_is name ∙ ap (λ t. if t then Some (At x) else place_of d name) (in_parcel name ∙ e)

    -- and of another name
    pub place-still : (name : Name) → has_deed_of name parcel ≡ false → place_of d2 name ≡ place_of d name
    place-still name e =
        arrives.place_is name ∙ ap (λ t. if t then Some (At x) else place_of d name) (in_parcel name ∙ e)

  -- ---- calls and parcels

  -- what is in hand of a call, or of its withdrawal
  pub kept-in-hand : (test : Held → Bool) → test (Ending parcel) ≡ false
      → filter test hand_then ≡ flat_map (λ m. filter test (held_for d m)) names ++ filter test hand
  kept-in-hand test none =
      filter-append test (held_for_all d names) items
      ∙ ap (λ xs. xs ++ filter test items) (kept-of-all test d names)
      ∙ ap (λ xs. flat_map (λ m. filter test (held_for d m)) names ++ xs)
      (sym (ap (λ t. cond t (Ending parcel ∷ filter test items) (filter test items)) none))

  ending-for : (m : Name) (q : Parcel) → IsItemFor m (Ending q) → m ≡ Proc q.parent
  ending-for m q h = h

  -- each parcel in hand was there
  pub parcel-was : (q : Parcel) → Contains hand_then (Ending q) → IsParcelIn w hand q
  parcel-was q there =
      elim (Contains-append_cases (held_for_all d names) items (Ending q) there) [
        | inr later ↦ at_hand (Contains-append_right (Ending parcel ∷ []) items (Ending q) later)
        | inl held ↦
            let one = held-for-one d names (Ending q) held
            in kept_in q.parent
            (subst (λ m. Contains (held_for d m) (Ending q))
            (ending-for one.0 q (each-of-all (IsItemFor one.0) (held_for d one.0) (Ending q) (items-for one.0 one.0)
            one.1)) one.1)
      ]
