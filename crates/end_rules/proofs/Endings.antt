-- A process ends: the exit is carried out or sent on, or held; and what was held for the names of its parcel is
-- released.
use Rattle.std.proofs.Common.{◌≡◌, ◌∙◌, ℕ, ◌+◌, ◌≤◌, ◌<◌, true, false, List, [], ◌∷◌, ◌++◌, length, take, get_or, Option, Some, None, refl, ap, sym, subst, inl, inr, arith, append-nil}
use Rattle.std.proofs.lemmas.Grind.{flat_map-append}
use Rattle.std.proofs.lemmas.List.{take_more}
use Rattle.std.proofs.lemmas.List.Sums.{fold-append}
use Rattle.pico_base.specs.declared.numbers.Name.{Name}
use Rattle.pico_base.specs.declared.numbers.Name.TheVariants.{Proc, Msg, Sem}
use Rattle.rpc_frame.specs.declared.deed.Parcel.{Parcel}
use Rattle.number_maps.proofs.Rising.{rising-behind, rising-nothing}
use Rattle.node_model.specs.declared.held.Held.{Held}
use Rattle.node_model.specs.declared.held.Held.TheVariants.{Ending}
use Rattle.node_model.specs.Kinds.{is_object}
use Rattle.node_model.specs.Bodies as model
use Rattle.node_model.specs.Directory.{Directory, Place, At, Coming, arrive, held_for, hold_at, is_coming, is_coming_to, items_of, parcels_held, place_of}
use Rattle.world_model.specs.Step.{Step}
use Rattle.world_model.specs.Routes.{hold_item}
use Rattle.world_model.specs.Ends.{arrive_all, arrive_at, held_for_all}
use Rattle.world_laws.proofs.Named.{name-cases}
use Rattle.rule_laws.proofs.Places.{place-with-other, place-with-same}
use Rattle.route_laws.proofs.release.Parcels.{PlacesRise, all-arrive, among-behind-parcel, among-both, one-more-held}
use Rattle.end_rules.specs.Ending.{AllArrived, Arrived, parcels_among, parcels_in, with_places}

-- ---- the names arrive

-- what was held for a process that arrives isn't held any more
pub arrival-counts : (d : Directory) (name : Name) (node : ℕ) → is_object name ≡ false → PlacesRise d
    → parcels_held (arrive d name node) + parcels_among (held_for d name) ≡ parcels_held d
arrival-counts d (Proc pid) node is rises =
    omega (
      arith,
      all-arrive ((pid, model.Gone) ∷ []) d node
          (rising-behind (pid, model.Gone) [] tt (rising-nothing model.Body)) rises,
      ap parcels_among (append-nil (held_for d (Proc pid))),
    )
arrival-counts d (Msg id) node is rises = absurd (cc)
arrival-counts d (Sem id) node is rises = absurd (cc)

-- a name that is still on its way is in its place
still-coming : (d : Directory) (names : List Name) (node : ℕ) (name : Name)
    → is_coming (arrive_all d names node) name ≡ true
    → place_of (arrive_all d names node) name ≡ place_of d name
still-coming d [] node name comes = refl
still-coming d (first ∷ names) node name comes =
    let later : place_of (arrive_all (arrive d first node) names node) name ≡ place_of (arrive d first node) name =
    still-coming (arrive d first node) names node name comes
    in elim (name-cases name first) [
      | inl same ↦
          let there : place_of (arrive d first node) name ≡ Some (At node) =
          ap (place_of (arrive d first node)) same ∙ place-with-same d first (At node)
          in let no : false ≡ true = sym (ap is_coming_to (later ∙ there)) ∙ comes in absurd (cc)
      | inr other ↦ later ∙ place-with-other d first (At node) name other
    ]

-- one more arrives
one-more-arrived : (s t u : Step) (names : List Name) (name : Name) (node : ℕ) (items more : List Held)
    → AllArrived s names node t items → Arrived t name node u more
    → AllArrived s (names ++ name ∷ []) node u (items ++ more)
one-more-arrived s t u names name node items more all one =
    let d : Directory = s.node.leader.directory
    in let later : Directory = arrive_all d names node
    in let there : t.node.leader.directory ≡ later = ap (λ (x : Step). x.node.leader.directory) all.after
    in let comes : is_coming later name ≡ true = sym (ap (λ e. is_coming e name) there) ∙ one.came
    in let held : more ≡ held_for d name =
    one.held ∙ ap (λ e. held_for e name) there ∙ ap items_of (still-coming d names node name comes)
    in let a : parcels_in t + parcels_among items ≡ parcels_in s = all.counts
    in let b : parcels_in u + parcels_among more ≡ parcels_in t = one.counts
    in record {
      held = ap (λ xs. xs ++ more) all.held ∙ ap (λ xs. held_for_all d names ++ xs) (held ∙ sym (append-nil _))
          ∙ sym (flat_map-append (held_for d) names (name ∷ []));
      after = one.after ∙ ap (λ (x : Step). with_places x (arrive x.node.leader.directory name node)) all.after
          ∙ ap (with_places s) (sym (fold-append (arrive_at node) d names (name ∷ [])));
      counts = omega (arith, a, b, among-both items more);
    }

-- a step on along the names
pub step-arrived : (s t u : Step) (names : List Name) (i : ℕ) (name : Name) (node : ℕ) (items more : List Held)
    → i < length names → name ≡ get_or names i name
    → AllArrived s (take i names) node t items → Arrived t name node u more
    → AllArrived s (take (i + 1) names) node u (items ++ more)
step-arrived s t u names i name node items more within is all one =
    subst (λ (ns : List Name). AllArrived s ns node u (items ++ more))
    (ap (λ x. take i names ++ x ∷ []) is ∙ sym (take_more names i name within))
    (one-more-arrived s t u (take i names) name node items more all one)

-- ---- the end is held

-- a parcel more is held
one-more : (d : Directory) (name : Name) (parcel : Parcel) (o : Option Place) → place_of d name ≡ o → PlacesRise d
    → parcels_held (hold_at d name (Ending parcel) o) ≤ parcels_held d + 1
one-more d name parcel None e r = omega arith
one-more d name parcel (Some (At node)) e r = omega arith
one-more d name parcel (Some (Coming to items)) e r =
    one-more-held d name (Coming to (items ++ Ending parcel ∷ [])) r
    (omega (
      arith,
      among-both items (Ending parcel ∷ []),
      among-behind-parcel parcel [],
      ap (λ o. parcels_among (items_of o)) e,
    ))

-- with an end that is held there is at most one parcel more among those held
pub held-counts : (s : Step) (parcel : Parcel) (name : Name) → PlacesRise s.node.leader.directory
    → parcels_in (hold_item s name (Ending parcel)) ≤ parcels_in s + 1
held-counts s parcel name rises =
    one-more s.node.leader.directory name parcel (place_of s.node.leader.directory name) refl rises
