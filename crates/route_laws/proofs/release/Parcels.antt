-- How many parcels there are in the leader's hand and in what its directory holds: what another place of a name, or the
-- arrival of many, changes.
use Rattle.std.proofs.Common.{◌≡◌, ◌≢◌, ℕ, ◌+◌, ◌≤◌, ◌<◌, cond, List, [], ◌∷◌, ◌++◌, map, count_by, Option, Some, refl, ap, ◌∙◌, inl, inr, arith}
use Rattle.std.specs.List.{AllByRecursion}
use Rattle.std.proofs.lemmas.Bool.{cases_order}
use Rattle.std.proofs.lemmas.List.Sums.{sum_by-cons, sum_by-append}
use Rattle.pico_base.specs.declared.numbers.Name.{Name}
use Rattle.pico_base.specs.declared.numbers.Name.TheVariants.{Proc, Msg, Sem}
use Rattle.rpc_frame.specs.declared.asked.Asked.{Asked}
use Rattle.rpc_frame.specs.declared.deed.PackedDeed.{PackedDeed}
use Rattle.rpc_frame.specs.declared.deed.Parcel.{Parcel}
use Rattle.number_maps.specs.Maps.{Numbered, get, put}
use Rattle.number_maps.specs.Rising.{IsRising}
use Rattle.number_maps.proofs.LookUps.{get-first, get-later, put-less, put-equal, put-greater}
use Rattle.number_maps.proofs.Rising.{above-first, above-lower, rising-rest, rising-put, get-above}
use Rattle.node_model.specs.declared.held.Held.{Held}
use Rattle.node_model.specs.declared.held.Held.TheVariants.{Request, Ending}
use Rattle.node_model.specs.Kinds.{number_of}
use Rattle.node_model.specs.Bodies.{Body}
use Rattle.node_model.specs.Parcels.{pack_all}
use Rattle.node_model.specs.Directory.{Directory, Place, At, with_place, held_for, items_of, is_parcel, parcels_in, parcels_held}
use Rattle.world_model.specs.Ends.{arrive_all, held_for_all}
use Rattle.rule_laws.proofs.Places.{place-with-other}

-- the parcels in a list of items
abbrev pub parcels_among : List Held → ℕ
parcels_among items = count_by is_parcel items

abbrev one_if : Held → ℕ
one_if item = cond (is_parcel item) 1 0

-- a call in front is no parcel
pub among-behind-call : (asked : Asked) (items : List Held)
    → parcels_among (Request asked ∷ items) ≡ parcels_among items
among-behind-call asked items = omega (arith, sum_by-cons one_if (Request asked) items)

-- a parcel in front is one
pub among-behind-parcel : (parcel : Parcel) (items : List Held)
    → parcels_among (Ending parcel ∷ items) ≡ 1 + parcels_among items
among-behind-parcel parcel items = sum_by-cons one_if (Ending parcel) items

-- two lists have the parcels of both
pub among-both : (xs ys : List Held) → parcels_among (xs ++ ys) ≡ parcels_among xs + parcels_among ys
among-both xs ys = sum_by-append one_if xs ys

-- ---- a place more, or another

abbrev parcels_at : Option Place → ℕ
parcels_at o = parcels_among (items_of o)

abbrev in_entry : ℕ × Place → ℕ
in_entry e = parcels_among (items_of (Some e.1))

in-first : (e : ℕ × Place) (m : Numbered Place) → parcels_in (e ∷ m) ≡ in_entry e + parcels_in m
in-first e m = sum_by-cons in_entry e m

-- what is put in place of what was there
parcels-put : (m : Numbered Place) (k : ℕ) (place : Place) → IsRising m
    → parcels_in (put m k place) + parcels_at (get m k) ≡ parcels_in m + parcels_at (Some place)
parcels-put [] k place r = omega (arith, in-first (k, place) [])
parcels-put (e ∷ m) k place r =
    elim (cases_order k e.0) [
      | inl same ↦
          omega (
            arith,
            ap parcels_in (put-equal e m k place same),
            ap parcels_at (get-first e m k same),
            in-first (e.0, place) m,
            in-first e m,
          )
      | inr c ↦
          elim c [
            | inl l ↦
                let ne : k ≢ e.0 = omega arith
                in omega (
                  arith,
                  ap parcels_in (put-less e m k place l),
                  ap parcels_at (get-later e m k ne ∙ get-above k m (above-lower k e.0 m l (above-first e m r))),
                  in-first (k, place) (e ∷ m),
                )
            | inr g ↦
                let ne : k ≢ e.0 = omega arith
                in omega (
                  arith,
                  ap parcels_in (put-greater e m k place g),
                  ap parcels_at (get-later e m k ne),
                  in-first e (put m k place),
                  in-first e m,
                  parcels-put m k place (rising-rest e m r),
                )
          ]
    ]

-- ---- the leader's directory

-- the processes' places are by rising number
abbrev pub PlacesRise : Directory → Type 0
PlacesRise d = IsRising d.places.processes

-- so they are after another place of a name
pub with-place-rises : (d : Directory) (name : Name) (place : Place) → PlacesRise d
    → PlacesRise (with_place d name place)
with-place-rises d (Proc pid) place r = rising-put d.places.processes pid place r
with-place-rises d (Msg id) place r = r
with-place-rises d (Sem id) place r = r

-- another place of a name, for which no more parcels are held
pub no-more-held : (d : Directory) (name : Name) (place : Place) → PlacesRise d
    → parcels_among (items_of (Some place)) ≤ parcels_among (held_for d name)
    → parcels_held (with_place d name place) ≤ parcels_held d
no-more-held d (Proc pid) place r few = omega (arith, parcels-put d.places.processes pid place r, few)
no-more-held d (Msg id) place r few = omega arith
no-more-held d (Sem id) place r few = omega arith

-- one for which one more is held
pub one-more-held : (d : Directory) (name : Name) (place : Place) → PlacesRise d
    → parcels_among (items_of (Some place)) ≤ parcels_among (held_for d name) + 1
    → parcels_held (with_place d name place) ≤ parcels_held d + 1
one-more-held d (Proc pid) place r few = omega (arith, parcels-put d.places.processes pid place r, few)
one-more-held d (Msg id) place r few = omega arith
one-more-held d (Sem id) place r few = omega arith

-- ---- the names of a parcel arrive

-- what was held for a process that arrives isn't held any more
arrival : (d : Directory) (pid node : ℕ) → PlacesRise d
    → parcels_held (with_place d (Proc pid) (At node)) + parcels_among (held_for d (Proc pid)) ≡ parcels_held d
arrival d pid node r = omega (arith, parcels-put d.places.processes pid (At node) r)

-- all processes of the map have numbers above this one
abbrev Above : {V : Type 0} → ℕ → Numbered V → Type 0
Above {V} n m = AllByRecursion (λ (e : ℕ × V). n < e.0) m

-- the names of the deeds of processes with these bodies
abbrev pub names_of : Numbered Body → List Name
names_of bodies = map (λ (deed : PackedDeed). deed.name) (pack_all Proc bodies)

proc-differs : (pid other : ℕ) → other < pid → Proc pid ≢ Proc other
proc-differs pid other l e = omega (arith, ap number_of e, l)

-- what is held for the later ones is as it was
held-later : (d : Directory) (pid node : ℕ) (bodies : Numbered Body) → Above pid bodies
    → held_for_all (with_place d (Proc pid) (At node)) (names_of bodies) ≡ held_for_all d (names_of bodies)
held-later d pid node [] above = refl
held-later d pid node (e ∷ bodies) above =
    ap (λ items. items ++ held_for_all (with_place d (Proc pid) (At node)) (names_of bodies))
    (ap items_of (place-with-other d (Proc pid) (At node) (Proc e.0) (proc-differs e.0 pid above.0)))
    ∙ ap (λ items. held_for d (Proc e.0) ++ items) (held-later d pid node bodies above.1)

-- What was held for the names of a parcel is released, and isn't held any more.
pub all-arrive : (bodies : Numbered Body) (d : Directory) (node : ℕ) → IsRising bodies → PlacesRise d
    → parcels_held (arrive_all d (names_of bodies) node) + parcels_among (held_for_all d (names_of bodies))
    ≡ parcels_held d
all-arrive [] d node rises r = omega arith
all-arrive (e ∷ bodies) d node rises r =
    let first : Directory = with_place d (Proc e.0) (At node)
    in let later = all-arrive bodies first node (rising-rest e bodies rises) (with-place-rises d (Proc e.0) (At node) r)
    in omega (
      arith,
      arrival d e.0 node r,
      later,
      ap parcels_among (held-later d e.0 node bodies (above-first e bodies rises)),
      among-both (held_for d (Proc e.0)) (held_for_all d (names_of bodies)),
    )
