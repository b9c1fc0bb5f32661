-- What parts of a node mean for the places, and that names which came late are known to have come late.
use Rattle.std.proofs.Common.{◌≡◌, ◌≢◌, ℕ, true, false, cond, [], ◌∷◌, Option, Some, None, is_none, is_some, refl, sym, ap, ◌∙◌, IsTrue, inl, inr}
use Rattle.std.proofs.lemmas.Bool.{cases_eq, eq-eqb, ne_eqb, false≢true}
use Rattle.std.specs.Ordering.{nat_cmp, match_ordering}
use Rattle.std.specs.declared.cmp.Ordering.{Ordering}
use Rattle.std.specs.declared.cmp.Ordering.TheVariants.{Less, Equal, Greater}
use Rattle.pico_base.specs.declared.numbers.Name.{Name}
use Rattle.pico_base.specs.declared.numbers.Name.TheVariants.{Proc, Msg, Sem}
use Rattle.number_maps.specs.Maps.{Numbered, get, put}
use Rattle.number_maps.proofs.LookUps.{get-put-same, get-put-other}
use Rattle.node_model.specs.Kinds.{Named, put_named}
use Rattle.node_model.specs.Directory.{Parting, IsLeaving, HasLeft, Place, At, Coming, all_places_without, is_leaving_as, place_without, places_without}
use Rattle.lease_leader.specs.Places.{AllAreLate, AreLate, IsLate, all_places_by, place_by, places_by, spot_at, with_item}
use Rattle.lease_leader.specs.declared.spot.Spot.{Spot}
use Rattle.lease_leader.specs.declared.spot.Spot.TheVariants as spots
use Rattle.node_model.specs.declared.held.Held.{Held}

-- ---- a node leaves

module _ (partings : Numbered Parting) (node : ℕ) (stays : get partings node ≡ None) where
  without-other : (m : ℕ) (o : Option Parting) → get partings m ≡ o → m ≢ node
      → cond (is_none o) (At m) (Coming None []) ≡ place_without node (cond (is_none o) (At m) (Coming None []))
  without-other m None h ne = rw (ne_eqb m node ne) refl
  without-other m (Some p) h ne = refl

  regardless : (m : ℕ) → IsTrue (is_some (get partings m)) → m ≢ node
  regardless m late same = false≢true (ap is_some (sym stays) ∙ ap (λ k. is_some (get partings k)) (sym same) ∙ late)

  place_by-leaving : (spot : Spot) → IsLate partings spot
      → place_by (put partings node IsLeaving) spot ≡ place_without node (place_by partings spot)
  place_by-leaving (spots.WhileItStays m) late =
      elim (cases_eq m node) [
        | inl same ↦
            let gone : get (put partings node IsLeaving) m ≡ Some IsLeaving =
            ap (get (put partings node IsLeaving)) same ∙ get-put-same partings node IsLeaving in
            let was : get partings m ≡ None = ap (get partings) same ∙ stays in
            rw (gone, was, eq-eqb m node same) refl
        | inr ne ↦
            rw (get-put-other partings node IsLeaving m ne) (without-other m (get partings m) refl ne)
      ]
  place_by-leaving (spots.Regardless m) late = rw (ne_eqb m node (regardless m late)) refl
  place_by-leaving (spots.Coming to held) late = refl

  places_by-leaving : (kept : Numbered Spot) → AreLate partings kept
      → places_by (put partings node IsLeaving) kept ≡ places_without node (places_by partings kept)
  places_by-leaving [] late = refl
  places_by-leaving (e ∷ kept) late =
      ap (λ (place : Place). (e.0, place) ∷ places_by (put partings node IsLeaving) kept)
      (place_by-leaving e.1 late.0)
      ∙ ap (λ (rest : Numbered Place). (e.0, place_without node (place_by partings e.1)) ∷ rest)
      (places_by-leaving kept late.1)

  -- what was with a node that leaves is on its way
  pub all_places_by-leaving : (kept : Named Spot) → AllAreLate partings kept
      → all_places_by (put partings node IsLeaving) kept ≡ all_places_without node (all_places_by partings kept)
  all_places_by-leaving kept late =
      let all : Numbered Place → Numbered Place → Numbered Place → Named Place =
      λ xs ys zs. record { processes = xs; queues = ys; sets = zs } in
      let left = places_by (put partings node IsLeaving) in
      let right = λ (ks : Numbered Spot). places_without node (places_by partings ks) in
      ap (λ xs. all xs (left kept.queues) (left kept.sets)) (places_by-leaving kept.processes late.processes)
      ∙ ap (λ ys. all (right kept.processes) ys (left kept.sets)) (places_by-leaving kept.queues late.queues)
      ∙ ap (λ zs. all (right kept.processes) (right kept.queues) zs) (places_by-leaving kept.sets late.sets)

-- ---- a node has left

module _ (partings : Numbered Parting) (node : ℕ) (leaves : is_leaving_as (get partings node) ≡ true) where
  parts : (o : Option Parting) → is_leaving_as o ≡ true → is_none o ≡ false
  parts None h = absurd (false≢true h)
  parts (Some p) h = refl

  none-left : (m : ℕ) → is_none (get (put partings node HasLeft) m) ≡ is_none (get partings m)
  none-left m =
      elim (cases_eq m node) [
        | inl same ↦
            ap (λ k. is_none (get (put partings node HasLeft) k)) same
            ∙ ap is_none (get-put-same partings node HasLeft)
            ∙ sym (parts (get partings node) leaves)
            ∙ ap (λ k. is_none (get partings k)) (sym same)
        | inr ne ↦ ap is_none (get-put-other partings node HasLeft m ne)
      ]

  place_by-left : (spot : Spot) → place_by (put partings node HasLeft) spot ≡ place_by partings spot
  place_by-left (spots.WhileItStays m) = ap (λ b. cond b (At m) (Coming None [])) (none-left m)
  place_by-left (spots.Regardless m) = refl
  place_by-left (spots.Coming to held) = refl

  places_by-left : (kept : Numbered Spot) → places_by (put partings node HasLeft) kept ≡ places_by partings kept
  places_by-left [] = refl
  places_by-left (e ∷ kept) =
      ap (λ (place : Place). (e.0, place) ∷ places_by (put partings node HasLeft) kept) (place_by-left e.1)
      ∙ ap (λ (rest : Numbered Place). (e.0, place_by partings e.1) ∷ rest) (places_by-left kept)

  -- places are unchanged where a node that leaves has left
  pub all_places_by-left : (kept : Named Spot)
      → all_places_by (put partings node HasLeft) kept ≡ all_places_by partings kept
  all_places_by-left kept =
      let all : Numbered Place → Numbered Place → Numbered Place → Named Place =
      λ xs ys zs. record { processes = xs; queues = ys; sets = zs } in
      let left = places_by (put partings node HasLeft) in
      let right = places_by partings in
      ap (λ xs. all xs (left kept.queues) (left kept.sets)) (places_by-left kept.processes)
      ∙ ap (λ ys. all (right kept.processes) ys (left kept.sets)) (places_by-left kept.queues)
      ∙ ap (λ zs. all (right kept.processes) (right kept.queues) zs) (places_by-left kept.sets)

-- ---- what came late

module _ (partings : Numbered Parting) (node : ℕ) (parting : Parting) where
  some-put : (m : ℕ) → IsTrue (is_some (get partings m)) → IsTrue (is_some (get (put partings node parting) m))
  some-put m h =
      elim (cases_eq m node) [
        | inl same ↦
            ap (λ k. is_some (get (put partings node parting) k)) same ∙ ap is_some (get-put-same partings node parting)
        | inr ne ↦ ap is_some (get-put-other partings node parting m ne) ∙ h
      ]

  IsLate-put : (spot : Spot) → IsLate partings spot → IsLate (put partings node parting) spot
  IsLate-put (spots.WhileItStays m) late = tt
  IsLate-put (spots.Regardless m) late = some-put m late
  IsLate-put (spots.Coming to held) late = tt

  AreLate-put : (kept : Numbered Spot) → AreLate partings kept → AreLate (put partings node parting) kept
  AreLate-put [] late = tt
  AreLate-put (e ∷ kept) late = (IsLate-put e.1 late.0, AreLate-put kept late.1)

  -- a further node that parts leaves the late ones late
  pub AllAreLate-put : (kept : Named Spot) → AllAreLate partings kept → AllAreLate (put partings node parting) kept
  AllAreLate-put kept late =
      record {
        processes = AreLate-put kept.processes late.processes;
        queues = AreLate-put kept.queues late.queues;
        sets = AreLate-put kept.sets late.sets;
      }

module _ (partings : Numbered Parting) where
  AreLate-order : (o : Ordering) (k : ℕ) (spot : Spot) (e : ℕ × Spot) (kept rest : Numbered Spot)
      → AreLate partings (e ∷ kept) → IsLate partings spot → AreLate partings rest
      → AreLate partings (match_ordering o ((k, spot) ∷ e ∷ kept) ((e.0, spot) ∷ kept) (e ∷ rest))
  AreLate-order Less k spot e kept rest late one later = (one, late)
  AreLate-order Equal k spot e kept rest late one later = (one, late.1)
  AreLate-order Greater k spot e kept rest late one later = (late.0, later)

  AreLate-with : (kept : Numbered Spot) (k : ℕ) (spot : Spot) → AreLate partings kept → IsLate partings spot
      → AreLate partings (put kept k spot)
  AreLate-with [] k spot late one = (one, tt)
  AreLate-with (e ∷ kept) k spot late one =
      AreLate-order (nat_cmp k e.0) k spot e kept (put kept k spot) late one (AreLate-with kept k spot late.1 one)

  -- another spot for a name
  pub AllAreLate-with : (kept : Named Spot) (name : Name) (spot : Spot) → AllAreLate partings kept
      → IsLate partings spot → AllAreLate partings (put_named kept name spot)
  AllAreLate-with kept (Proc pid) spot late one =
      record {
        processes = AreLate-with kept.processes pid spot late.processes one;
        queues = late.queues;
        sets = late.sets;
      }
  AllAreLate-with kept (Msg id) spot late one =
      record {
        processes = late.processes;
        queues = AreLate-with kept.queues id spot late.queues one;
        sets = late.sets;
      }
  AllAreLate-with kept (Sem id) spot late one =
      record {
        processes = late.processes;
        queues = late.queues;
        sets = AreLate-with kept.sets id spot late.sets one;
      }

  late-by : (node : ℕ) (o : Option Parting) → get partings node ≡ o → IsLate partings (spot_at node (is_none o))
  late-by node None h = tt
  late-by node (Some p) h = ap is_some h

  pub IsLate-spot_at : (node : ℕ) → IsLate partings (spot_at node (is_none (get partings node)))
  IsLate-spot_at node = late-by node (get partings node) refl

  pub IsLate-with_item : (spot : Spot) (item : Held) → IsLate partings (with_item spot item)
  IsLate-with_item (spots.WhileItStays m) item = tt
  IsLate-with_item (spots.Regardless m) item = tt
  IsLate-with_item (spots.Coming to held) item = tt
