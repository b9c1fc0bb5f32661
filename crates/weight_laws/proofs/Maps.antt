-- Sums over a map, and how many entries it has: how they change where a value is put.
use Rattle.std.proofs.Common.{◌≡◌, ◌≢◌, ℕ, ◌+◌, ◌≤◌, Bool, not, nat_eq, [], ◌∷◌, length, Some, ap, sym, ◌∙◌, inl, inr, arith}
use Rattle.std.specs.Prelude.{sum_by}
use Rattle.std.proofs.lemmas.Bool.{cases_order, cases_eq, eq-eqb, ne_eqb}
use Rattle.std.proofs.lemmas.List.Sums.{sum_by-cons}
use Rattle.number_maps.specs.Maps.{Numbered, get, put, without}
use Rattle.number_maps.specs.Rising.{IsRising}
use Rattle.number_maps.proofs.LookUps.{get-first, get-later, put-less, put-equal, put-greater, filter-kept, filter-dropped}
use Rattle.number_maps.proofs.Rising.{above-first, above-lower, get-above, rising-rest}
use Rattle.kernel_laws.proofs.Plain.{from_some, not_some}

module _ {V : Type 0} (g : V → ℕ) where
  abbrev values : Numbered V → ℕ
  values m = sum_by (λ e. g e.1) m

  one-more : (e : ℕ × V) (m : Numbered V) → values (e ∷ m) ≡ g e.1 + values m
  one-more e m = sum_by-cons (λ (f : ℕ × V). g f.1) e m

  -- at most the new value comes
  pub put-adds : (m : Numbered V) (k : ℕ) (v : V) → values (put m k v) ≤ values m + g v
  put-adds [] k v = let one = one-more (k, v) [] in omega (arith, one)
  put-adds (e ∷ m) k v =
      let old = one-more e m
      in elim (cases_order k e.0) [
        | inl same ↦
            let now = ap values (put-equal e m k v same)
            in let one = one-more (e.0, v) m
            in omega (arith, old, now, one)
        | inr c ↦
            elim c [
              | inl l ↦
                  let now = ap values (put-less e m k v l)
                  in let one = one-more (k, v) (e ∷ m)
                  in omega (arith, old, now, one)
              | inr l ↦
                  let now = ap values (put-greater e m k v l)
                  in let one = one-more e (put m k v)
                  in let rest = put-adds m k v
                  in omega (arith, old, now, one, rest)
            ]
      ]

  -- and the old one goes
  pub put-replaces : (m : Numbered V) (k : ℕ) (v was : V) → IsRising m → get m k ≡ Some was
      → values (put m k v) + g was ≤ values m + g v
  put-replaces [] k v was rises there = not_some was there
  put-replaces (e ∷ m) k v was rises there =
      let old = one-more e m
      in elim (cases_order k e.0) [
        | inl same ↦
            let now = ap values (put-equal e m k v same)
            in let one = one-more (e.0, v) m
            in let first : g e.1 ≡ g was = ap g (from_some e.1 was (sym (get-first e m k same) ∙ there))
            in omega (arith, old, now, one, first)
        | inr c ↦
            elim c [
              | inl l ↦
                  let ne : k ≢ e.0 = omega arith
                  in not_some was (sym (get-later e m k ne
                  ∙ get-above k m (above-lower k e.0 m l (above-first e m rises))) ∙ there)
              | inr l ↦
                  let ne : k ≢ e.0 = omega arith
                  in let now = ap values (put-greater e m k v l)
                  in let one = one-more e (put m k v)
                  in let rest = put-replaces m k v was (rising-rest e m rises) (sym (get-later e m k ne) ∙ there)
                  in omega (arith, old, now, one, rest)
            ]
      ]

-- ---- how many

module _ {V : Type 0} where
  -- at most one more
  pub length-put : (m : Numbered V) (k : ℕ) (v : V) → length (put m k v) ≤ length m + 1
  length-put [] k v = omega arith
  length-put (e ∷ m) k v =
      elim (cases_order k e.0) [
        | inl same ↦ let now = ap length (put-equal e m k v same) in omega (arith, now)
        | inr c ↦
            elim c [
              | inl l ↦ let now = ap length (put-less e m k v l) in omega (arith, now)
              | inr l ↦
                  let now = ap length (put-greater e m k v l)
                  in let rest = length-put m k v
                  in omega (arith, now, rest)
            ]
      ]

  -- and no more where there is one
  pub length-put-there : (m : Numbered V) (k : ℕ) (v was : V) → IsRising m → get m k ≡ Some was
      → length (put m k v) ≤ length m
  length-put-there [] k v was rises there = not_some was there
  length-put-there (e ∷ m) k v was rises there =
      elim (cases_order k e.0) [
        | inl same ↦ let now = ap length (put-equal e m k v same) in omega (arith, now)
        | inr c ↦
            elim c [
              | inl l ↦
                  let ne : k ≢ e.0 = omega arith
                  in not_some was (sym (get-later e m k ne
                  ∙ get-above k m (above-lower k e.0 m l (above-first e m rises))) ∙ there)
              | inr l ↦
                  let ne : k ≢ e.0 = omega arith
                  in let now = ap length (put-greater e m k v l)
                  in let rest = length-put-there m k v was (rising-rest e m rises) (sym (get-later e m k ne) ∙ there)
                  in omega (arith, now, rest)
            ]
      ]

  keeps : ℕ → ℕ × V → Bool
  keeps k e = not (nat_eq k e.0)

  dropped : (e : ℕ × V) (m : Numbered V) (k : ℕ) → k ≡ e.0 → without (e ∷ m) k ≡ without m k
  dropped e m k same = filter-dropped (λ (f : ℕ × V). not (nat_eq k f.0)) e m (ap not (eq-eqb k e.0 same))

  kept : (e : ℕ × V) (m : Numbered V) (k : ℕ) → k ≢ e.0 → without (e ∷ m) k ≡ e ∷ without m k
  kept e m k other = filter-kept (λ (f : ℕ × V). not (nat_eq k f.0)) e m (ap not (ne_eqb k e.0 other))

  pub length-without-le : (m : Numbered V) (k : ℕ) → length (without m k) ≤ length m
  length-without-le [] k = omega arith
  length-without-le (e ∷ m) k =
      let rest = length-without-le m k
      in elim (cases_eq k e.0) [
        | inl same ↦ let now = ap length (dropped e m k same) in omega (arith, now, rest)
        | inr other ↦ let now = ap length (kept e m k other) in omega (arith, now, rest)
      ]

  -- one fewer at least where there was one
  pub length-without : (m : Numbered V) (k : ℕ) (was : V) → get m k ≡ Some was → length (without m k) + 1 ≤ length m
  length-without [] k was there = not_some was there
  length-without (e ∷ m) k was there =
      elim (cases_eq k e.0) [
        | inl same ↦
            let now = ap length (dropped e m k same)
            in let rest = length-without-le m k
            in omega (arith, now, rest)
        | inr other ↦
            let now = ap length (kept e m k other)
            in let rest = length-without m k was (sym (get-later e m k other) ∙ there)
            in omega (arith, now, rest)
      ]
