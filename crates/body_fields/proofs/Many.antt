-- Values one behind another, read one after the other: the laws of such a reading, and what a loop keeps that does it.
use Rattle.std.proofs.Common.{◌≡◌, ℕ, zero, suc, ◌-◌, ◌+◌, ◌≤◌, ◌<◌, List, [], ◌∷◌, ◌++◌, length, Option, Some, None, refl, sym, ap, subst, ◌∙◌, append_assoc, arith}
use Rattle.std.proofs.lemmas.List.{append-nil}
use Rattle.std.specs.List.{flat_map, AllByRecursion}
use Rattle.pico_base.specs.Options.{◌>>=◌}
use Rattle.body_fields.specs.Fields.{many_at, whole}
use Rattle.body_fields.proofs.Fields.{IsBytes, bind_some, some_is, Takes, Takes-all, Takes-then, whole_is}

-- what was read before, and what is still read
abbrev pub with_front : {A : Type 0} → List A → Option (List A × List ℕ) → Option (List A × List ℕ)
with_front front read = read >>= λ x. Some (front ++ x.0, x.1)

-- what is read next goes behind what was read before
pub regroup : {A : Type 0} (front : List A) (n : A) (read : Option (List A × List ℕ))
    → with_front front (read >>= λ x. Some (n ∷ x.0, x.1)) ≡ with_front (front ++ n ∷ []) read
regroup {A} front n (Some x) = ap (λ (ns : List A). Some (ns, x.1)) (simp append_assoc)
regroup front n None = refl

-- nothing was read before
pub nothing_before : {A : Type 0} (read : Option (List A × List ℕ)) → with_front [] read ≡ read
nothing_before (Some x) = refl
nothing_before None = refl

-- ---- what a loop keeps

module _ {A : Type 0} (one : List ℕ → Option (A × List ℕ)) where
  pub begins : (count : ℕ) (bytes : List ℕ) → with_front [] (many_at one (count - 0) bytes) ≡ many_at one count bytes
  begins count bytes =
      let k : count - 0 ≡ count = omega arith in
      rw k (nothing_before (many_at one count bytes))

  pub goes_on : (front : List A) (count i : ℕ) (bytes : List ℕ) (n : A) (after : List ℕ)
      (total : Option (List A × List ℕ)) → i < count → one bytes ≡ Some (n, after)
      → with_front front (many_at one (count - i) bytes) ≡ total
      → with_front (front ++ n ∷ []) (many_at one (count - (i + 1)) after) ≡ total
  goes_on front count i bytes n after total lt h so_far =
      let k : count - i ≡ suc (count - (i + 1)) = omega arith in
      let step : with_front front (many_at one (count - i) bytes)
      ≡ with_front (front ++ n ∷ []) (many_at one (count - (i + 1)) after) =
      rw (k, h) (regroup front n (many_at one (count - (i + 1)) after)) in
      sym step ∙ so_far

  pub ends : (front : List A) (count i : ℕ) (bytes : List ℕ) (total : Option (List A × List ℕ)) → i < count
      → one bytes ≡ None
      → with_front front (many_at one (count - i) bytes) ≡ total → total ≡ None
  ends front count i bytes total lt h so_far =
      let k : count - i ≡ suc (count - (i + 1)) = omega arith in
      let step : with_front front (many_at one (count - i) bytes) ≡ None =
      rw (k, h) refl in
      sym so_far ∙ step

  pub is_done : (front : List A) (count i : ℕ) (bytes : List ℕ) (total : Option (List A × List ℕ)) → count ≤ i
      → with_front front (many_at one (count - i) bytes) ≡ total → total ≡ Some (front, bytes)
  is_done front count i bytes total le so_far =
      let k : count - i ≡ 0 = omega arith in
      let step : with_front front (many_at one (count - i) bytes) ≡ Some (front, bytes) =
      rw k (ap (λ (ns : List A). Some (ns, bytes)) (append-nil front)) in
      sym so_far ∙ step

  -- ---- what is read is what was written, and what was written is read again

  pub many_takes : (text : A → List ℕ) (Small : A → Type 0)
      → ((bytes : List ℕ) (x : A × List ℕ) → IsBytes bytes → one bytes ≡ Some x → Takes bytes (text x.0) x.1
      × Small x.0)
      → (count : ℕ) (bytes : List ℕ) (xs : List A × List ℕ) → IsBytes bytes → many_at one count bytes ≡ Some xs
      → Takes bytes (flat_map text xs.0) xs.1 × (length xs.0 ≡ count) × AllByRecursion Small xs.0
  many_takes text Small one_takes zero bytes xs fits e =
      subst (λ (p : List A × List ℕ). Takes bytes (flat_map text p.0) p.1 × (length p.0 ≡ 0) × AllByRecursion Small p.0)
      (some_is ([], bytes) xs e)
      (record { parts = refl; rest_fits = fits }, refl, tt)
  many_takes text Small one_takes (suc count) bytes xs fits e =
      let first = bind_some (one bytes) _ xs e in
      let others = bind_some (many_at one count first.0.1) _ xs first.2 in
      let here = one_takes bytes first.0 fits first.1 in
      let more = many_takes text Small one_takes count first.0.1 others.0 here.0.rest_fits others.1 in
      subst (λ (p : List A × List ℕ). Takes bytes (flat_map text p.0) p.1 × (length p.0 ≡ suc count)
      × AllByRecursion Small p.0) (some_is (first.0.0 ∷ others.0.0, others.0.1) xs others.2) (
        Takes-then bytes (text first.0.0) first.0.1 (flat_map text others.0.0) others.0.1 here.0 more.0,
        ap suc more.1,
        (here.1, more.2),
      )

  pub many_again : (text : A → List ℕ) (Small : A → Type 0)
      → ((x : A) (rest : List ℕ) → Small x → one (text x ++ rest) ≡ Some (x, rest))
      → (xs : List A) (rest : List ℕ) → AllByRecursion Small xs
      → many_at one (length xs) (flat_map text xs ++ rest) ≡ Some (xs, rest)
  many_again text Small one_again [] rest small = refl
  many_again text Small one_again (x ∷ xs) rest small =
      ap (many_at one (suc (length xs))) (append_assoc (text x) (flat_map text xs) rest)
      ∙ rw (one_again x (flat_map text xs ++ rest) small.0, many_again text Small one_again xs rest small.1) refl

  -- ---- the same where nothing is behind them

  pub all_taken : (text : A → List ℕ) (Small : A → Type 0)
      → ((bytes : List ℕ) (x : A × List ℕ) → IsBytes bytes → one bytes ≡ Some x → Takes bytes (text x.0) x.1
      × Small x.0)
      → (count : ℕ) (bytes : List ℕ) (xs : List A) → IsBytes bytes → whole (many_at one count bytes) ≡ Some xs
      → (bytes ≡ flat_map text xs) × (length xs ≡ count) × AllByRecursion Small xs
  all_taken text Small one_takes count bytes xs fits e =
      let taken = many_takes text Small one_takes count bytes (xs, []) fits
      (whole_is (many_at one count bytes) xs e) in
      (Takes-all bytes (flat_map text xs) taken.0, taken.1, taken.2)

  pub all_again : (text : A → List ℕ) (Small : A → Type 0)
      → ((x : A) (rest : List ℕ) → Small x → one (text x ++ rest) ≡ Some (x, rest))
      → (xs : List A) → AllByRecursion Small xs → whole (many_at one (length xs) (flat_map text xs)) ≡ Some xs
  all_again text Small one_again xs small =
      ap (λ (bytes : List ℕ). whole (many_at one (length xs) bytes)) (sym (append-nil (flat_map text xs)))
      ∙ ap whole (many_again text Small one_again xs [] small)
