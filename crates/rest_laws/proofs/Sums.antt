-- Sums in which one place counts, or none does: over a list, over a square of streams, and over a table by rising
-- number.
use Rattle.std.proofs.Common.{◌≡◌, ◌≢◌, ℕ, zero, suc, ◌<◌, List, [], ◌∷◌, length, get_or, slice_get, Some, refl, ap, sym, subst, ◌∙◌, inl, inr, arith}
use Rattle.std.specs.Prelude.{sum_by}
use Rattle.std.proofs.lemmas.Bool.{cases_eq}
use Rattle.std.proofs.lemmas.List.Sums.{sum_by-cons}
use Rattle.kernel_laws.proofs.Plain.{from_some, not_some}
use Rattle.number_maps.specs.Maps.{Numbered, get}
use Rattle.number_maps.specs.Rising.{IsRising}
use Rattle.number_maps.proofs.LookUps.{get-first, get-later}
use Rattle.number_maps.proofs.Rising.{above-first, rising-rest, get-above}

-- ---- over a list

-- nothing counts
pub sum-none : {A : Type 0} (f : A → ℕ) (xs : List A) → ((i : ℕ) (x : A) → slice_get xs i ≡ Some x → f x ≡ 0)
    → sum_by f xs ≡ 0
sum-none f [] none = refl
sum-none f (x ∷ xs) none =
    let first = none 0 x refl
    in let rest = sum-none f xs (λ i y there. none (suc i) y there)
    in let both = sum_by-cons f x xs
    in omega (arith, first, rest, both)

-- one place counts, and how much
pub sum-one : {A : Type 0} (f : A → ℕ) (xs : List A) (j n : ℕ) → j < length xs
    → ((i : ℕ) (x : A) → slice_get xs i ≡ Some x → i ≢ j → f x ≡ 0)
    → ((x : A) → slice_get xs j ≡ Some x → f x ≡ n) → sum_by f xs ≡ n
sum-one f [] j n within others here = absurd (omega (arith, within))
sum-one f (x ∷ xs) zero n within others here =
    let first = here x refl
    in let rest = sum-none f xs (λ i y there. others (suc i) y there (λ e. omega (arith, e)))
    in let both = sum_by-cons f x xs
    in omega (arith, first, rest, both)
sum-one f (x ∷ xs) (suc j) n within others here =
    let first = others 0 x refl (λ e. omega (arith, e))
    in let rest = sum-one f xs j n (omega (arith, within))
    (λ i y there d. others (suc i) y there (λ e. d (omega (arith, e)))) here
    in let both = sum_by-cons f x xs
    in omega (arith, first, rest, both)

-- ---- over a square

get-or-is : {A : Type 0} (xs : List A) (i : ℕ) (x d : A) → slice_get xs i ≡ Some x → get_or xs i d ≡ x
get-or-is [] i x d there = not_some x there
get-or-is (y ∷ xs) zero x d there = from_some y x there
get-or-is (y ∷ xs) (suc i) x d there = get-or-is xs i x d there

module _ {A : Type 0} (f : List A → ℕ) (square : List (List (List A))) where
  abbrev at_place : ℕ → ℕ → List A
  at_place i j = get_or (get_or square i []) j []

  in-place : (i j : ℕ) (row : List (List A)) (xs : List A) → slice_get square i ≡ Some row
      → slice_get row j ≡ Some xs → at_place i j ≡ xs
  in-place i j row xs there here =
      ap (λ r. get_or r j []) (get-or-is square i row [] there) ∙ get-or-is row j xs [] here

  abbrev all_of : ℕ
  all_of = sum_by (λ row. sum_by f row) square

  -- no place counts
  pub square-none : ((i j : ℕ) → f (at_place i j) ≡ 0) → all_of ≡ 0
  square-none none =
      sum-none (λ row. sum_by f row) square
      (λ i row there. sum-none f row
      (λ j xs here. ap f (sym (in-place i j row xs there here)) ∙ none i j))

  -- one place counts
  pub square-one : (a b n : ℕ) → a < length square → b < length (get_or square a [])
      → ((i j : ℕ) → (i ≡ a → j ≢ b) → f (at_place i j) ≡ 0) → f (at_place a b) ≡ n → all_of ≡ n
  square-one a b n low right others here =
      sum-one (λ row. sum_by f row) square a n low
      (λ i row there d. sum-none f row
      (λ j xs at. ap f (sym (in-place i j row xs there at)) ∙ others i j (λ e. absurd (d e))))
      (λ row there. sum-one f row b n (subst (λ r. b < length r) (get-or-is square a row [] there) right)
      (λ j xs at d. ap f (sym (in-place a j row xs there at)) ∙ others a j (λ e. d))
      (λ xs at. ap f (sym (in-place a b row xs there at)) ∙ here))

-- ---- over a table by rising number

-- what a table has behind its first entry it has at another number
behind-first : {V : Type 0} (e : ℕ × V) (m : Numbered V) → IsRising (e ∷ m) → (n : ℕ) (v : V) → get m n ≡ Some v
    → (n ≢ e.0) × (get (e ∷ m) n ≡ Some v)
behind-first e m rises n v there =
    let apart : n ≢ e.0 =
    λ same. not_some v (sym (get-above e.0 m (above-first e m rises)) ∙ ap (get m) (sym same) ∙ there)
    in (apart, get-later e m n apart ∙ there)

-- nothing counts
pub rising-none : {V : Type 0} (f : ℕ × V → ℕ) (m : Numbered V) → IsRising m
    → ((n : ℕ) (v : V) → get m n ≡ Some v → f (n, v) ≡ 0) → sum_by f m ≡ 0
rising-none f [] rises none = refl
rising-none f (e ∷ m) rises none =
    let first = none e.0 e.1 (get-first e m e.0 refl)
    in let rest = rising-none f m (rising-rest e m rises)
    (λ n v there. none n v (behind-first e m rises n v there).1)
    in let both = sum_by-cons f e m
    in omega (arith, first, rest, both)

-- what stands at one number counts
pub rising-one : {V : Type 0} (f : ℕ × V → ℕ) (m : Numbered V) (k : ℕ) (u : V) (count : ℕ) → IsRising m
    → get m k ≡ Some u → f (k, u) ≡ count
    → ((n : ℕ) (v : V) → get m n ≡ Some v → n ≢ k → f (n, v) ≡ 0) → sum_by f m ≡ count
rising-one f [] k u count rises there here others = not_some u there
rising-one f (e ∷ m) k u count rises there here others =
    elim (cases_eq k e.0) [
      | inl same ↦
          let value : e.1 ≡ u = from_some e.1 u (sym (get-first e m k same) ∙ there)
          in let pair : f e ≡ count = ap f (λ i. (sym same i, value i)) ∙ here
          in let rest = rising-none f m (rising-rest e m rises)
          (λ n v at. let behind = behind-first e m rises n v at in others n v behind.1
          (λ e. behind.0 (e ∙ same)))
          in let both = sum_by-cons f e m
          in omega (arith, pair, rest, both)
      | inr other ↦
          let first = others e.0 e.1 (get-first e m e.0 refl) (λ e. other (sym e))
          in let rest = rising-one f m k u count (rising-rest e m rises) (sym (get-later e m k other) ∙ there) here
          (λ n v at d. others n v (behind-first e m rises n v at).1 d)
          in let both = sum_by-cons f e m
          in omega (arith, first, rest, both)
    ]
