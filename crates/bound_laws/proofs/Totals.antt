-- Sums over lists by recursion, and the sum over different numbers of a range.
use Rattle.std.proofs.Common.{◌≡◌, ◌≢◌, ℕ, zero, suc, ◌+◌, ◌*◌, ◌≤◌, ◌<◌, Bool, true, false, cond, not, nat_eq, List, [], ◌∷◌, ◌++◌, map, filter, refl, ap, sym, subst, inl, inr, arith}
use Rattle.std.specs.Prelude.{sum_by, count_by}
use Rattle.std.specs.List.{AllByRecursion}
use Rattle.std.proofs.lemmas.Bool.{cases_eq, eq-eqb, ne_eqb}
use Rattle.std.proofs.lemmas.List.Recursion.{is_count_by, is_sum_by}

-- what all elements come to
abbrev pub total : {X : Type 0} → (X → ℕ) → List X → ℕ
total f [] = 0
total f (x ∷ xs) = f x + total f xs

-- it is std's sum
pub total-is-sum : {X : Type 0} (f : X → ℕ) (xs : List X) → total f xs ≡ sum_by f xs
total-is-sum f xs = is_sum_by (total f) f refl (λ x xs. refl) xs

-- over both of two lists
pub total-append : {X : Type 0} (f : X → ℕ) (xs ys : List X) → total f (xs ++ ys) ≡ total f xs + total f ys
total-append f [] ys = omega arith
total-append f (x ∷ xs) ys = let rest = total-append f xs ys in omega (arith, rest)

-- ---- how often a number stands in a list

-- 1 where it is so
abbrev pub one_if : Bool → ℕ
one_if b = cond b 1 0

-- how often a number is there
abbrev pub times : ℕ → List ℕ → ℕ
times k xs = total (λ x. one_if (nat_eq x k)) xs

add-if : (b : Bool) (m : ℕ) → one_if b + m ≡ cond b (1 + m) m
add-if true m = refl
add-if false m = omega arith

-- it is std's count
pub times-is-count : {X : Type 0} (f : X → ℕ) (k : ℕ) (xs : List X)
    → times k (map f xs) ≡ count_by (λ x. nat_eq (f x) k) xs
times-is-count f k xs =
    is_count_by (λ ys. times k (map f ys)) (λ x. nat_eq (f x) k) refl
    (λ x ys. add-if (nat_eq (f x) k) (times k (map f ys))) xs

abbrev others : ℕ → List ℕ → List ℕ
others k xs = filter (λ x. not (nat_eq x k)) xs

others-if : (b : Bool) (f : ℕ → ℕ) (x : ℕ) (xs : List ℕ)
    → total f (cond (not b) (x ∷ xs) xs) ≡ cond b 0 (f x) + total f xs
others-if true f x xs = omega arith
others-if false f x xs = refl

-- a sum is that over the other numbers, and this one as often as it is there
total-others : (f : ℕ → ℕ) (k : ℕ) (xs : List ℕ) → total f xs ≡ times k xs * f k + total f (others k xs)
total-others f k [] = omega arith
total-others f k (x ∷ xs) =
    let rest = total-others f k xs
    in let here = others-if (nat_eq x k) f x (others k xs)
    in elim (cases_eq x k) [
      | inl e ↦
          let yes : one_if (nat_eq x k) ≡ 1 = ap one_if (eq-eqb x k e)
          in let none : cond (nat_eq x k) 0 (f x) ≡ 0 = ap (λ b. cond b 0 (f x)) (eq-eqb x k e)
          in let same : f x ≡ f k = ap f e
          in let more : (1 + times k xs) * f k ≡ f k + times k xs * f k = omega arith
          in let all : (one_if (nat_eq x k) + times k xs) * f k ≡ (1 + times k xs) * f k =
          ap (λ n. (n + times k xs) * f k) yes
          in omega (arith, rest, here, none, same, more, all)
      | inr d ↦
          let no : one_if (nat_eq x k) + times k xs ≡ times k xs =
          (let zero-is : one_if (nat_eq x k) ≡ 0 = ap one_if (ne_eqb x k d) in omega (arith, zero-is))
          in let some : cond (nat_eq x k) 0 (f x) ≡ f x = ap (λ b. cond b 0 (f x)) (ne_eqb x k d)
          in let all : (one_if (nat_eq x k) + times k xs) * f k ≡ times k xs * f k = ap (λ n. n * f k) no
          in omega (arith, rest, here, some, all)
    ]

times-others : (c k : ℕ) (xs : List ℕ) → times c (others k xs) ≤ times c xs
times-others c k [] = omega arith
times-others c k (x ∷ xs) =
    let rest = times-others c k xs
    in let here = others-if (nat_eq x k) (λ y. one_if (nat_eq y c)) x (others k xs)
    in let less = by (nat_eq x k)
    in omega (arith, rest, here, less)
  where
    by : (b : Bool) → cond b 0 (one_if (nat_eq x c)) ≤ one_if (nat_eq x c)
    by true = omega arith
    by false = omega arith

all-others : (P Q : ℕ → Type 0) (k : ℕ) → ((x : ℕ) → x ≢ k → P x → Q x) → (xs : List ℕ) → AllByRecursion P xs
    → AllByRecursion Q (others k xs)
all-others P Q k h [] all = tt
all-others P Q k h (x ∷ xs) all =
    elim (cases_eq x k) [
      | inl e ↦
          subst (λ b. AllByRecursion Q (cond (not b) (x ∷ others k xs) (others k xs))) (sym (eq-eqb x k e))
          (all-others P Q k h xs all.1)
      | inr d ↦
          subst (λ b. AllByRecursion Q (cond (not b) (x ∷ others k xs) (others k xs))) (sym (ne_eqb x k d))
          (h x d all.0, all-others P Q k h xs all.1)
    ]

-- ---- the numbers of a range

-- the sum over so many numbers from one on
abbrev pub ranged : (ℕ → ℕ) → ℕ → ℕ → ℕ
ranged f k zero = 0
ranged f k (suc n) = f k + ranged f (k + 1) n

once-or-never : (n v : ℕ) → n ≤ 1 → n * v ≤ v
once-or-never zero v h = omega arith
once-or-never (suc zero) v h = omega arith
once-or-never (suc (suc n)) v h = absurd (omega (arith, h))

-- A sum over different numbers of a range is no more than that over the range.
pub total-ranged : (f : ℕ → ℕ) (n k : ℕ) (xs : List ℕ) → AllByRecursion (λ x. (k ≤ x) × (x < k + n)) xs
    → ((c : ℕ) → k ≤ c → c < k + n → times c xs ≤ 1) → total f xs ≤ ranged f k n
total-ranged f zero k [] all once = omega arith
total-ranged f zero k (x ∷ xs) all once =
    let low = all.0.0
    in let high = all.0.1
    in absurd (omega (arith, low, high))
total-ranged f (suc n) k xs all once =
    let parts = total-others f k xs
    in let few = once-or-never (times k xs) (f k) (once k (omega arith) (omega arith))
    in let rest =
    total-ranged f n (k + 1) (others k xs)
    (all-others (λ x. (k ≤ x) × (x < k + suc n)) (λ x. (k + 1 ≤ x) × (x < k + 1 + n)) k
    (λ x d h. let low = h.0 in let high = h.1 in (omega (arith, low, d), omega (arith, high))) xs all)
    (λ c low high.
    let less = times-others c k xs
    in let most = once c (omega (arith, low)) (omega (arith, high))
    in omega (arith, less, most))
    in omega (arith, parts, few, rest)
