-- The numbers from one on, and what is made of each.
use Rattle.std.proofs.Common.{◌≡◌, List, [], ap, arith, length, map, nat_eq, refl, true, ℕ, ◌+◌, ◌<◌, ◌||◌, ◌∷◌, ◌≤◌, suc, zero, inl, inr}
use Rattle.std.proofs.lemmas.Bool.{cases_eq, eq-eqb, eqb-true, false≢true, or_cases, or_right}
use Rattle.std.specs.List.{list_any}
use Rattle.world_model.specs.World.{numbers}

-- what one makes of a number is among what is made of all
pub is-among : (f : ℕ → ℕ) (d : ℕ) (ns : List ℕ) → list_any (nat_eq d) ns ≡ true
    → list_any (nat_eq (f d)) (map f ns) ≡ true
is-among f d [] h = absurd (false≢true h)
is-among f d (n ∷ ns) h =
    elim (or_cases (nat_eq d n) (list_any (nat_eq d) ns) h) [
      | inl here ↦
          ap (λ t. t || list_any (nat_eq (f d)) (map f ns)) (eq-eqb (f d) (f n) (ap f (eqb-true d n here)))
      | inr later ↦
          or_right (nat_eq (f d) (f n)) (list_any (nat_eq (f d)) (map f ns)) (is-among f d ns later)
    ]

-- the numbers from one on have each of these
pub in-numbers : (n k d : ℕ) → k ≤ d → d < k + n → list_any (nat_eq d) (numbers k n) ≡ true
in-numbers zero k d low high = absurd (omega (arith, low, high))
in-numbers (suc n) k d low high =
    elim (cases_eq d k) [
      | inl same ↦ ap (λ t. t || list_any (nat_eq d) (numbers (k + 1) n)) (eq-eqb d k same)
      | inr other ↦
          or_right (nat_eq d k) (list_any (nat_eq d) (numbers (k + 1) n))
          (in-numbers n (k + 1) d (omega (arith, low, other)) (omega (arith, high)))
    ]

-- and they are so many
pub length-of-numbers : (f : ℕ → ℕ) (n k : ℕ) → length (map f (numbers k n)) ≡ n
length-of-numbers f zero k = refl
length-of-numbers f (suc n) k = ap suc (length-of-numbers f n (k + 1))
