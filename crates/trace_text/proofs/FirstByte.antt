-- What a search for a byte gives, as the first place where a list passes a test.
use Rattle.std.proofs.Common.{◌≡◌, ℕ, ◌<◌, Bool, true, false, not, List, length, get_or, Option, Some, None, refl, ap, arith}
use Rattle.std.specs.Prelude.{position}
use Rattle.std.specs.List.{position_or_len}
use Rattle.std.proofs.lemmas.Bool.{lt-ltb, le-ltb}
use Rattle.std.proofs.lemmas.List.Sums.{prefix_len_is}
use Rattle.memchr.specs.Find.{IsFirstByte, Passes}

not_passed : (p : ℕ → Bool) (xs : List ℕ) (k : ℕ) → ¬ Passes p xs k → not (p (get_or xs k 0)) ≡ true
not_passed p xs k h = failed (p (get_or xs k 0)) h
  where
    failed : (b : Bool) → ¬ (b ≡ true) → not b ≡ true
    failed true h = absurd (h refl)
    failed false h = refl

found : (p : ℕ → Bool) (xs : List ℕ) (i j : ℕ) → position_or_len p xs ≡ j → j ≡ i → i < length xs
    → Some i ≡ position p xs
found p xs i j is same inside = rw (is, same, lt-ltb i (length xs) inside) refl

missed : (p : ℕ → Bool) (xs : List ℕ) (j : ℕ) → position_or_len p xs ≡ j → j ≡ length xs → None ≡ position p xs
missed p xs j is same = rw (is, same, le-ltb (length xs) (length xs) (omega arith)) refl

-- what a search for the first byte that passes gives is the position
pub position_of_first : (p : ℕ → Bool) (xs : List ℕ) (r : Option ℕ) → IsFirstByte p xs r → r ≡ position p xs
position_of_first p xs None h =
    missed p xs (position_or_len p xs) refl
    (prefix_len_is (λ x. not (p x)) xs (length xs) 0 (omega arith) (λ k lt. not_passed p xs k (h k (omega arith) lt))
    (λ lt. absurd (omega (arith, lt))))
position_of_first p xs (Some i) h =
    found p xs i (position_or_len p xs) refl
    (prefix_len_is (λ x. not (p x)) xs i 0 (omega (arith, h.0.high))
    (λ k lt. not_passed p xs k (h.0.before k (omega arith) lt)) (λ lt. ap not h.1)) h.0.high
