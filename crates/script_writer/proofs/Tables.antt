-- Tests on the numbers of workers, from 1 to 31, each computed.
use Rattle.std.proofs.Common.{◌≡◌, inl, inr, ℕ, zero, suc, ◌≤◌, Bool, true, [], ◌∷◌, ◌++◌, ◌+◌, length, refl, sym, subst, ◌∙◌, arith}
use Rattle.std.specs.List.{list_all}
use Rattle.std.proofs.lemmas.Bool.{and_parts, cases_lt}
use Rattle.std.proofs.lemmas.List.{length-append}
use Rattle.std.proofs.lemmas.List.Folds.{list_all-append}
use Rattle.script_writer.specs.Generated.{upto}

-- a test that all numbers from 1 to n pass is passed by each of them
pub all_pass : (test : ℕ → Bool) (n k : ℕ) → list_all test (upto n) ≡ true → 1 ≤ k → k ≤ n → test k ≡ true
all_pass test zero k h low high = absurd (omega (arith, low, high))
all_pass test (suc n) k h low high =
    let p = and_parts (list_all test (upto n)) (list_all test (suc n ∷ []))
    (sym (list_all-append test (upto n) (suc n ∷ [])) ∙ h) in
    elim (cases_lt k (suc n)) [
      | inl lt ↦ all_pass test n k p.0 low (omega (arith, lt))
      | inr ge ↦
          let same : suc n ≡ k = omega (arith, ge, high) in
          subst (λ x. test x ≡ true) same (and_parts (test (suc n)) true p.1).0
    ]

-- there are n numbers from 1 to n
pub length-upto : (n : ℕ) → length (upto n) ≡ n
length-upto zero = refl
length-upto (suc n) =
    let tail : length (upto n ++ suc n ∷ []) ≡ length (upto n) + 1 = length-append (upto n) (suc n ∷ []) in
    let head : length (upto n) ≡ n = length-upto n in
    omega (arith, tail, head)
