-- The number of looks after so many more: it goes up to its type's last value, and stays there.
use Rattle.std.proofs.Common.{◌≡◌, inl, inr, ℕ, zero, suc, ◌+◌, ◌-◌, ◌^◌, ◌≤◌, min, sym, ap, ◌∙◌, add-one, arith}
use Rattle.std.proofs.Math.Nat.{min-eq_left, min-eq_right}
use Rattle.std.proofs.lemmas.Bool.{cases_lt}
use Rattle.stream_pair.specs.Ends.{one_more_look, after_looks}

-- one more behind the smaller of a number and the last one
min-next : (n last : ℕ) → min (min n last + 1) last ≡ min (suc n) last
min-next n last =
    elim (cases_lt n last) [
      | inl below ↦
          let inside : n ≤ last = omega arith in
          ap (λ k. min (k + 1) last) (min-eq_left inside) ∙ ap (λ k. min k last) (add-one n)
      | inr above ↦
          let beyond : last ≤ suc n = omega arith in
          let least : last ≤ min n last + 1 = omega (arith, min-eq_right above) in
          min-eq_right least ∙ sym (min-eq_right beyond)
    ]

-- so many more, up to the last one
pub after_looks-is : (more looks : ℕ) → looks ≤ 2 ^ 64 - 1 → min (looks + more) (2 ^ 64 - 1) ≡ after_looks more looks
after_looks-is zero looks below = ap (λ k. min k (2 ^ 64 - 1)) (omega arith) ∙ min-eq_left below
after_looks-is (suc more) looks below =
    let next : looks + suc more ≡ suc (looks + more) = omega arith in
    ap (λ k. min k (2 ^ 64 - 1)) next ∙ sym (min-next (looks + more) (2 ^ 64 - 1))
    ∙ ap one_more_look (after_looks-is more looks below)
