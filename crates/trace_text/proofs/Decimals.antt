-- What is read of a number in front are its decimal digits.
use Rattle.std.proofs.Common.{◌≡◌, ℕ, zero, suc, ◌+◌, ◌-◌, ◌*◌, ◌/◌, ◌%◌, ◌^◌, ◌<◌, ◌≤◌, Bool, true, false, cond, leb, eqb, List, [], ◌∷◌, ◌++◌, Some, None, refl, sym, ap, ◌∙◌, append_assoc, arith}
use Rattle.std.specs.Fmt.{decimal}
use Rattle.std.proofs.lemmas.Bool.{leb-true, eqb-true, and_parts}
use Rattle.std.proofs.lemmas.Fmt.{decimal_digit, decimal_step}
use Rattle.std.proofs.lemmas.Option.{none-some, some_pair_parts}
use Rattle.text_fields.specs.Fields.{is_digit, digit_at, digits_front, number_at}

module _ (limit : ℕ) (wide : limit < 2 ^ 64) where
  -- digits that are read behind a value: with its digits in front they are those of what is read
  digits-were : (v : ℕ) (bytes : List ℕ) (n : ℕ) (rest : List ℕ) → 0 < v → v ≤ limit
      → digits_front limit v bytes ≡ Some (n, rest) → (decimal v ++ bytes ≡ decimal n ++ rest) × (n ≤ limit)
  unfolding digits_front
  digits-were v [] n rest some le h =
      let p = some_pair_parts v n [] rest h in
      (rw (p.0, p.1) refl, omega (arith, p.0, le))
  digits-were v (b ∷ bytes) n rest some le h =
      of (λ w s l g. digits-were w bytes n rest s l g) (is_digit b) refl (leb (v * 10 + (b - 48)) limit) refl h
    where
      of : ((w : ℕ) → 0 < w → w ≤ limit → digits_front limit w bytes ≡ Some (n, rest)
          → (decimal w ++ bytes ≡ decimal n ++ rest) × (n ≤ limit))
          → (digit : Bool) → is_digit b ≡ digit → (fits : Bool) → leb (v * 10 + (b - 48)) limit ≡ fits
          → cond digit (cond fits (digits_front limit (v * 10 + (b - 48)) bytes) None) (Some (v, b ∷ bytes))
          ≡ Some (n, rest)
          → (decimal v ++ b ∷ bytes ≡ decimal n ++ rest) × (n ≤ limit)
      of go true is true fits h =
          let bounds = and_parts (leb 48 b) (leb b 57) is in
          let low : 48 ≤ b = leb-true 48 b bounds.0 in
          let high : b ≤ 57 = leb-true b 57 bounds.1 in
          let w : ℕ = v * 10 + (b - 48) in
          let within : w ≤ limit = leb-true w limit fits in
          let step : decimal w ≡ decimal (w / 10) ++ ((48 + w % 10) ∷ []) =
          decimal_step w (omega arith) (omega (arith, within, wide)) in
          let front : w / 10 ≡ v = omega arith in
          let last : 48 + w % 10 ≡ b = omega arith in
          let more = go w (omega arith) within h in
          let same : decimal w ≡ decimal v ++ (b ∷ []) = step ∙ rw (front, last) refl in (
            sym (append_assoc (decimal v) (b ∷ []) bytes) ∙ ap (λ (xs : List ℕ). xs ++ bytes) (sym same)
                ∙ more.0,
            more.1,
          )
      of go true is false fits h = absurd (none-some (n, rest) h)
      of go false is fits f h =
          let p = some_pair_parts v n (b ∷ bytes) rest h in
          (rw (p.0, p.1) refl, omega (arith, p.0, le))

  -- a number that is read in front: its decimal digits stand there, and it is within the limit
  pub number-was : (bytes : List ℕ) (n : ℕ) (rest : List ℕ) → 9 ≤ limit → number_at limit bytes ≡ Some (n, rest)
      → (bytes ≡ decimal n ++ rest) × (n ≤ limit)
  unfolding number_at digit_at
  number-was [] n rest some h = absurd (none-some (n, rest) h)
  number-was (b ∷ bytes) n rest some h = of (is_digit b) refl h
    where
      of : (digit : Bool) → is_digit b ≡ digit → number_at limit (b ∷ bytes) ≡ Some (n, rest)
          → (b ∷ bytes ≡ decimal n ++ rest) × (n ≤ limit)
      of false is h = let none : number_at limit (b ∷ bytes) ≡ None =
          rw is refl in absurd (none-some (n, rest) (sym none ∙ h))
      of true is h =
          let bounds = and_parts (leb 48 b) (leb b 57) is in
          let low : 48 ≤ b = leb-true 48 b bounds.0 in
          let high : b ≤ 57 = leb-true b 57 bounds.1 in
          let glyph : decimal (b - 48) ≡ b ∷ [] =
          decimal_digit (b - 48) (omega arith) ∙ ap (λ (k : ℕ). k ∷ []) (omega arith) in
          let there : cond (eqb (b - 48) 0) (Some (b - 48, bytes)) (digits_front limit (b - 48) bytes)
          ≡ Some (n, rest) =
          sym (at is) ∙ h in
          by (eqb (b - 48) 0) refl glyph there
        where
          at : is_digit b ≡ true → number_at limit (b ∷ bytes)
              ≡ cond (eqb (b - 48) 0) (Some (b - 48, bytes)) (digits_front limit (b - 48) bytes)
          at e = rw e refl

          by : (z : Bool) → eqb (b - 48) 0 ≡ z → decimal (b - 48) ≡ b ∷ []
              → cond z (Some (b - 48, bytes)) (digits_front limit (b - 48) bytes) ≡ Some (n, rest)
              → (b ∷ bytes ≡ decimal n ++ rest) × (n ≤ limit)
          by true z glyph there =
              let p = some_pair_parts (b - 48) n bytes rest there in
              let zero_is : b - 48 ≡ 0 = eqb-true (b - 48) 0 z in
              (ap (λ (xs : List ℕ). xs ++ bytes) (sym glyph) ∙ rw (p.0, p.1) refl, omega (arith, p.0, zero_is))
          by false z glyph there =
              let bounds = and_parts (leb 48 b) (leb b 57) is in
              let high : b ≤ 57 = leb-true b 57 bounds.1 in
              let some_is : 0 < b - 48 = positive (b - 48) z in
              let w = digits-were (b - 48) bytes n rest some_is (omega arith) there in
              (ap (λ (xs : List ℕ). xs ++ bytes) (sym glyph) ∙ w.0, w.1)
            where
              positive : (k : ℕ) → eqb k 0 ≡ false → 0 < k
              positive zero e = absurd cc
              positive (suc k) e = omega arith
