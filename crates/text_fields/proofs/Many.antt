-- The parts of a list: the loop that reads them, and a list's spelling read back.
use Rattle.std.proofs.Common.{◌≡◌, ℕ, zero, suc, ◌+◌, ◌-◌, ◌<◌, ◌≤◌, List, [], ◌∷◌, ◌++◌, length, Option, Some, None, refl, sym, ap, ◌∙◌, append_assoc, arith}
use Rattle.std.specs.List.{AllByRecursion, flat_map}
use Rattle.std.proofs.lemmas.List.{append-nil, length-append}
use Rattle.text_fields.specs.Fields.{in_front, many}

-- the parts read so far in front of those that follow, with the bytes that are left
abbrev pub onto : {A : Type 0} → List A → List A × List ℕ → List A × List ℕ
onto so_far xs = (so_far ++ xs.0, xs.1)

module _ {A : Type 0} (reader : List ℕ → Option (A × List ℕ)) where
  pub many-step : (rest after : List ℕ) (x : A) (n : ℕ) → 0 < n → Some (x, after) ≡ reader rest
      → many reader n rest ≡ in_front x (many reader (n - 1) after)
  unfolding many
  many-step rest after x zero some e = absurd (omega (arith, some))
  many-step rest after x (suc n) some e =
      let same : suc n - 1 ≡ n = omega arith in
      rw (← e, same) refl

  pub many-none : (rest : List ℕ) (n : ℕ) → reader rest ≡ None → many reader n rest ≡ ([], rest)
  unfolding many
  many-none rest zero e = refl
  many-none rest (suc n) e = rw e refl

  pub many-zero : (rest : List ℕ) (n : ℕ) → n ≡ 0 → many reader n rest ≡ ([], rest)
  unfolding many
  many-zero rest zero e = refl
  many-zero rest (suc n) e = absurd (omega (arith, e))

  pub many-goes : (so_far : List A) (rest after : List ℕ) (x : A) (n : ℕ) → 0 < n → Some (x, after) ≡ reader rest
      → onto so_far (many reader n rest) ≡ onto (so_far ++ x ∷ []) (many reader (n - 1) after)
  unfolding many
  many-goes so_far rest after x zero some e = absurd (omega (arith, some))
  many-goes so_far rest after x (suc n) some e =
      let same : suc n - 1 ≡ n = omega arith in
      rw (← e, same) (ap (λ (xs : List A). (xs, (many reader n after).1))
      (sym (append_assoc so_far (x ∷ []) (many reader n after).0)))

  pub many-ends : (so_far : List A) (rest : List ℕ) (n : ℕ) → reader rest ≡ None
      → onto so_far (many reader n rest) ≡ (so_far, rest)
  unfolding many
  many-ends so_far rest zero e = ap (λ (xs : List A). (xs, rest)) (append-nil so_far)
  many-ends so_far rest (suc n) e = rw e (ap (λ (xs : List A). (xs, rest)) (append-nil so_far))

  pub many-full : (so_far : List A) (rest : List ℕ) (n : ℕ) → n ≡ 0 → onto so_far (many reader n rest) ≡ (so_far, rest)
  unfolding many
  many-full so_far rest zero e = ap (λ (xs : List A). (xs, rest)) (append-nil so_far)
  many-full so_far rest (suc n) e = absurd (omega (arith, e))

  module _ (text : A → List ℕ) (P : A → Type 0) (Stops : List ℕ → Type 0) where
    -- a list's spelling, and then what begins no part
    pub many-again : (n : ℕ) (xs : List A) (rest : List ℕ)
        → ((x : A) (more : List ℕ) → P x → Stops more → reader (text x ++ more) ≡ Some (x, more))
        → ((ys : List A) → Stops (flat_map text ys ++ rest)) → reader rest ≡ None → AllByRecursion P xs → length xs ≤ n
        → many reader n (flat_map text xs ++ rest) ≡ (xs, rest)
    unfolding many
    many-again zero [] rest again stops none h room = refl
    many-again (suc n) [] rest again stops none h room = rw none refl
    many-again zero (x ∷ xs) rest again stops none h room = absurd (omega (arith, room))
    many-again (suc n) (x ∷ xs) rest again stops none h room =
        let more : List ℕ = flat_map text xs ++ rest in
        let front : (text x ++ flat_map text xs) ++ rest ≡ text x ++ more =
        append_assoc (text x) (flat_map text xs) rest in
        rw (front, again x more h.0 (stops xs), many-again n xs rest again stops none h.1 (omega (arith, room))) refl

    -- parts that aren't empty
    pub parts-room : (xs : List A) (rest : List ℕ) → ((x : A) → P x → 1 ≤ length (text x)) → AllByRecursion P xs
        → length xs ≤ length (flat_map text xs ++ rest)
    parts-room [] rest some h = omega arith
    parts-room (x ∷ xs) rest some h =
        let front : length ((text x ++ flat_map text xs) ++ rest)
        ≡ length (text x) + length (flat_map text xs ++ rest) =
        ap length (append_assoc (text x) (flat_map text xs) rest) ∙ length-append (text x) (flat_map text xs ++ rest) in
        omega (arith, front, some x h.0, parts-room xs rest some h.1)
