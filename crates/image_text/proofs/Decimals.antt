-- A number's decimal digits in front are read as the number. That what is read are its digits is `number-was` of
-- trace_text's lemmas of the same name.
use Rattle.std.proofs.Common.{◌≡◌, ℕ, ◌+◌, ◌-◌, ◌*◌, ◌/◌, ◌%◌, ◌^◌, ◌<◌, ◌≤◌, Bool, true, false, cond, leb, eqb, List, [], ◌∷◌, ◌++◌, Some, None, refl, ap, ◌∙◌, append_assoc, arith}
use Rattle.std.specs.Fmt.{decimal}
use Rattle.std.proofs.lemmas.Bool.{le-leb, ne_eqb, and_from}
use Rattle.std.proofs.lemmas.Fmt.{decimal_by_steps}
use Rattle.text_fields.specs.Fields.{is_digit, digit_at, digits_front, number_at}
use Rattle.text_fields.proofs.Numerals.{front-stop}

-- a digit's byte is a digit
digit-is : (d : ℕ) → d < 10 → is_digit (48 + d) ≡ true
digit-is d small = and_from (leb 48 (48 + d)) (leb (48 + d) 57) (le-leb 48 (48 + d) (omega arith)) (le-leb
    (48 + d) 57 (omega arith))

-- these digits in front come to the number, and reading goes on behind them
abbrev GoesOn : ℕ → ℕ → List ℕ → Type 0
GoesOn limit n ds = (rest : List ℕ) → n ≤ limit
    → number_at limit (ds ++ rest) ≡ cond (eqb n 0) (Some (n, rest)) (digits_front limit n rest)

-- a number of one digit does so
goes-one : (limit n : ℕ) → n < 10 → GoesOn limit n ((48 + n) ∷ [])
unfolding number_at digit_at
goes-one limit n small rest le =
    let value : (48 + n) - 48 ≡ n = omega arith in
    rw (digit-is n small, value) refl

-- and one with a digit more, where its tens do
goes-more : (limit n : ℕ) (ds : List ℕ) → 10 ≤ n → GoesOn limit (n / 10) ds
    → GoesOn limit n (ds ++ ((48 + n % 10) ∷ []))
unfolding digits_front
goes-more limit n ds some h rest le =
    let d : ℕ = n % 10 in
    let behind : List ℕ = (48 + d) ∷ rest in
    let front : eqb (n / 10) 0 ≡ false = ne_eqb (n / 10) 0 (λ e. omega arith) in
    let whole : eqb n 0 ≡ false = ne_eqb n 0 (λ e. omega arith) in
    let value : (n / 10) * 10 + ((48 + d) - 48) ≡ n = omega arith in
    let fits : leb ((n / 10) * 10 + ((48 + d) - 48)) limit ≡ true =
    le-leb ((n / 10) * 10 + ((48 + d) - 48)) limit (omega arith) in
    let next : digits_front limit (n / 10) behind ≡ digits_front limit n rest =
    rw (digit-is d (omega arith), fits, value) refl in
    ap (number_at limit) (append_assoc ds ((48 + d) ∷ []) rest) ∙ h behind (omega arith) ∙ rw (front, whole) next

-- it is read, where no digit follows
pub number-again : (limit n : ℕ) (rest : List ℕ) → n ≤ limit → n < 2 ^ 64 → digit_at rest ≡ None
    → number_at limit (decimal n ++ rest) ≡ Some (n, rest)
number-again limit n rest le small stop =
    decimal_by_steps (GoesOn limit) (goes-one limit) (goes-more limit) n small rest le ∙ of (eqb n 0)
  where
    of : (b : Bool) → cond b (Some (n, rest)) (digits_front limit n rest) ≡ Some (n, rest)
    of true = refl
    of false = front-stop limit n rest stop
