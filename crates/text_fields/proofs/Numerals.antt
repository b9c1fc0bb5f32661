-- Numbers at the front of what is left: a number's spelling is read, with what follows it.
use Rattle.std.proofs.Common.{◌≡◌, ℕ, zero, suc, ◌+◌, ◌-◌, ◌*◌, ◌<◌, ◌≤◌, ℤ, pos, negsuc, Bool, true, false, cond, eqb, List, [], ◌∷◌, ◌++◌, length, get_or, Some, None, refl, sym, ap, ◌∙◌, arith}
use Rattle.std.specs.Prelude.{decimal, codes}
use Rattle.std.specs.Char.{digit_value}
use Rattle.std.specs.Fmt.{signed_decimal}
use Rattle.std.specs.Str.{all_ascii_digits}
use Rattle.std.specs.Str.Parse.{digits_value, digits_value_after}
use Rattle.std.proofs.lemmas.Bool.{and_parts, le-leb, lt-leb, eqb-true, ne_eqb}
use Rattle.std.proofs.lemmas.Fmt.{decimal_is_IsNumeral, decimal_digit, first_decimal}
use Rattle.std.proofs.lemmas.Option.{same_Some, none-some, some_pair_parts}
use Rattle.std.proofs.lemmas.Str.Parse.{IsNumeralModel, numerals_by_value, tells_all_ascii_digits}
use Rattle.text_fields.specs.Fields.{is_digit, digit_at, digits_front, number_at, signed_at}
use Rattle.text_fields.proofs.Chains.{chosen, between_true, none_from}
use Rattle.quoted_bytes.proofs.Strips.{strip_takes, strip_again}
use Rattle.quoted_bytes.specs.Front.{strip}

-- each byte is a decimal digit
abbrev pub AreDigits : List ℕ → Type 0
AreDigits ds = all_ascii_digits ds ≡ true

own : IsNumeralModel AreDigits (digits_value 10)
own = numerals_by_value AreDigits tells_all_ascii_digits

value_of_digit : (b : ℕ) → 48 ≤ b → b ≤ 57 → digit_value b ≡ b - 48
value_of_digit b l h = grind arith

digits_value_after-grows : (v : ℕ) (ds : List ℕ) → v ≤ digits_value_after 10 v ds
digits_value_after-grows v [] = omega arith
digits_value_after-grows v (d ∷ ds) = omega (arith, digits_value_after-grows (v * 10 + digit_value d) ds)

leads : (n : ℕ) → n ≤ 4294967295 → get_or (decimal n) 0 0 ≡ 48 → length (decimal n) ≡ 1
leads zero small h = rw (decimal_digit 0 (omega arith)) refl
leads (suc n) small h = absurd (omega (arith, first_decimal (suc n) (omega arith) (omega arith)))

digit_takes : (bytes : List ℕ) (d : ℕ) (rest : List ℕ) → digit_at bytes ≡ Some (d, rest) → (bytes ≡ (48 + d) ∷ rest)
    × (d ≤ 9)
unfolding digit_at
digit_takes [] d rest e = absurd cc
digit_takes (b ∷ bytes) d rest e =
    let t = chosen (is_digit b) (Some (b - 48, bytes)) (d, rest) e in
    let p = some_pair_parts (b - 48) d bytes rest t.1 in
    let r = between_true 48 57 b t.0 in
    let head : b ≡ 48 + d = omega (arith, p.0, r) in
    (rw (head, p.1) refl, omega (arith, p.0, r))

-- a number from the limit below zero to it
abbrev pub IsWithin : ℕ → ℤ → Type 0
IsWithin limit (pos n) = n ≤ limit
IsWithin limit (negsuc n) = suc n ≤ limit

-- ---- the loop over digits

-- a digit that keeps the value within the limit is taken into it, and the loop goes on
pub front-more : (limit value d : ℕ) (rest after : List ℕ) → Some (d, after) ≡ digit_at rest → value * 10 + d ≤ limit
    → digits_front limit value rest ≡ digits_front limit (value * 10 + d) after
unfolding digits_front digit_at
front-more limit value d [] after e small = absurd (none-some (d, after) (sym e))
front-more limit value d (b ∷ rest) after e small =
    let t = chosen (is_digit b) (Some (b - 48, rest)) (d, after) (sym e) in
    let p : (b - 48, rest) ≡ (d, after) = same_Some (b - 48, rest) (d, after) t.1 in
    let number : b - 48 ≡ d = ap (λ (q : ℕ × List ℕ). q.0) p in
    let left : rest ≡ after = ap (λ (q : ℕ × List ℕ). q.1) p in
    rw (t.0, number, le-leb (value * 10 + d) limit small, left) refl

-- a digit that takes the value past the limit leaves no number
pub front-past : (limit value d : ℕ) (rest after : List ℕ) → Some (d, after) ≡ digit_at rest → limit < value * 10 + d
    → digits_front limit value rest ≡ None
unfolding digits_front digit_at
front-past limit value d [] after e big = absurd (none-some (d, after) (sym e))
front-past limit value d (b ∷ rest) after e big =
    let t = chosen (is_digit b) (Some (b - 48, rest)) (d, after) (sym e) in
    let p : (b - 48, rest) ≡ (d, after) = same_Some (b - 48, rest) (d, after) t.1 in
    let number : b - 48 ≡ d = ap (λ (q : ℕ × List ℕ). q.0) p in
    rw (t.0, number, lt-leb (value * 10 + d) limit big) refl

-- a digit leaves less
pub front-left : (d : ℕ) (rest after : List ℕ) → Some (d, after) ≡ digit_at rest → length after < length rest
front-left d rest after e = omega (arith, ap length (digit_takes rest d after (sym e)).0)

unchosen : (b : Bool) (x : ℕ × List ℕ) → cond b (Some x) None ≡ None → b ≡ false
unchosen true x e = absurd (none-some x (sym e))
unchosen false x e = refl

-- where no digit stands in front, the value so far is the number
pub front-stop : (limit value : ℕ) (rest : List ℕ) → digit_at rest ≡ None
    → digits_front limit value rest ≡ Some (value, rest)
unfolding digits_front digit_at
front-stop limit value [] e = refl
front-stop limit value (b ∷ rest) e = rw (unchosen (is_digit b) (b - 48, rest) e) refl

-- ---- a spelling is read

front_again : (limit value : ℕ) (ds rest : List ℕ) → AreDigits ds → digits_value_after 10 value ds ≤ limit
    → digit_at rest ≡ None → digits_front limit value (ds ++ rest) ≡ Some (digits_value_after 10 value ds, rest)
unfolding digits_front
front_again limit value [] rest h small stop = front-stop limit value rest stop
front_again limit value (b ∷ ds) rest h small stop =
    let p = and_parts (is_digit b) (all_ascii_digits ds) h in
    let d = between_true 48 57 b p.0 in
    let w : ℕ = value * 10 + (b - 48) in
    let same : value * 10 + digit_value b ≡ w = ap (λ (k : ℕ). value * 10 + k) (value_of_digit b d.0 d.1) in
    let below : digits_value_after 10 w ds ≤ limit = rw (← same) small in
    rw (p.0, le-leb w limit (omega (arith, below, digits_value_after-grows w ds)), same)
    (front_again limit w ds rest p.1 below stop)

number_at_of : (limit : ℕ) (w rest : List ℕ) (n : ℕ) → AreDigits w → digits_value 10 w ≡ n → n ≤ limit → 0 < length w
    → (get_or w 0 0 ≡ 48 → length w ≡ 1) → digit_at rest ≡ None → number_at limit (w ++ rest) ≡ Some (n, rest)
unfolding number_at digit_at
number_at_of limit [] rest n h v small some lead stop = absurd (omega (arith, some))
number_at_of limit (b ∷ ds) rest n h v small some lead stop =
    let p = and_parts (is_digit b) (all_ascii_digits ds) h in
    let d = between_true 48 57 b p.0 in
    let first : digit_value b ≡ b - 48 = value_of_digit b d.0 d.1 in
    let start : 0 * 10 + digit_value b ≡ b - 48 = omega (arith, first) in
    let value : digits_value_after 10 (b - 48) ds ≡ n = sym (ap (λ (k : ℕ). digits_value_after 10 k ds) start) ∙ v in
    rw p.0 (of (eqb (b - 48) 0) refl value)
  where
    of : (c : Bool) → eqb (b - 48) 0 ≡ c → digits_value_after 10 (b - 48) ds ≡ n
        → cond (eqb (b - 48) 0) (Some (b - 48, ds ++ rest)) (digits_front limit (b - 48) (ds ++ rest)) ≡ Some (n, rest)
    of true e value =
        let is : b - 48 ≡ 0 = eqb-true (b - 48) 0 e in
        let d = between_true 48 57 b (and_parts (is_digit b) (all_ascii_digits ds) h).0 in
        let none : ds ≡ [] = empty ds (omega (arith, lead (omega (arith, d, is)))) in
        let zero_is : b - 48 ≡ n = sym (ap (λ (xs : List ℕ). digits_value_after 10 (b - 48) xs) none) ∙ value in
        rw (e, none, zero_is) refl
      where
        empty : (xs : List ℕ) → length xs ≡ 0 → xs ≡ []
        empty [] e' = refl
        empty (x ∷ xs) e' = absurd (omega (arith, e'))
    of false e value =
        let p = and_parts (is_digit b) (all_ascii_digits ds) h in
        rw e (front_again limit (b - 48) ds rest p.1 (omega (arith, value, small)) stop
        ∙ ap (λ (k : ℕ). Some (k, rest)) value)

-- a number up to the limit is read from its spelling, where no digit follows
pub front_number_again : (limit n : ℕ) (rest : List ℕ) → n ≤ limit → limit ≤ 4294967295 → digit_at rest ≡ None
    → number_at limit (decimal n ++ rest) ≡ Some (n, rest)
front_number_again limit n rest small bound stop =
    let h = decimal_is_IsNumeral n (omega arith) in
    number_at_of limit (decimal n) rest n (own.from (decimal n) h.0.1) h.1 small h.0.0 (leads n (omega arith)) stop

-- ---- signed numbers

-- a number's spelling begins with a digit
digit_first : (w rest : List ℕ) → AreDigits w → 0 < length w → (48 ≤ get_or (w ++ rest) 0 0)
    × (get_or (w ++ rest) 0 0 ≤ 57)
digit_first [] rest h some = absurd (omega (arith, some))
digit_first (b ∷ w) rest h some = between_true 48 57 b (and_parts (is_digit b) (all_ascii_digits w) h).0

-- the first byte of a number's spelling is a digit
pub decimal_first : (n : ℕ) (rest : List ℕ) → n ≤ 4294967295 → (48 ≤ get_or (decimal n ++ rest) 0 0)
    × (get_or (decimal n ++ rest) 0 0 ≤ 57)
decimal_first n rest small =
    let h = decimal_is_IsNumeral n (omega arith) in
    digit_first (decimal n) rest (own.from (decimal n) h.0.1) h.0.0

-- and so with no sign
pub not_before_number : (b n : ℕ) (rest : List ℕ) → n ≤ 4294967295 → b < 48 → strip (b ∷ []) (decimal n ++ rest) ≡ None
not_before_number b n rest small low = none_from (strip (b ∷ []) (decimal n ++ rest)) (λ x e.
    omega (
      arith,
      (decimal_first n rest small).0,
      ap (λ (r : List ℕ). get_or r 0 0) (strip_takes (b ∷ []) (decimal n ++ rest) x e),
      low,
    ))

-- a number with its sign is read from its spelling, where it is within the limit and no digit follows
pub signed_again : (limit : ℕ) (z : ℤ) (rest : List ℕ) → limit ≤ 4294967295 → IsWithin limit z → digit_at rest ≡ None
    → signed_at limit (signed_decimal z ++ rest) ≡ Some (z, rest)
unfolding signed_at
signed_again limit (pos n) rest bound within stop =
    rw (
      not_before_number 45 n rest (omega (arith, bound, within)) (omega arith),
      front_number_again limit n rest within bound stop,
    ) refl
signed_again limit (negsuc m) rest bound within stop =
    let small : suc m ≤ limit = omega (arith, within) in
    let back : suc m - 1 ≡ m = omega arith in
    let some : eqb (suc m) 0 ≡ false = ne_eqb (suc m) 0 (λ e. omega (arith, e)) in
    rw (
      strip_again (codes "-") (decimal (suc m) ++ rest),
      front_number_again limit (suc m) rest small bound stop,
      some,
      back,
    ) refl

-- a number's spelling is of digits
pub decimal-digits : (n : ℕ) → n ≤ 4294967295 → AreDigits (decimal n)
decimal-digits n small = own.from (decimal n) (decimal_is_IsNumeral n (omega arith)).0.1
