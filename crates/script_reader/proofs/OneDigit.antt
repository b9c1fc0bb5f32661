-- Operations whose amount has one digit, and whose index has one or two.
use Rattle.std.proofs.Common.{◌≡◌, ℕ, zero, suc, ◌+◌, ◌-◌, ◌<◌, ◌≤◌, ℤ, pos, negsuc, to_z, of_z, w32, Bool, true, false, cond, eqb, leb, List, [], ◌∷◌, length, get_or, take, drop, Option, Some, None, refl, sym, ap, ◌∙◌, subst, subst₂, inl, inr, arith}
use Rattle.std.proofs.lemmas.List.{take_rest}
use Rattle.std.proofs.lemmas.Bool.{cases_eq, and_parts, leb-true, eqb-true}
use Rattle.std.specs.Prelude.{codes, bytes_eq, position, option_map, ◌&&◌}
use lib.IntN.{◌-ℤ◌}
use Rattle.pico_base.specs.Options.{◌>>=◌}
use Rattle.quoted_bytes.specs.Front.{strip}
use Rattle.script_reader.specs.Parts.{is_digit, cut, digits, number, positive, signed, added, added_from, indexed, step}
use Rattle.script_reader.proofs.Cuts.{position_of_first}

-- what holds of each number below n, one by one
abbrev Each : (ℕ → Type 0) → ℕ → Type 0
Each P zero = Unit {0}
Each P (suc n) = Each P n × P n

one_of : (P : ℕ → Type 0) (n : ℕ) → Each P n → (k : ℕ) → k < n → P k
one_of P zero all k low = absurd (omega (arith, low))
one_of P (suc n) all k low = elim (cases_eq k n) [
  | inl same ↦ subst P (sym same) all.1
  | inr other ↦ one_of P n all.0 k (omega (arith, low, other))
]

-- a digit by its value
by_value : (P : ℕ → Type 0) (first count : ℕ) → Each (λ n. P (first + n)) count
    → (d : ℕ) → first ≤ d → d < first + count → P d
by_value P first count all d low high =
    let back : first + (d - first) ≡ d = omega (arith, low) in
    subst P back (one_of (λ n. P (first + n)) count all (d - first) (omega (arith, low, high)))

digit_range : (b : ℕ) → is_digit b ≡ true → (48 ≤ b) × (b ≤ 57)
digit_range b e =
    let both = and_parts (leb 48 b) (leb b 57) e in (leb-true 48 b both.0, leb-true b 57 both.1)

number_of_one : (d : ℕ) → 48 ≤ d → d ≤ 57 → number 65535 (d ∷ []) ≡ Some (d - 48)
unfolding number digits
number_of_one d low high =
    by_value (λ d. number 65535 (d ∷ []) ≡ Some (d - 48)) 48 10
    ((((((((((tt, refl), refl), refl), refl), refl), refl), refl), refl), refl), refl) d low (omega (arith, high))

below_zero : (d : ℕ) → 49 ≤ d → d ≤ 57 → signed 65535 (45 ∷ d ∷ []) ≡ Some (negsuc (d - 49))
unfolding signed strip positive number digits
below_zero d low high =
    by_value (λ d. signed 65535 (45 ∷ d ∷ []) ≡ Some (negsuc (d - 49))) 49 9
    (((((((((tt, refl), refl), refl), refl), refl), refl), refl), refl), refl) d low (omega (arith, high))

-- ---- the first colon

colon_at : (xs : List ℕ) (i : ℕ) → i < length xs → ((k : ℕ) → k < i → ¬ (eqb (get_or xs k 0) 58 ≡ true))
    → eqb (get_or xs i 0) 58 ≡ true → position (λ b. eqb b 58) xs ≡ Some i
colon_at xs i inside before here =
    sym (position_of_first (λ b. eqb b 58) xs (Some i) (
      record { low = omega arith; high = omega (arith, inside); before = λ k a b. before k b },
      here,
    ))

second : (d : ℕ) (rest : List ℕ) → d ≤ 57 → (k : ℕ) → k < 1 → ¬ (eqb (get_or (d ∷ 58 ∷ rest) k 0) 58 ≡ true)
second d rest high zero low e = omega (arith, eqb-true d 58 e, high)
second d rest high (suc k) low e = omega (arith, low)

third : (d : ℕ) (rest : List ℕ) → d ≤ 57 → (k : ℕ) → k < 2
    → ¬ (eqb (get_or (45 ∷ d ∷ 58 ∷ rest) k 0) 58 ≡ true)
third d rest high zero low e = omega (arith, eqb-true 45 58 e)
third d rest high (suc k) low e = second d rest high k (omega (arith, low)) e

cut_second : (d : ℕ) (rest : List ℕ) → d ≤ 57 → cut 58 (d ∷ 58 ∷ rest) ≡ Some (d ∷ [], rest)
unfolding cut
cut_second d rest high =
    let w : List ℕ = d ∷ 58 ∷ rest in
    ap (option_map (λ k. (take k w, drop (k + 1) w))) (colon_at w 1 (omega arith) (second d rest high) refl)

cut_third : (d : ℕ) (rest : List ℕ) → d ≤ 57 → cut 58 (45 ∷ d ∷ 58 ∷ rest) ≡ Some (45 ∷ d ∷ [], rest)
unfolding cut
cut_third d rest high =
    let w : List ℕ = 45 ∷ d ∷ 58 ∷ rest in
    ap (option_map (λ k. (take k w, drop (k + 1) w))) (colon_at w 2 (omega arith) (third d rest high) refl)

-- ---- `I:` and what follows

indexed_by : (d : ℕ) (rest : List ℕ) → 48 ≤ d → d ≤ 57 → indexed (d ∷ 58 ∷ rest) ≡ Some (d - 48, rest)
unfolding indexed
indexed_by d rest low high =
    ap (λ (o : Option (List ℕ × List ℕ)). o >>= λ parts. number 65535 parts.0 >>= λ n. Some (n, parts.1))
    (cut_second d rest high)
    ∙ ap (λ (o : Option ℕ). o >>= λ n. Some (n, rest)) (number_of_one d low high)

-- an index of one digit, its colon, and what follows
pub indexed_in : (w : List ℕ) → 2 ≤ length w → is_digit (get_or w 0 0) ≡ true → get_or w 1 0 ≡ 58
    → Some (get_or w 0 0 - 48, take (length w - 2) (drop 2 w)) ≡ indexed w
indexed_in [] long digit colon = absurd (omega (arith, long))
indexed_in (d ∷ []) long digit colon = absurd (omega (arith, long))
indexed_in (d ∷ c ∷ rest) long digit colon =
    let range = digit_range d digit in
    ap (λ (r : List ℕ). Some (d - 48, r)) (take_rest (d ∷ c ∷ rest) 2)
    ∙ sym (subst (λ c. indexed (d ∷ c ∷ rest) ≡ Some (d - 48, rest)) (sym colon) (indexed_by d rest range.0 range.1))

-- ---- `V`

added_alone : (d : ℕ) → 48 ≤ d → d ≤ 57
    → Some (to_z w32 (of_z w32 (pos (d - 48))), false) ≡ added (d ∷ [])
unfolding added cut signed strip number digits
added_alone d low high =
    by_value (λ d. Some (to_z w32 (of_z w32 (pos (d - 48))), false) ≡ added (d ∷ [])) 48 10
    ((((((((((tt, refl), refl), refl), refl), refl), refl), refl), refl), refl), refl) d low (omega (arith, high))

-- an amount that is one digit alone
pub added_in_one : (w : List ℕ) → 1 ≤ length w → length w < 2 → is_digit (get_or w 0 0) ≡ true
    → Some (to_z w32 (of_z w32 (pos (get_or w 0 0 - 48))), false) ≡ added w
added_in_one [] long short digit = absurd (omega (arith, long))
added_in_one (d ∷ []) long short digit = let range = digit_range d digit in added_alone d range.0 range.1
added_in_one (d ∷ e ∷ w) long short digit = absurd (omega (arith, short))

-- ---- `-V:nowait`

-- a digit behind a minus sign, as the code turns its sign
pub turned : (d : ℕ) → 49 ≤ d → d ≤ 57
    → to_z w32 (of_z w32 (pos 0 -ℤ to_z w32 (of_z w32 (pos (d - 48))))) ≡ negsuc (d - 49)
turned d low high =
    by_value (λ d. to_z w32 (of_z w32 (pos 0 -ℤ to_z w32 (of_z w32 (pos (d - 48))))) ≡ negsuc (d - 49)) 49 9
    (((((((((tt, refl), refl), refl), refl), refl), refl), refl), refl), refl) d low (omega (arith, high))

abbrev with_nowait : ℕ → Bool → Option (ℤ × Bool)
with_nowait d nowait = cond nowait (Some (negsuc (d - 49), true)) None

added_below : (d : ℕ) (rest : List ℕ) → 49 ≤ d → d ≤ 57
    → added (45 ∷ d ∷ 58 ∷ rest) ≡ with_nowait d (bytes_eq rest (codes "nowait"))
unfolding added
added_below d rest low high =
    ap (λ (o : Option (List ℕ × List ℕ)). added_from o (45 ∷ d ∷ 58 ∷ rest)) (cut_third d rest high)
    ∙ ap (λ (o : Option ℤ). o >>= λ add. cond (bytes_eq rest (codes "nowait")) (Some (add, true)) None)
    (below_zero d low high)

-- an amount of one digit behind a minus sign, with `:nowait` or other bytes behind it
pub added_in : (w : List ℕ) → 3 ≤ length w → get_or w 0 0 ≡ 45 → 49 ≤ get_or w 1 0 → get_or w 1 0 ≤ 57
    → get_or w 2 0 ≡ 58 → (b : Bool) → b ≡ bytes_eq (take (length w - 3) (drop 3 w)) (codes "nowait")
    → added w ≡ with_nowait (get_or w 1 0) b
added_in [] long sign low high colon b e = absurd (omega (arith, long))
added_in (a ∷ []) long sign low high colon b e = absurd (omega (arith, long))
added_in (a ∷ d ∷ []) long sign low high colon b e = absurd (omega (arith, long))
added_in (a ∷ d ∷ c ∷ rest) long sign low high colon b e =
    subst₂ (λ a c. added (a ∷ d ∷ c ∷ rest) ≡ with_nowait d (bytes_eq rest (codes "nowait"))) (sym sign) (sym colon)
    (added_below d rest low high)
    ∙ ap (with_nowait d) (ap (λ r. bytes_eq r (codes "nowait")) (sym (take_rest (a ∷ d ∷ c ∷ rest) 3)) ∙ sym e)

-- ---- whole operations

step_by : (i : ℕ) (rest : List ℕ) (z : ℤ) (b : Bool) → 48 ≤ i → i ≤ 57 → added rest ≡ Some (z, b)
    → step (i ∷ 58 ∷ rest) ≡ Some (record { num = i - 48; add = z; nowait = b })
unfolding step
step_by i rest z b low high e =
    ap (λ (o : Option (List ℕ × List ℕ)). o >>= λ parts. number 65535 parts.0 >>= λ num. added parts.1 >>= λ add.
    Some (record { num = num; add = add.0; nowait = add.1 })) (cut_second i rest high)
    ∙ ap (λ (o : Option ℕ). o >>= λ num. added rest >>= λ add.
    Some (record { num = num; add = add.0; nowait = add.1 })) (number_of_one i low high)
    ∙ ap (λ (o : Option (ℤ × Bool)). o >>= λ add.
    Some (record { num = i - 48; add = add.0; nowait = add.1 })) e

-- `I:V` of two digits
pub step_of_three : (w : List ℕ) → 3 ≤ length w → length w < 4 → is_digit (get_or w 0 0) ≡ true → get_or w 1 0 ≡ 58
    → is_digit (get_or w 2 0) ≡ true
    → step w ≡ Some (record {
      num = get_or w 0 0 - 48;
      add = to_z w32 (of_z w32 (pos (get_or w 2 0 - 48)));
      nowait = false;
    })
step_of_three [] long short index colon digit = absurd (omega (arith, long))
step_of_three (i ∷ []) long short index colon digit = absurd (omega (arith, long))
step_of_three (i ∷ c ∷ []) long short index colon digit = absurd (omega (arith, long))
step_of_three (i ∷ c ∷ d ∷ []) long short index colon digit =
    let first = digit_range i index in
    let last = digit_range d digit in
    subst (λ c. step (i ∷ c ∷ d ∷ []) ≡ Some (record {
      num = i - 48;
      add = to_z w32 (of_z w32 (pos (d - 48)));
      nowait = false;
    })) (sym colon)
    (step_by i (d ∷ []) _ _ first.0 first.1 (sym (added_alone d last.0 last.1)))
step_of_three (i ∷ c ∷ d ∷ e ∷ w) long short index colon digit = absurd (omega (arith, short))

-- `I:-V:nowait` of two digits
pub step_of_five : (w : List ℕ) → 5 ≤ length w → is_digit (get_or w 0 0) ≡ true → get_or w 1 0 ≡ 58
    → get_or w 2 0 ≡ 45 → 49 ≤ get_or w 3 0 → get_or w 3 0 ≤ 57 → get_or w 4 0 ≡ 58
    → bytes_eq (take (length w - 5) (drop 5 w)) (codes "nowait") ≡ true
    → step w ≡ Some (record { num = get_or w 0 0 - 48; add = negsuc (get_or w 3 0 - 49); nowait = true })
step_of_five [] long index colon sign low high behind word = absurd (omega (arith, long))
step_of_five (i ∷ []) long index colon sign low high behind word = absurd (omega (arith, long))
step_of_five (i ∷ c ∷ []) long index colon sign low high behind word = absurd (omega (arith, long))
step_of_five (i ∷ c ∷ s ∷ []) long index colon sign low high behind word = absurd (omega (arith, long))
step_of_five (i ∷ c ∷ s ∷ d ∷ []) long index colon sign low high behind word = absurd (omega (arith, long))
step_of_five (i ∷ c ∷ s ∷ d ∷ e ∷ rest) long index colon sign low high behind word =
    let first = digit_range i index in
    let whole : bytes_eq rest (codes "nowait") ≡ true =
    ap (λ r. bytes_eq r (codes "nowait")) (sym (take_rest (i ∷ c ∷ s ∷ d ∷ e ∷ rest) 5)) ∙ word in
    let here = step_by i (45 ∷ d ∷ 58 ∷ rest) (negsuc (d - 49)) true first.0 first.1
    (added_below d rest low high ∙ ap (with_nowait d) whole) in
    rw (colon, sign, behind) here

-- ---- an index of two digits

-- the test of the code, for its two digits
abbrev pub are_two : ℕ → ℕ → Bool
are_two t o = (leb 49 t && leb t 57) && is_digit o

two_range : (t o : ℕ) → are_two t o ≡ true → (t ≤ 57) × (o ≤ 57)
two_range t o e =
    let both = and_parts (leb 49 t && leb t 57) (is_digit o) e in
    (leb-true t 57 (and_parts (leb 49 t) (leb t 57) both.0).1, (digit_range o both.1).1)

behind_two : (t o : ℕ) (rest : List ℕ) → t ≤ 57 → o ≤ 57 → (k : ℕ) → k < 2
    → ¬ (eqb (get_or (t ∷ o ∷ 58 ∷ rest) k 0) 58 ≡ true)
behind_two t o rest high last zero low e = omega (arith, eqb-true t 58 e, high)
behind_two t o rest high last (suc k) low e = second o rest last k (omega (arith, low)) e

cut_two : (t o : ℕ) (rest : List ℕ) → are_two t o ≡ true → cut 58 (t ∷ o ∷ 58 ∷ rest) ≡ Some (t ∷ o ∷ [], rest)
unfolding cut
cut_two t o rest two =
    let w : List ℕ = t ∷ o ∷ 58 ∷ rest in
    let range = two_range t o two in
    ap (option_map (λ k. (take k w, drop (k + 1) w)))
    (colon_at w 2 (omega arith) (behind_two t o rest range.0 range.1) refl)

indexed_by_two : (t o n : ℕ) (rest : List ℕ) → are_two t o ≡ true → number 65535 (t ∷ o ∷ []) ≡ Some n
    → indexed (t ∷ o ∷ 58 ∷ rest) ≡ Some (n, rest)
unfolding indexed
indexed_by_two t o n rest two e =
    ap (λ (o : Option (List ℕ × List ℕ)). o >>= λ parts. number 65535 parts.0 >>= λ n. Some (n, parts.1))
    (cut_two t o rest two)
    ∙ ap (λ (o : Option ℕ). o >>= λ n. Some (n, rest)) e

-- an index of two digits, its colon, and what follows
pub indexed_in_two : (w : List ℕ) (n : ℕ) → 3 ≤ length w → are_two (get_or w 0 0) (get_or w 1 0) ≡ true
    → get_or w 2 0 ≡ 58 → number 65535 (get_or w 0 0 ∷ get_or w 1 0 ∷ []) ≡ Some n
    → Some (n, take (length w - 3) (drop 3 w)) ≡ indexed w
indexed_in_two [] n long two colon e = absurd (omega (arith, long))
indexed_in_two (t ∷ []) n long two colon e = absurd (omega (arith, long))
indexed_in_two (t ∷ o ∷ []) n long two colon e = absurd (omega (arith, long))
indexed_in_two (t ∷ o ∷ c ∷ rest) n long two colon e =
    ap (λ (r : List ℕ). Some (n, r)) (take_rest (t ∷ o ∷ c ∷ rest) 3)
    ∙ sym (subst (λ c. indexed (t ∷ o ∷ c ∷ rest) ≡ Some (n, rest)) (sym colon) (indexed_by_two t o n rest two e))
