-- Numbers, variables and objects: what is read of a word has that word as its only spelling.
use Rattle.std.proofs.Common.{◌≡◌, ℕ, zero, suc, ◌+◌, ◌-◌, ◌*◌, ◌/◌, ◌%◌, ◌<◌, ◌≤◌, pos, negsuc, Bool, true, false, ◌&&◌, not, cond, eqb, leb, List, [], ◌∷◌, ◌++◌, length, get_or, Option, Some, None, refl, sym, ap, subst, ◌∙◌, arith}
use Rattle.std.specs.Prelude.{IfSome, codes}
use Rattle.std.specs.Char.{digit_value}
use Rattle.std.specs.Fmt.{decimal, signed_decimal}
use Rattle.std.specs.Str.{all_ascii_digits}
use Rattle.std.specs.Str.Parse.{digits_value, digits_value_after}
use Rattle.std.proofs.lemmas.Bool.{and_parts, and_from, leb-true, le-leb, eqb-false, ne_eqb}
use Rattle.std.proofs.lemmas.Fmt.{decimal-digits_value, decimal_is_IsNumeral, decimal_digit, first_decimal}
use Rattle.std.proofs.lemmas.List.{append-nil}
use Rattle.std.proofs.lemmas.Str.Parse.{IsNumeralModel, numerals_by_value, tells_all_ascii_digits}
use Rattle.script_reader.specs.Words.Stretch.{plain}
use Rattle.script_reader.specs.Parts as parts
use Rattle.script_reader.specs.Parts.{digits, number, positive, signed, variable}
use Rattle.script_reader.specs.Forms.{identifier, process}
use Rattle.script_reader.specs.Forms as forms
use Rattle.script_reader.proofs.Ranges.{if_bind, if_map, if_cond, number_small}
use Rattle.quoted_bytes.proofs.Strips.{strip_takes}
use Rattle.quoted_bytes.specs.Front.{strip}
use Rattle.script_reader.proofs.Widths.{if_both}
use Rattle.text_fields.proofs.Numerals.{AreDigits}
use Rattle.script_speller.specs.Spelling.{variable_text, object_text}
use Rattle.script_speller.proofs.Separated.{is_solid, is_rest, is_word}

-- ---- words behind a call's name

-- a word that isn't `=`
abbrev pub is_argument : List ℕ → Bool
is_argument [] = false
is_argument (b ∷ bytes) = not (eqb b 61) && is_word (b ∷ bytes)

-- the word is this text
pub record Spelt (w text : List ℕ) : Type 0 where
  pub same : w ≡ text
  pub argument : is_argument text ≡ true

-- a word that is this text is spelled so, where it can stand behind a call's name
pub spelt_from : (w text : List ℕ) → w ≡ text → is_argument w ≡ true → Spelt w text
spelt_from w text e h = record { same = e; argument = subst (λ x. is_argument x ≡ true) e h }

-- what holds of a value, if there is one, in weaker words
pub if_weaker : {A : Type 0} (o : Option A) (P Q : A → Type 0) → IfSome o P → ((x : A) → P x → Q x) → IfSome o Q
if_weaker None P Q h f = tt
if_weaker (Some x) P Q h f = f x h

-- a solid first byte that begins no text, and is no `=`
pub argument_from : (b : ℕ) (bytes : List ℕ) → is_solid b ≡ true → eqb b 61 ≡ false → eqb b 34 ≡ false
    → is_rest plain bytes ≡ true → is_argument (b ∷ bytes) ≡ true
argument_from b bytes solid other quote rest = rw (other, quote, solid, rest) refl

-- solid bytes behind solid bytes
pub rest_append : (xs ys : List ℕ) → is_rest plain xs ≡ true → is_rest plain ys ≡ true → is_rest plain (xs ++ ys) ≡ true
rest_append [] ys h k = k
rest_append (x ∷ xs) ys h k =
    let p = and_parts (is_solid x) (is_rest plain xs) h in
    and_from (is_solid x) (is_rest plain (xs ++ ys)) p.0 (rest_append xs ys p.1 k)

-- ---- numbers

own : IsNumeralModel AreDigits (digits_value 10)
own = numerals_by_value AreDigits tells_all_ascii_digits

digit_bounds : (b : ℕ) → parts.is_digit b ≡ true → (48 ≤ b) × (b ≤ 57)
digit_bounds b h = let p = and_parts (leb 48 b) (leb b 57) h in (leb-true 48 b p.0, leb-true b 57 p.1)

value_of_digit : (b : ℕ) → 48 ≤ b → b ≤ 57 → digit_value b ≡ b - 48
value_of_digit b l h = grind arith

pub digit_is_solid : (b : ℕ) → parts.is_digit b ≡ true → is_solid b ≡ true
digit_is_solid b h =
    let d = digit_bounds b h in
    and_from (leb 33 b) (leb b 126) (le-leb 33 b (omega (arith, d.0))) (le-leb b 126 (omega (arith, d.1)))

-- digits are solid
pub digits_rest : (w : List ℕ) → AreDigits w → is_rest plain w ≡ true
digits_rest [] h = refl
digits_rest (b ∷ w) h =
    let p = and_parts (parts.is_digit b) (all_ascii_digits w) h in
    and_from (is_solid b) (is_rest plain w) (digit_is_solid b p.0) (digits_rest w p.1)

-- digits and what is solid behind them can stand behind a call's name
pub digits_argument : (w rest : List ℕ) → AreDigits w → 0 < length w → is_rest plain rest ≡ true
    → is_argument (w ++ rest) ≡ true
digits_argument [] rest h some more = absurd (omega (arith, some))
digits_argument (b ∷ w) rest h some more =
    let p = and_parts (parts.is_digit b) (all_ascii_digits w) h in
    let d = digit_bounds b p.0 in
    argument_from b (w ++ rest) (digit_is_solid b p.0) (ne_eqb b 61 (λ e. omega (arith, e, d.1)))
    (ne_eqb b 34 (λ e. omega (arith, e, d.0))) (rest_append w rest (digits_rest w p.1) more)

-- digits can stand behind a call's name
pub digit_word : (w : List ℕ) → AreDigits w → 0 < length w → is_argument w ≡ true
digit_word w h some = subst (λ x. is_argument x ≡ true) (append-nil w) (digits_argument w [] h some refl)

abbrev AreOf : ℕ → List ℕ → ℕ → Type 0
AreOf value w n = AreDigits w × (n ≡ digits_value_after 10 value w)

digits_are : (limit value : ℕ) (w : List ℕ) → IfSome (digits limit value w) (AreOf value w)
unfolding digits
digits_are limit value [] = (refl, refl)
digits_are limit value (b ∷ w) =
    let next : ℕ = value * 10 + (b - 48) in
    if_cond (parts.is_digit b && leb next limit) (digits limit next w) None (AreOf value (b ∷ w))
    (λ t. let p = and_parts (parts.is_digit b) (leb next limit) t in
    let d = digit_bounds b p.0 in
    let same : next ≡ value * 10 + digit_value b =
    ap (λ (k : ℕ). value * 10 + k) (sym (value_of_digit b d.0 d.1)) in
    if_weaker (digits limit next w) (AreOf next w) (AreOf value (b ∷ w)) (digits_are limit next w)
    (λ n h. (
      and_from (parts.is_digit b) (all_ascii_digits w) p.0 h.0,
      h.1 ∙ ap (λ (k : ℕ). digits_value_after 10 k w) same,
    )))
    (λ _. tt)

record IsNumeralOf (w : List ℕ) (n : ℕ) : Type 0 where
  digits : AreDigits w
  value : n ≡ digits_value 10 w
  some : 0 < length w
  lead : get_or w 0 0 ≡ 48 → length w ≡ 1

number_is : (limit : ℕ) (w : List ℕ) → IfSome (number limit w) (IsNumeralOf w)
unfolding number
number_is limit [] = tt
number_is limit (b ∷ []) =
    if_weaker (digits limit 0 (b ∷ [])) (AreOf 0 (b ∷ [])) (IsNumeralOf (b ∷ [])) (digits_are limit 0 (b ∷ []))
    (λ n h. record { digits = h.0; value = h.1; some = omega arith; lead = λ _. refl })
number_is limit (b ∷ c ∷ w) =
    if_cond (eqb b 48) None (digits limit 0 (b ∷ c ∷ w)) (IsNumeralOf (b ∷ c ∷ w)) (λ _. tt)
    (λ t. if_weaker (digits limit 0 (b ∷ c ∷ w)) (AreOf 0 (b ∷ c ∷ w)) (IsNumeralOf (b ∷ c ∷ w))
    (digits_are limit 0 (b ∷ c ∷ w))
    (λ n h. record {
      digits = h.0;
      value = h.1;
      some = omega arith;
      lead = λ e. absurd (eqb-false b 48 t e);
    }))

-- a number's word is its decimal digits
pub number_spelt : (limit : ℕ) (w : List ℕ) → limit ≤ 4294967295 → IfSome (number limit w) (λ n. Spelt w (decimal n))
number_spelt limit w bound =
    if_weaker (number limit w) (λ n. IsNumeralOf w n × (n ≤ limit)) (λ n. Spelt w (decimal n))
    (if_both (number limit w) (IsNumeralOf w) (λ n. n ≤ limit) (number_is limit w) (number_small limit w))
    (λ n h. let k = h.0 in
    let same : decimal (digits_value 10 w) ≡ w =
    decimal-digits_value own w k.digits k.some k.lead (omega (arith, k.value, h.1, bound)) in
    spelt_from w (decimal n) (sym same ∙ ap decimal (sym k.value)) (digit_word w k.digits k.some))

value_grows : (v : ℕ) (ds : List ℕ) → v ≤ digits_value_after 10 v ds
value_grows v [] = omega arith
value_grows v (d ∷ ds) = omega (arith, value_grows (v * 10 + digit_value d) ds)

digits_again : (limit value : ℕ) (ds : List ℕ) → AreDigits ds → digits_value_after 10 value ds ≤ limit
    → digits limit value ds ≡ Some (digits_value_after 10 value ds)
unfolding digits
digits_again limit value [] h small = refl
digits_again limit value (b ∷ ds) h small =
    let p = and_parts (parts.is_digit b) (all_ascii_digits ds) h in
    let d = digit_bounds b p.0 in
    let next : ℕ = value * 10 + (b - 48) in
    let same : value * 10 + digit_value b ≡ next = ap (λ (k : ℕ). value * 10 + k) (value_of_digit b d.0 d.1) in
    let below : digits_value_after 10 next ds ≤ limit = rw (← same) small in
    rw (p.0, le-leb next limit (omega (arith, below, value_grows next ds)), same)
    (digits_again limit next ds p.1 below)

number_from : (limit n : ℕ) (w : List ℕ) → AreDigits w → 0 < length w → digits_value 10 w ≡ n → n ≤ limit
    → (get_or w 0 0 ≡ 48 → length w ≡ 1) → number limit w ≡ Some n
unfolding number
number_from limit n [] h some value small lead = absurd (omega (arith, some))
number_from limit n (b ∷ []) h some value small lead =
    digits_again limit 0 (b ∷ []) h (omega (arith, value, small)) ∙ ap Some value
number_from limit n (b ∷ c ∷ w) h some value small lead =
    let two : length (b ∷ c ∷ w) ≡ suc (suc (length w)) = omega arith in
    rw (ne_eqb b 48 (λ e. omega (arith, lead e, two)))
    (digits_again limit 0 (b ∷ c ∷ w) h (omega (arith, value, small)) ∙ ap Some value)

lead_of : (n : ℕ) → n ≤ 4294967295 → get_or (decimal n) 0 0 ≡ 48 → length (decimal n) ≡ 1
lead_of zero small e = rw (decimal_digit 0 (omega arith)) refl
lead_of (suc n) small e = absurd (omega (arith, e, first_decimal (suc n) (omega arith) (omega (arith, small))))

-- a number's digits are read as it
pub number_again : (limit n : ℕ) → n ≤ limit → limit ≤ 4294967295 → number limit (decimal n) ≡ Some n
number_again limit n small bound =
    let h = decimal_is_IsNumeral n (omega (arith, small, bound)) in
    number_from limit n (decimal n) (own.from (decimal n) h.0.1) h.0.0 h.1 small
    (lead_of n (omega (arith, small, bound)))

-- the same of a number from 1 on
pub positive_spelt : (limit : ℕ) (w : List ℕ) → limit ≤ 4294967295
    → IfSome (positive limit w) (λ n. Spelt w (decimal n) × (1 ≤ n))
unfolding positive
positive_spelt limit w bound =
    if_bind (number limit w) (λ n. cond (eqb n 0) None (Some n)) (λ n. Spelt w (decimal n)) (λ n. Spelt w (decimal n)
    × (1 ≤ n)) (number_spelt limit w bound)
    (λ n h. if_cond (eqb n 0) None (Some n) (λ n. Spelt w (decimal n) × (1 ≤ n)) (λ _. tt)
    (λ t. (h, grind (arith, eqb-false n 0 t))))

-- a number's word is of digits
pub number_digits : (limit : ℕ) (w : List ℕ) → IfSome (number limit w) (λ n. AreDigits w × (0 < length w))
number_digits limit w =
    if_weaker (number limit w) (IsNumeralOf w) (λ n. AreDigits w × (0 < length w)) (number_is limit w)
    (λ n h. (h.digits, h.some))

positive_rest : (limit : ℕ) (w : List ℕ) → IfSome (positive limit w) (λ n. is_rest plain w ≡ true)
unfolding positive
positive_rest limit w =
    if_bind (number limit w) (λ n. cond (eqb n 0) None (Some n)) (IsNumeralOf w) (λ n. is_rest plain w ≡ true)
    (number_is limit w)
    (λ n h. if_cond (eqb n 0) None (Some n) (λ n. is_rest plain w ≡ true) (λ _. tt) (λ _. digits_rest w h.digits))

signed_from_rest : (limit : ℕ) (w : List ℕ) (o : Option (List ℕ)) → strip (codes "-") w ≡ o
    → IfSome (parts.signed_from limit o w) (λ z. is_rest plain w ≡ true)
signed_from_rest limit w None e =
    if_map (number limit w) pos (IsNumeralOf w) (λ z. is_rest plain w ≡ true) (number_is limit w)
    (λ n h. digits_rest w h.digits)
signed_from_rest limit w (Some d) e =
    if_map (positive limit d) (λ n. negsuc (n - 1)) (λ n. is_rest plain d ≡ true) (λ z. is_rest plain w ≡ true)
    (positive_rest limit d)
    (λ n h. subst (λ x. is_rest plain x ≡ true) (sym (strip_takes (codes "-") w d e)) h)

-- a signed number's word has no blank
pub signed_rest : (limit : ℕ) (w : List ℕ) → IfSome (signed limit w) (λ z. is_rest plain w ≡ true)
unfolding signed
signed_rest limit w = signed_from_rest limit w (strip (codes "-") w) refl

signed_from_spelt : (limit : ℕ) (w : List ℕ) (o : Option (List ℕ)) → limit ≤ 4294967295 → strip (codes "-") w ≡ o
    → IfSome (parts.signed_from limit o w) (λ z. Spelt w (signed_decimal z))
signed_from_spelt limit w None bound e =
    if_map (number limit w) pos (λ n. Spelt w (decimal n)) (λ z. Spelt w (signed_decimal z))
    (number_spelt limit w bound) (λ n h. h)
signed_from_spelt limit w (Some d) bound e =
    if_map (positive limit d) (λ n. negsuc (n - 1)) (λ n. (Spelt d (decimal n) × (1 ≤ n)) × (is_rest plain d ≡ true))
    (λ z. Spelt w (signed_decimal z))
    (if_both (positive limit d) (λ n. Spelt d (decimal n) × (1 ≤ n)) (λ n. is_rest plain d ≡ true)
    (positive_spelt limit d bound) (positive_rest limit d))
    (λ n h. let back : suc (n - 1) ≡ n = omega (arith, h.0.1) in
    let front : w ≡ 45 ∷ d = strip_takes (codes "-") w d e in
    let same : w ≡ 45 ∷ decimal (suc (n - 1)) =
    front ∙ ap (λ (x : List ℕ). 45 ∷ x) (h.0.0.same ∙ ap decimal (sym back)) in
    spelt_from w (45 ∷ decimal (suc (n - 1))) same
    (subst (λ x. is_argument x ≡ true) (sym front) (argument_from 45 d refl refl refl h.1)))

-- a signed number's word has a `-` where it is below zero, and the digits of its size
pub signed_spelt : (limit : ℕ) (w : List ℕ) → limit ≤ 4294967295
    → IfSome (signed limit w) (λ z. Spelt w (signed_decimal z))
unfolding signed
signed_spelt limit w bound = signed_from_spelt limit w (strip (codes "-") w) bound refl

-- ---- variables

pub record IsVariable (w : List ℕ) (v : ℕ) : Type 0 where
  pub same : w ≡ variable_text v
  pub rest : is_rest plain w ≡ true
  pub argument : is_argument w ≡ true

letter_bounds : (b : ℕ) → parts.is_lowercase b ≡ true → (97 ≤ b) × (b ≤ 122)
letter_bounds b h = let p = and_parts (leb 97 b) (leb b 122) h in (leb-true 97 b p.0, leb-true b 122 p.1)

letter_is_solid : (b : ℕ) → parts.is_lowercase b ≡ true → is_solid b ≡ true
letter_is_solid b h =
    let d = letter_bounds b h in
    and_from (leb 33 b) (leb b 126) (le-leb 33 b (omega (arith, d.0))) (le-leb b 126 (omega (arith, d.1)))

variable_from : (l : ℕ) (ds : List ℕ) (v : ℕ) → parts.is_lowercase l ≡ true → is_rest plain ds ≡ true
    → l ∷ ds ≡ variable_text v → IsVariable (l ∷ ds) v
variable_from l ds v h rest same =
    let d = letter_bounds l h in
    record {
      same = same;
      rest = and_from (is_solid l) (is_rest plain ds) (letter_is_solid l h) rest;
      argument = argument_from l ds (letter_is_solid l h) (ne_eqb l 61 (λ e. omega (arith, e, d.0)))
          (ne_eqb l 34 (λ e. omega (arith, e, d.0))) rest;
    }

one_letter : (l : ℕ) → parts.is_lowercase l ≡ true → l ∷ [] ≡ variable_text (parts.letter_index l)
unfolding variable_text
one_letter l h =
    let d = letter_bounds l h in
    let v : ℕ = 111 * (l - 97) in
    let high : v / 111 ≡ l - 97 = omega arith in
    let low : v % 111 ≡ 0 = omega arith in
    let back : 97 + (l - 97) ≡ l = omega (arith, d.0) in
    rw (high, low, back) refl

one_digit : (l d : ℕ) → parts.is_lowercase l ≡ true → parts.is_digit d ≡ true
    → l ∷ d ∷ [] ≡ variable_text (parts.letter_index l + (1 + (d - 48)))
unfolding variable_text
one_digit l d h k =
    let a = letter_bounds l h in
    let b = digit_bounds d k in
    let v : ℕ = 111 * (l - 97) + (1 + (d - 48)) in
    let high : v / 111 ≡ l - 97 = omega (arith, b.1) in
    let low : v % 111 ≡ 1 + (d - 48) = omega (arith, b.1) in
    let back : 97 + (l - 97) ≡ l = omega (arith, a.0) in
    let some : eqb (1 + (d - 48)) 0 ≡ false = ne_eqb (1 + (d - 48)) 0 (λ e. omega (arith, e)) in
    let few : leb (suc (1 + (d - 48))) 11 ≡ true = le-leb (suc (1 + (d - 48))) 11 (omega (arith, b.1)) in
    let digit : 48 + (1 + (d - 48) - 1) ≡ d = omega (arith, b.0) in
    rw (high, low, back, some, few, digit) refl

two_digits : (l d e : ℕ) → parts.is_lowercase l ≡ true → parts.is_digit d ≡ true → parts.is_digit e ≡ true
    → l ∷ d ∷ e ∷ [] ≡ variable_text (parts.letter_index l + (11 + (10 * (d - 48) + (e - 48))))
unfolding variable_text
two_digits l d e h k j =
    let a = letter_bounds l h in
    let b = digit_bounds d k in
    let c = digit_bounds e j in
    let low_part : ℕ = 11 + (10 * (d - 48) + (e - 48)) in
    let v : ℕ = 111 * (l - 97) + low_part in
    let high : v / 111 ≡ l - 97 = omega (arith, b.1, c.1) in
    let low : v % 111 ≡ low_part = omega (arith, b.1, c.1) in
    let back : 97 + (l - 97) ≡ l = omega (arith, a.0) in
    let some : eqb low_part 0 ≡ false = ne_eqb low_part 0 (λ e. omega (arith, e)) in
    let few : leb (suc low_part) 11 ≡ false = grind arith in
    let first : 48 + (low_part - 11) / 10 ≡ d = omega (arith, b.0, c.1) in
    let second : 48 + (low_part - 11) % 10 ≡ e = omega (arith, c.0, c.1) in
    rw (high, low, back, some, few, first, second) refl

-- a variable's word is its name
pub variable_spelt : (w : List ℕ) → IfSome (variable w) (IsVariable w)
unfolding variable
variable_spelt [] = tt
variable_spelt (l ∷ []) =
    if_cond (parts.is_lowercase l) (Some (parts.letter_index l)) None (IsVariable (l ∷ []))
    (λ t. variable_from l [] (parts.letter_index l) t refl (one_letter l t)) (λ _. tt)
variable_spelt (l ∷ d ∷ []) =
    if_cond (parts.is_lowercase l && parts.is_digit d) (Some (parts.letter_index l + (1 + (d - 48)))) None
    (IsVariable (l ∷ d ∷ []))
    (λ t. let p = and_parts (parts.is_lowercase l) (parts.is_digit d) t in
    variable_from l (d ∷ []) (parts.letter_index l + (1 + (d - 48))) p.0
    (and_from (is_solid d) true (digit_is_solid d p.1) refl) (one_digit l d p.0 p.1)) (λ _. tt)
variable_spelt (l ∷ d ∷ e ∷ []) =
    if_cond (parts.is_lowercase l && (parts.is_digit d && parts.is_digit e))
    (Some (parts.letter_index l + (11 + (10 * (d - 48) + (e - 48))))) None (IsVariable (l ∷ d ∷ e ∷ []))
    (λ t. let p = and_parts (parts.is_lowercase l) (parts.is_digit d && parts.is_digit e) t in
    let q = and_parts (parts.is_digit d) (parts.is_digit e) p.1 in
    variable_from l (d ∷ e ∷ []) (parts.letter_index l + (11 + (10 * (d - 48) + (e - 48)))) p.0
    (and_from (is_solid d) (is_solid e && true) (digit_is_solid d q.0)
    (and_from (is_solid e) true (digit_is_solid e q.1) refl)) (two_digits l d e p.0 q.0 q.1)) (λ _. tt)
variable_spelt (l ∷ d ∷ e ∷ f ∷ w) = tt

-- ---- objects

-- the word is that of this variable or number
abbrev pub IsObjectOf : List ℕ → Option ℕ × ℕ → Type 0
IsObjectOf w o = Spelt w (object_text o.0 o.1)

dollar : (w name : List ℕ) (v : ℕ) → strip (codes "$") w ≡ Some name → IsVariable name v
    → Spelt w (36 ∷ variable_text v)
dollar w name v e h =
    let front : w ≡ 36 ∷ name = strip_takes (codes "$") w name e in
    spelt_from w (36 ∷ variable_text v) (front ∙ ap (λ (x : List ℕ). 36 ∷ x) h.same)
    (subst (λ x. is_argument x ≡ true) (sym front) (argument_from 36 name refl refl refl h.rest))

identifier_from_spelt : (w : List ℕ) (o : Option (List ℕ)) → strip (codes "$") w ≡ o
    → IfSome (forms.identifier_from o w) (IsObjectOf w)
identifier_from_spelt w (Some name) e =
    if_map (variable name) forms.variable_object (IsVariable name) (IsObjectOf w) (variable_spelt name)
    (λ v h. dollar w name v e h)
identifier_from_spelt w None e =
    if_map (number 4294967295 w) forms.number_object (λ n. Spelt w (decimal n)) (IsObjectOf w)
    (number_spelt 4294967295 w (omega arith)) (λ n h. h)

-- an identifier's word is a variable or a number
pub identifier_spelt : (w : List ℕ) → IfSome (identifier w) (IsObjectOf w)
unfolding identifier
identifier_spelt w = identifier_from_spelt w (strip (codes "$") w) refl

process_from_spelt : (w : List ℕ) (o : Option (List ℕ)) → strip (codes "$") w ≡ o
    → IfSome (forms.process_from o w) (IsObjectOf w)
process_from_spelt w (Some name) e =
    if_map (variable name) forms.variable_object (IsVariable name) (IsObjectOf w) (variable_spelt name)
    (λ v h. dollar w name v e h)
process_from_spelt w None e =
    if_map (positive 4294967295 w) forms.number_object (λ n. Spelt w (decimal n) × (1 ≤ n)) (IsObjectOf w)
    (positive_spelt 4294967295 w (omega arith)) (λ n h. h.0)

-- a process's word is a variable or a number
pub process_spelt : (w : List ℕ) → IfSome (process w) (IsObjectOf w)
unfolding process
process_spelt w = process_from_spelt w (strip (codes "$") w) refl
