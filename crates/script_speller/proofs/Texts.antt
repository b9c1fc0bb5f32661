-- Messages' texts: the shorter spelling is read as the text that a word is of, and is no longer than the word.
use Rattle.std.proofs.Common.{◌≡◌, inl, inr, ℕ, zero, suc, ◌+◌, ◌-◌, ◌*◌, ◌/◌, ◌%◌, ◌≤◌, Bool, true, false, ◌&&◌, ◌||◌, not, cond, eqb, leb, List, [], ◌∷◌, ◌++◌, length, replicate, Option, Some, None, refl, sym, ap, subst, ◌∙◌, append_assoc, arith}
use Rattle.std.specs.Prelude.{IfSome, codes}
use Rattle.std.specs.Fmt.{decimal}
use Rattle.std.specs.List.{flat_map, list_all}
use Rattle.std.proofs.lemmas.Bool.{and_parts, and_from, leb-true, le-leb, lt-ltb, le-ltb, eqb-true, eq-eqb, ne_eqb, cases_lt}
use Rattle.std.specs.Str.{all_ascii_digits}
use Rattle.std.proofs.lemmas.Fmt.{decimal_nonempty, length-decimal-le}
use Rattle.std.proofs.lemmas.List.{length-append, length-replicate}
use Rattle.pico_base.specs.Options.{◌>>=◌}
use Rattle.kernel_model.specs.Numbers.{is_byte}
use Rattle.kernel_model.specs.Texts.{is_letter_or_digit, is_plain, hex_digit, escape, quoted_text, is_one_letter, repeated_text}
use Rattle.script_reader.specs.Words.Stretch.{plain, quoted}
use Rattle.quoted_bytes.specs.Bytes.{text_byte_at}
use Rattle.quoted_bytes.proofs.Bytes.{byte_again}
use Rattle.script_reader.specs.Parts as parts
use Rattle.script_reader.specs.Parts.{number, cut, letter, counted, repetition, closed_at, with_byte, quoted_at, text, text_from}
use Rattle.script_reader.proofs.Ranges.{if_bind, if_map, if_cond, number_small}
use Rattle.quoted_bytes.proofs.Strips.{strip_takes, strip_again, no_repetition}
use Rattle.quoted_bytes.specs.Front.{strip}
use Rattle.script_reader.proofs.Widths.{if_both, IsShort, quoted_short}
use Rattle.text_fields.proofs.Numerals.{AreDigits, decimal-digits}
use Rattle.script_speller.specs.Spelling.{message_word}
use Rattle.script_speller.proofs.Separated.{is_rest, is_printable, is_solid}
use Rattle.script_speller.proofs.Numbers.{Spelt, is_argument, if_weaker, number_spelt, number_again, digits_rest, rest_append}
use Rattle.script_speller.proofs.Names.{cut_spelt, cut_again}

-- ---- bytes between quotes

abbrev pub AreBytes : List ℕ → Type 0
AreBytes t = list_all is_byte t ≡ true

byte_parts : (b : ℕ) (t : List ℕ) → AreBytes (b ∷ t) → (b ≤ 255) × AreBytes t
byte_parts b t h = let p = and_parts (leb b 255) (list_all is_byte t) h in (leb-true b 255 p.0, p.1)

closes : (n : ℕ) → quoted_at n (34 ∷ []) ≡ Some []
unfolding quoted_at text_byte_at
closes zero = refl
closes (suc n) = refl

quoted_again : (t : List ℕ) (n : ℕ) → AreBytes t → length t ≤ n
    → quoted_at n (flat_map escape t ++ 34 ∷ []) ≡ Some t
unfolding quoted_at
quoted_again [] n h room = closes n
quoted_again (b ∷ t) zero h room = absurd (omega (arith, room))
quoted_again (b ∷ t) (suc n) h room =
    let p = byte_parts b t h in
    let more : List ℕ = flat_map escape t ++ 34 ∷ [] in
    let front : (escape b ++ flat_map escape t) ++ 34 ∷ [] ≡ escape b ++ more =
    append_assoc (escape b) (flat_map escape t) (34 ∷ []) in
    rw (front, byte_again b more p.0, quoted_again t n p.1 (omega (arith, room))) refl

escape_some : (b : ℕ) → 1 ≤ length (escape b)
escape_some b = of (is_plain b)
  where
    of : (c : Bool) → 1 ≤ length (cond c (b ∷ []) (codes "\\x" ++ hex_digit (b / 16) ∷ hex_digit (b % 16) ∷ []))
    of true = omega arith
    of false = omega arith

escapes_length : (t : List ℕ) → length t ≤ length (flat_map escape t)
escapes_length [] = omega arith
escapes_length (b ∷ t) =
    omega (arith, length-append (escape b) (flat_map escape t), escape_some b, escapes_length t)

-- a text between quotes is read
quotes_again : (t : List ℕ) → AreBytes t → text (quoted_text t) ≡ Some t
unfolding text
quotes_again t h =
    let body : List ℕ = flat_map escape t ++ 34 ∷ [] in
    let room : length t ≤ length body =
    omega (arith, length-append (flat_map escape t) (34 ∷ []), escapes_length t) in
    rw (no_repetition body, strip_again (codes "\"") body) (quoted_again t (length body) h room)

-- ---- a letter or digit, so many times

pub same_bytes : (b : ℕ) (bs : List ℕ) → list_all (eqb b) bs ≡ true → bs ≡ replicate (length bs) b
same_bytes b [] h = refl
same_bytes b (c ∷ bs) h =
    let p = and_parts (eqb b c) (list_all (eqb b) bs) h in
    rw (← eqb-true b c p.0) (ap (λ (xs : List ℕ). b ∷ xs) (same_bytes b bs p.1))

letter_from : (b : ℕ) → is_letter_or_digit b ≡ true → parts.is_alphanumeric b ≡ true
letter_from b h = grind (arith, h)

from_letter : (b : ℕ) → parts.is_alphanumeric b ≡ true → is_letter_or_digit b ≡ true
from_letter b h = grind (arith, h)

colon_free : (w : List ℕ) → AreDigits w → list_all (λ b. not (eqb b 58)) w ≡ true
colon_free [] h = refl
colon_free (b ∷ w) h =
    let p = and_parts (parts.is_digit b) (all_ascii_digits w) h in
    let high : b ≤ 57 = leb-true b 57 (and_parts (leb 48 b) (leb b 57) p.0).1 in
    rw (ne_eqb b 58 (λ e. omega (arith, e, high))) (colon_free w p.1)

repetition_again : (n b : ℕ) → n ≤ 8192 → parts.is_alphanumeric b ≡ true
    → repetition (decimal n ++ 58 ∷ b ∷ []) ≡ Some (replicate n b)
unfolding repetition counted letter
repetition_again n b small h =
    rw (
      cut_again 58 (decimal n) (b ∷ []) (colon_free (decimal n) (decimal-digits n (omega (arith, small)))),
      number_again 8192 n small (omega arith),
      h,
    ) refl

one_letter_parts : (b : ℕ) (bs : List ℕ) → is_one_letter (b ∷ bs) ≡ true → (is_letter_or_digit b ≡ true)
    × (b ∷ bs ≡ replicate (suc (length bs)) b)
one_letter_parts b bs h =
    let p = and_parts (is_letter_or_digit b) (list_all (eqb b) bs) h in
    (p.0, ap (λ (xs : List ℕ). b ∷ xs) (same_bytes b bs p.1))

-- a text that repeats a letter or digit is read
repeats_again : (t : List ℕ) → is_one_letter t ≡ true → length t ≤ 8192 → text (repeated_text t) ≡ Some t
unfolding text
repeats_again [] h small = absurd cc
repeats_again (b ∷ bs) h small =
    let p = one_letter_parts b bs h in
    let count : length (b ∷ bs) ≡ suc (length bs) = omega arith in
    rw (
      strip_again (codes "rep:") (decimal (length (b ∷ bs)) ++ 58 ∷ b ∷ []),
      repetition_again (length (b ∷ bs)) b small (letter_from b p.0),
    ) (ap Some (ap (λ (n : ℕ). replicate n b) count ∙ sym p.1))

-- ---- the shorter of the two

abbrev is_counted : List ℕ → Bool
is_counted t = is_one_letter t && leb 6 (length t)

message_again : (t : List ℕ) → AreBytes t → length t ≤ 8192 → text (message_word t) ≡ Some t
unfolding message_word
message_again t h small = of (is_counted t) refl
  where
    of : (c : Bool) → is_counted t ≡ c → text (cond c (repeated_text t) (quoted_text t)) ≡ Some t
    of true e = repeats_again t (and_parts (is_one_letter t) (leb 6 (length t)) e).0 small
    of false e = quotes_again t h

hex_printable : (n : ℕ) → n ≤ 15 → (is_printable (hex_digit n) ≡ true) × (eqb (hex_digit n) 34 ≡ false)
hex_printable n small =
    elim (cases_lt n 10) [
      | inl lt ↦
          rw (lt-ltb n 10 lt) (
            and_from (leb 32 (48 + n)) (leb (48 + n) 126) (le-leb 32 (48 + n) (omega arith))
                (le-leb (48 + n) 126 (omega (arith, lt))),
            ne_eqb (48 + n) 34 (λ e. omega (arith, e)),
          )
      | inr ge ↦
          rw (le-ltb n 10 ge) (
            and_from (leb 32 (87 + n)) (leb (87 + n) 126) (le-leb 32 (87 + n) (omega arith))
                (le-leb (87 + n) 126 (omega (arith, small))),
            ne_eqb (87 + n) 34 (λ e. omega (arith, e)),
          )
    ]

plain_parts : (b : ℕ) → is_plain b ≡ true → (is_printable b ≡ true) × (eqb b 34 ≡ false)
plain_parts b h =
    let p = and_parts (leb 32 b && leb b 126) (not (eqb b 34 || eqb b 92)) h in
    (p.0, neither (eqb b 34) (eqb b 92) p.1)
  where
    neither : (x y : Bool) → not (x || y) ≡ true → x ≡ false
    neither false y e = refl
    neither true y e = absurd cc

escape_quoted : (b : ℕ) (rest : List ℕ) → b ≤ 255 → is_rest quoted rest ≡ true
    → is_rest quoted (escape b ++ rest) ≡ true
escape_quoted b rest small h = of (is_plain b) refl
  where
    of : (c : Bool) → is_plain b ≡ c
        → is_rest quoted (cond c (b ∷ []) (codes "\\x" ++ hex_digit (b / 16) ∷ hex_digit (b % 16) ∷ []) ++ rest)
        ≡ true
    of true e = let p = plain_parts b e in rw (p.0, p.1) h
    of false e =
        let high = hex_printable (b / 16) (omega (arith, small)) in
        let low = hex_printable (b % 16) (omega arith) in
        rw (high.0, high.1, low.0, low.1) h

escapes_quoted : (t : List ℕ) → AreBytes t → is_rest quoted (flat_map escape t ++ 34 ∷ []) ≡ true
escapes_quoted [] h = refl
escapes_quoted (b ∷ t) h =
    let p = byte_parts b t h in
    subst (λ x. is_rest quoted x ≡ true) (sym (append_assoc (escape b) (flat_map escape t) (34 ∷ [])))
    (escape_quoted b (flat_map escape t ++ 34 ∷ []) p.0 (escapes_quoted t p.1))

letter_solid : (b : ℕ) → is_letter_or_digit b ≡ true → is_solid b ≡ true
letter_solid b h = grind (arith, h)

repeated_rest : (n b : ℕ) → n ≤ 8192 → is_solid b ≡ true → is_rest plain (decimal n ++ 58 ∷ b ∷ []) ≡ true
repeated_rest n b small h =
    rest_append (decimal n) (58 ∷ b ∷ []) (digits_rest (decimal n) (decimal-digits n (omega (arith, small))))
    (rw h refl)

repeated_word : (t : List ℕ) → is_one_letter t ≡ true → length t ≤ 8192 → is_argument (repeated_text t) ≡ true
repeated_word [] h small = absurd cc
repeated_word (b ∷ bs) h small =
    repeated_rest (length (b ∷ bs)) b small (letter_solid b (one_letter_parts b bs h).0)

message_is_word : (t : List ℕ) → AreBytes t → length t ≤ 8192 → is_argument (message_word t) ≡ true
unfolding message_word
message_is_word t h small = of (is_counted t) refl
  where
    of : (c : Bool) → is_counted t ≡ c → is_argument (cond c (repeated_text t) (quoted_text t)) ≡ true
    of true e = repeated_word t (and_parts (is_one_letter t) (leb 6 (length t)) e).0 small
    of false e = escapes_quoted t h

-- ---- lengths

repeated_length : (t : List ℕ) → is_one_letter t ≡ true → length (repeated_text t) ≡ 6 + length (decimal (length t))
repeated_length [] h = absurd cc
repeated_length (b ∷ bs) h =
    omega (arith, length-append (decimal (length (b ∷ bs))) (58 ∷ b ∷ []))

quoted_length : (t : List ℕ) → length (quoted_text t) ≡ length (flat_map escape t) + 2
quoted_length t = omega (arith, length-append (flat_map escape t) (34 ∷ []))

few_digits : (n : ℕ) → 6 ≤ n → n ≤ 8192 → length (decimal n) + 4 ≤ n
few_digits n some small =
    elim (cases_lt n 10) [
      | inl lt ↦ omega (arith, some, length-decimal-le 1 n (omega arith) (omega (arith, lt)) (omega (arith, small)))
      | inr ge ↦ omega (arith, ge, length-decimal-le 4 n (omega arith) (omega (arith, small)) (omega (arith, small)))
    ]

-- what is known of the text of a word
record Told (w t : List ℕ) : Type 0 where
  bytes : AreBytes t
  few : length t ≤ 8192
  repeated : is_counted t ≡ true → length (repeated_text t) ≤ length w
  quoted : is_counted t ≡ false → length (quoted_text t) ≤ length w

pub record MessageOf (w t : List ℕ) : Type 0 where
  pub again : text (message_word t) ≡ Some t
  pub short : length (message_word t) ≤ length w
  pub argument : is_argument (message_word t) ≡ true

told_short : (w t : List ℕ) → Told w t → length (message_word t) ≤ length w
unfolding message_word
told_short w t h = of (is_counted t) refl
  where
    of : (c : Bool) → is_counted t ≡ c → length (cond c (repeated_text t) (quoted_text t)) ≤ length w
    of true e = h.repeated e
    of false e = h.quoted e

message_of : (w t : List ℕ) → Told w t → MessageOf w t
message_of w t h =
    record {
      again = message_again t h.bytes h.few;
      short = told_short w t h;
      argument = message_is_word t h.bytes h.few;
    }

-- ---- from a text between quotes

told_quoted : (w rest t : List ℕ) → length w ≤ 4096 → length rest + 1 ≤ length w → AreBytes t
    → length (flat_map escape t) + 1 ≤ length rest → Told w t
told_quoted w rest t room front bytes short =
    let whole : length (quoted_text t) ≤ length w = omega (arith, quoted_length t, front, short) in
    let few : length t ≤ 4096 = omega (arith, escapes_length t, short, front, room) in
    record {
      bytes = bytes;
      few = omega (arith, few);
      repeated = λ e.
          let p = and_parts (is_one_letter t) (leb 6 (length t)) e in
          omega (
            arith,
            repeated_length t p.0,
            few_digits (length t) (leb-true 6 (length t) p.1) (omega (arith, few)),
            escapes_length t,
            short,
            front,
          );
      quoted = λ e. whole;
    }

-- ---- from `rep:N:C`

plain_letter : (c : ℕ) → is_letter_or_digit c ≡ true → escape c ≡ c ∷ []
plain_letter c h = let is : is_plain c ≡ true = grind (arith, h) in rw is refl

replicate_quoted : (n c : ℕ) → is_letter_or_digit c ≡ true → length (flat_map escape (replicate n c)) ≡ n
replicate_quoted zero c h = refl
replicate_quoted (suc n) c h = rw (plain_letter c h) (omega (arith, replicate_quoted n c h))

replicate_bytes : (n c : ℕ) → c ≤ 255 → AreBytes (replicate n c)
replicate_bytes zero c h = refl
replicate_bytes (suc n) c h =
    and_from (leb c 255) (list_all is_byte (replicate n c)) (le-leb c 255 h) (replicate_bytes n c h)

replicate_one : (n c : ℕ) → is_letter_or_digit c ≡ true → 1 ≤ n → is_one_letter (replicate n c) ≡ true
replicate_one zero c h some = absurd (omega (arith, some))
replicate_one (suc n) c h some = and_from (is_letter_or_digit c) (list_all (eqb c) (replicate n c)) h (all n)
  where
    all : (k : ℕ) → list_all (eqb c) (replicate k c) ≡ true
    all zero = refl
    all (suc k) = and_from (eqb c c) (list_all (eqb c) (replicate k c)) (eq-eqb c c refl) (all k)

letter_byte : (c : ℕ) → is_letter_or_digit c ≡ true → c ≤ 255
letter_byte c h = omega (arith, leb-true c 126 (and_parts (leb 33 c) (leb c 126) (letter_solid c h)).1)

few_repeated : (n c : ℕ) → is_letter_or_digit c ≡ true → is_counted (replicate n c) ≡ false → n ≤ 5
few_repeated n c h e =
    elim (cases_lt n 6) [
      | inl lt ↦ omega (arith, lt)
      | inr ge ↦
          let yes : is_counted (replicate n c) ≡ true =
          and_from (is_one_letter (replicate n c)) (leb 6 (length (replicate n c)))
          (replicate_one n c h (omega (arith, ge)))
          (le-leb 6 (length (replicate n c)) (omega (arith, ge, length-replicate n c))) in
          let wrong : true ≡ false = sym yes ∙ e in
          absurd cc
    ]

told_repeated : (w : List ℕ) (n c : ℕ) → length w ≡ 6 + length (decimal n) → n ≤ 8192 → is_letter_or_digit c ≡ true
    → Told w (replicate n c)
told_repeated w n c whole small h =
    let t : List ℕ = replicate n c in
    let count : length t ≡ n = length-replicate n c in
    record {
      bytes = replicate_bytes n c (letter_byte c h);
      few = omega (arith, count, small);
      repeated = λ e.
          let p = and_parts (is_one_letter t) (leb 6 (length t)) e in
          omega (arith, repeated_length t p.0, ap (λ (k : ℕ). length (decimal k)) count, whole);
      quoted = λ e.
          omega (
            arith,
            quoted_length t,
            replicate_quoted n c h,
            few_repeated n c h e,
            decimal_nonempty n (omega (arith, small)),
            whole,
          );
    }

-- ---- a text's word

letter_is : (w : List ℕ) → IfSome (letter w) (λ c. (w ≡ c ∷ []) × (is_letter_or_digit c ≡ true))
unfolding letter
letter_is [] = tt
letter_is (b ∷ []) =
    if_cond (parts.is_alphanumeric b) (Some b) None (λ c. (b ∷ [] ≡ c ∷ []) × (is_letter_or_digit c ≡ true))
    (λ t. (refl, from_letter b t)) (λ _. tt)
letter_is (b ∷ c ∷ w) = tt

abbrev IsCount : List ℕ → ℕ × ℕ → Type 0
IsCount w c = (w ≡ decimal c.0 ++ 58 ∷ c.1 ∷ []) × (c.0 ≤ 8192) × (is_letter_or_digit c.1 ≡ true)

counted_is : (w : List ℕ) → IfSome (counted w) (IsCount w)
unfolding counted
counted_is w =
    if_bind (cut 58 w) (λ p. number 8192 p.0 >>= λ count. letter p.1 >>= λ byte. Some (count, byte))
    (λ p. w ≡ p.0 ++ 58 ∷ p.1) (IsCount w) (cut_spelt 58 w)
    (λ p split. if_bind (number 8192 p.0) (λ count. letter p.1 >>= λ byte. Some (count, byte))
    (λ n. Spelt p.0 (decimal n) × (n ≤ 8192)) (IsCount w)
    (if_both (number 8192 p.0) (λ n. Spelt p.0 (decimal n)) (λ n. n ≤ 8192) (number_spelt 8192 p.0 (omega arith))
    (number_small 8192 p.0))
    (λ count h. if_bind (letter p.1) (λ byte. Some (count, byte)) (λ c. (p.1 ≡ c ∷ [])
    × (is_letter_or_digit c ≡ true)) (IsCount w) (letter_is p.1)
    (λ byte k. (
      split ∙ ap (λ (x : List ℕ). p.0 ++ 58 ∷ x) k.0
          ∙ ap (λ (x : List ℕ). x ++ 58 ∷ byte ∷ []) h.0.same,
      h.1,
      k.1,
    ))))

text_from_told : (w : List ℕ) (o q : Option (List ℕ)) → length w ≤ 4096 → strip (codes "rep:") w ≡ o
    → strip (codes "\"") w ≡ q → IfSome (text_from o q) (Told w)
unfolding repetition
text_from_told w (Some rest) q room e f =
    if_map (counted rest) (λ (c : ℕ × ℕ). replicate c.0 c.1) (IsCount rest) (Told w) (counted_is rest)
    (λ c h. told_repeated w c.0 c.1
    (omega (
      arith,
      ap length (strip_takes (codes "rep:") w rest e),
      ap length h.0,
      length-append (decimal c.0) (58 ∷ c.1 ∷ []),
    )) h.1 h.2)
text_from_told w None None room e f = tt
text_from_told w None (Some rest) room e f =
    if_weaker (quoted_at (length rest) rest) (IsShort rest) (Told w) (quoted_short (length rest) rest)
    (λ t h. told_quoted w rest t room
    (omega (arith, ap length (strip_takes (codes "\"") w rest f))) h.0 h.1)

-- the text of a word of at most 4,096 bytes is read from its spelling, which is no longer
pub message_spelt : (w : List ℕ) → length w ≤ 4096 → IfSome (text w) (MessageOf w)
unfolding text
message_spelt w room =
    if_weaker (text_from (strip (codes "rep:") w) (strip (codes "\"") w)) (Told w) (MessageOf w)
    (text_from_told w (strip (codes "rep:") w) (strip (codes "\"") w) room refl refl) (λ t h. message_of w t h)
