-- Each byte's spelling between quotes is read as that byte, with what follows it.
use Rattle.std.proofs.Common.{◌≡◌, inl, inr, ℕ, ◌+◌, ◌-◌, ◌*◌, ◌/◌, ◌%◌, ◌≤◌, Bool, true, false, leb, List, ◌∷◌, ◌++◌, Some, None, refl, arith}
use Rattle.std.proofs.lemmas.Bool.{and_from, le-leb, lt-ltb, le-ltb, cases_lt}
use Rattle.kernel_model.specs.Numbers.{is_between}
use Rattle.kernel_model.specs.Texts.{hex_digit, is_plain, escape}
use Rattle.quoted_bytes.specs.Bytes.{hex_at, escape_at, text_byte_at}

is_no_digit : (b : ℕ) → 58 ≤ b → is_between 48 57 b ≡ false
is_no_digit b high = grind arith

within : (low high b : ℕ) → low ≤ b → b ≤ high → is_between low high b ≡ true
within low high b from to = and_from (leb low b) (leb b high) (le-leb low b from) (le-leb b high to)

hex_again : (n : ℕ) → n ≤ 15 → hex_at (hex_digit n) ≡ Some n
unfolding hex_at
hex_again n small =
    elim (cases_lt n 10) [
      | inl lt ↦
          let test = within 48 57 (48 + n) (omega arith) (omega (arith, lt)) in
          let back : 48 + n - 48 ≡ n = omega arith in
          rw (lt-ltb n 10 lt, test, back) refl
      | inr ge ↦
          let test = within 97 102 (87 + n) (omega (arith, ge)) (omega (arith, small)) in
          let back : 87 + n - 87 ≡ n = omega arith in
          rw (le-ltb n 10 ge, is_no_digit (87 + n) (omega (arith, ge)), test, back) refl
    ]

escape_again : (b : ℕ) (rest : List ℕ) → b ≤ 255
    → text_byte_at (92 ∷ 120 ∷ hex_digit (b / 16) ∷ hex_digit (b % 16) ∷ rest) ≡ Some (b, rest)
unfolding text_byte_at escape_at
escape_again b rest small =
    let whole : 16 * (b / 16) + b % 16 ≡ b = omega arith in
    rw (hex_again (b / 16) (omega arith), hex_again (b % 16) (omega arith), whole) refl

-- a plain byte isn't a backslash, and is read as itself
pub plain_again : (b : ℕ) (rest : List ℕ) → is_plain b ≡ true → text_byte_at (b ∷ rest) ≡ Some (b, rest)
unfolding text_byte_at
plain_again b rest plain = grind arith

-- a byte is read from its spelling
pub byte_again : (b : ℕ) (rest : List ℕ) → b ≤ 255 → text_byte_at (escape b ++ rest) ≡ Some (b, rest)
byte_again b rest small = of (is_plain b) refl
  where
    of : (c : Bool) → is_plain b ≡ c → text_byte_at (escape b ++ rest) ≡ Some (b, rest)
    of true e = rw e (plain_again b rest e)
    of false e = rw e (escape_again b rest small)

-- a text ends at a quote
pub quote_ends : (rest : List ℕ) → text_byte_at (34 ∷ rest) ≡ None
unfolding text_byte_at
quote_ends rest = refl
