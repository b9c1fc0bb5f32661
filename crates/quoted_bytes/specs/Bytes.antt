-- A byte of a message's text between quotes, read from the front. It comes with what follows it.
use Rattle.std.specs.Prelude.{◌≡◌, refl, ℕ, ◌+◌, ◌-◌, ◌*◌, ◌==◌, List, [], ◌∷◌, if◌then◌else◌, codes, Option, Some, None}
use Rattle.pico_base.specs.Options.{◌>>=◌}
use Rattle.kernel_model.specs.Numbers.{is_between}
use Rattle.kernel_model.specs.Texts.{is_plain}

-- the value of a lower-case hex digit
unfoldable pub hex_at : ℕ → Option ℕ
hex_at b = if is_between 48 57 b then Some (b - 48) else if is_between 97 102 b then Some (b - 87) else None

-- the byte of `\xhh` behind its `\`
unfoldable pub escape_at : List ℕ → Option (ℕ × List ℕ)
escape_at (x ∷ h ∷ l ∷ rest) = do
  high ← hex_at h
  low ← hex_at l
  if x == 120 then Some (16 * high + low, rest) else None
escape_at _ = None

-- a byte: by two hex digits behind `\x`, or as it is where it stands for itself
unfoldable pub text_byte_at : List ℕ → Option (ℕ × List ℕ)
text_byte_at [] = None
text_byte_at (b ∷ rest) = if b == 92 then escape_at rest else if is_plain b then Some (b, rest) else None

-- ---- examples

pub a_letter : text_byte_at (codes "hi") ≡ Some (104, codes "i")
unfolding text_byte_at
a_letter = refl

pub a_line_feed : text_byte_at (codes "\\x0ai") ≡ Some (10, codes "i")
unfolding text_byte_at escape_at hex_at
a_line_feed = refl

pub no_upper_case_digit : text_byte_at (codes "\\x0A") ≡ None
unfolding text_byte_at escape_at hex_at
no_upper_case_digit = refl

pub no_quote : text_byte_at (codes "\"") ≡ None
unfolding text_byte_at
no_quote = refl
