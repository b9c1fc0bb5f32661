-- How the text of a message is written, in scripts and in traces.
use Rattle.std.specs.Prelude.{ℕ, ◌+◌, ◌/◌, ◌%◌, Bool, false, not, ◌&&◌, ◌||◌, nat_eq, nat_le, nat_lt, List, [], ◌∷◌, ◌++◌, length, if◌then◌else◌, codes}
use Rattle.std.specs.List.{flat_map, list_all}
use Rattle.std.specs.Fmt.{decimal}
use Rattle.kernel_model.specs.Numbers.{is_between, is_byte}

abbrev pub is_letter_or_digit : ℕ → Bool
is_letter_or_digit b = is_between 48 57 b || (is_between 65 90 b || is_between 97 122 b)

-- a byte that stands for itself between quotes
abbrev pub is_plain : ℕ → Bool
is_plain b = is_between 32 126 b && not (nat_eq b 34 || nat_eq b 92)

abbrev pub hex_digit : ℕ → ℕ
hex_digit d = if nat_lt d 10 then 48 + d else 87 + d

abbrev pub escape : ℕ → List ℕ
escape b = if is_plain b then b ∷ [] else codes "\\x" ++ hex_digit (b / 16) ∷ hex_digit (b % 16) ∷ []

abbrev pub quoted_text : List ℕ → List ℕ
quoted_text text = 34 ∷ (flat_map escape text ++ 34 ∷ [])

-- the same letter or digit throughout
abbrev pub is_one_letter : List ℕ → Bool
is_one_letter [] = false
is_one_letter (b ∷ bs) = is_letter_or_digit b && list_all (nat_eq b) bs

-- the same letter or digit, 17 or more times
abbrev pub is_repeated : List ℕ → Bool
is_repeated [] = false
is_repeated (b ∷ bs) = is_letter_or_digit b && (nat_le 16 (length bs) && list_all (nat_eq b) bs)

abbrev pub repeated_text : List ℕ → List ℕ
repeated_text [] = []
repeated_text (b ∷ bs) = codes "rep:" ++ decimal (length (b ∷ bs)) ++ 58 ∷ b ∷ []

-- as a trace has it
abbrev pub message_text : List ℕ → List ℕ
message_text text = if is_repeated text then repeated_text text else quoted_text text

-- A script can write the text: by `rep:` the same letter or digit, at most 8,192 times, or between quotes, in at most
-- the 4,096 bytes of a line.
abbrev pub has_spelling : List ℕ → Bool
has_spelling text =
    list_all is_byte text
    && ((is_one_letter text && nat_le (length text) 8192) || nat_le (length (quoted_text text)) 4096)
