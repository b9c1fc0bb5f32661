-- The script in an image, and the lines behind it.
use Rattle.std.specs.Prelude.{ℕ, ◌+◌, ◌-◌, nat_lt, Bool, false, List, [], ◌∷◌, length, take, drop, sum_by, codes, bytes_eq, if◌then◌else◌, Option, Some, None, option_map}
use Rattle.script_reader.specs.Words.{lines_of, words_of}
use Rattle.image_text.specs.Image.{max_image}

-- the first word of the line is `image`
abbrev pub begins_by : List (List ℕ) → Bool
begins_by [] = false
begins_by (word ∷ words) = bytes_eq word (codes "image")

unfoldable pub ends_script : List ℕ → Bool
ends_script line = begins_by (words_of line)

-- how many lines stand before the first such line
abbrev pub place_in : List (List ℕ) → Option ℕ
place_in [] = None
place_in (line ∷ lines) = if ends_script line then Some 0 else option_map (λ k. k + 1) (place_in lines)

unfoldable pub end_place : List ℕ → Option ℕ
end_place bytes = place_in (lines_of bytes)

-- how many bytes the first k lines have, with their line feeds
unfoldable pub size_of : ℕ → List ℕ → ℕ
size_of k bytes = sum_by (λ line. length line + 1) (take k (lines_of bytes))

-- The script stands before that line, without the line feed just before it. Without such a line all is the script.
abbrev pub script_before : Option ℕ → List ℕ → List ℕ
script_before None bytes = bytes
script_before (Some k) bytes = take (size_of k bytes - 1) bytes

-- that line and those behind it; without such a line there are none
abbrev pub lines_from : Option ℕ → List ℕ → List (List ℕ)
lines_from None bytes = []
lines_from (Some k) bytes = drop k (lines_of bytes)

-- the number of that line; without such a line it is the number of lines plus 1
abbrev pub number_from : Option ℕ → List ℕ → ℕ
number_from None bytes = length (lines_of bytes) + 1
number_from (Some k) bytes = k + 1

abbrev pub script_of : List ℕ → List ℕ
script_of bytes = script_before (end_place bytes) bytes

abbrev pub lines_behind : List ℕ → List (List ℕ)
lines_behind bytes = lines_from (end_place bytes) bytes

abbrev pub number_behind : List ℕ → ℕ
number_behind bytes = number_from (end_place bytes) bytes

-- ---- its size

-- of a text that is too large for an image only the first byte too many, and what stands before it, is looked at
unfoldable pub seen : List ℕ → List ℕ
seen image = take (max_image + 1) image

abbrev pub is_large : List ℕ → Bool
is_large bytes = nat_lt max_image (length bytes)
