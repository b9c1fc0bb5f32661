-- Lines and words.
use Rattle.std.specs.Prelude.{ℕ, ◌≡◌, ◌+◌, ◌-◌, ◌%◌, ◌<◌, ◌≤◌, ◌==◌, not, length, slice_index, drop, ◌||◌, Bool, List, [], ◌∷◌, if◌then◌else◌, map}
use Rattle.std.specs.Int.{bit_at}
use Rattle.std.specs.List.{onto_first, slice_split, position_or_len}
use denote.Ref.{Bor}

-- the lines of a text: a line feed ends a line, and a last one begins no further line
abbrev pub lines_of : List ℕ → List (List ℕ)
lines_of [] = []
lines_of (b ∷ bytes) = if b == 10 then [] ∷ lines_of bytes else onto_first b (lines_of bytes)

-- a space, a tab or a carriage return
abbrev pub is_blank : ℕ → Bool
is_blank b = b == 32 || (b == 9 || b == 13)

-- bit k of a mask tells whether byte k passes, for the first so many bytes
abbrev pub MarksOf : ℕ → (ℕ → Bool) → List ℕ → ℕ → Type 0
MarksOf count p bytes mask =
    (k : ℕ) → k < length bytes → k < count → bit_at mask k ≡ (if p (slice_index bytes k) then 1 else 0)

-- for the first 64 bytes
abbrev pub Marks : (ℕ → Bool) → List ℕ → ℕ → Type 0
Marks p bytes mask = MarksOf 64 p bytes mask

-- Two masks part the words of a line: one tells which bytes are blanks, or the line's end, and one which aren't blanks.
pub record PartWords (line : List ℕ) (ends solids : ℕ) : Type 0 where
  pub short : length line < 64
  pub blanks : Marks is_blank line ends
  pub end : bit_at ends (length line) ≡ 1
  pub others : Marks (λ b. not (is_blank b)) line solids
  pub over : (k : ℕ) → length line ≤ k → bit_at solids k ≡ 0

-- A mask of edges tells where words begin and end from a place on, by the mask of the bytes that aren't blanks: where a
-- byte is blank and the one before it isn't, or the other way round. Before that place there are none.
pub record EdgesFrom (solids edges start : ℕ) : Type 0 where
  pub under : (k : ℕ) → k < start → bit_at edges k ≡ 0
  pub here : bit_at edges start ≡ bit_at solids start
  pub behind : (k : ℕ) → start < k → k < 64 → bit_at edges k ≡ (bit_at solids k + bit_at solids (k - 1)) % 2

-- the edges behind a word's first byte
pub record EdgesBehind (solids edges start : ℕ) : Type 0 where
  pub upto : (k : ℕ) → k ≤ start → bit_at edges k ≡ 0
  pub behind : (k : ℕ) → start < k → k < 64 → bit_at edges k ≡ (bit_at solids k + bit_at solids (k - 1)) % 2

-- where a byte stands: between words, in a word, or in a word and behind its quote
pub data Stretch : Type 0 where
  between : Stretch
  plain : Stretch
  quoted : Stretch

-- a quote at the front of a word begins a text
abbrev pub entering : ℕ → Stretch
entering b = if b == 34 then quoted else plain

-- the next quote ends it
abbrev pub leaving : ℕ → Stretch
leaving b = if b == 34 then plain else quoted

-- the words of these bytes. Inside a word the first of them is the rest of that word
unfoldable pub words_in : Stretch → List ℕ → List (List ℕ)
words_in between [] = []
words_in between (b ∷ bytes) =
    if is_blank b then words_in between bytes else onto_first b (words_in (entering b) bytes)
words_in plain [] = [] ∷ []
words_in plain (b ∷ bytes) = if is_blank b then [] ∷ words_in between bytes else onto_first b (words_in plain bytes)
words_in quoted [] = [] ∷ []
words_in quoted (b ∷ bytes) = onto_first b (words_in (leaving b) bytes)

-- Blanks part the words of a line. A word that begins with a quote goes on to the next quote, over blanks, and then to
-- the next blank
abbrev pub words_of : List ℕ → List (List ℕ)
words_of line = words_in between line

-- how many bytes of a word stand behind its first one, in front of these bytes
abbrev pub rest_length : ℕ → List ℕ → ℕ
rest_length first bytes =
    let quote : ℕ = position_or_len (λ b. b == 34) bytes in
    if first == 34 then quote + position_or_len is_blank (drop quote bytes) else position_or_len is_blank bytes

-- the pieces between each two of these bytes
unfoldable pub pieces : ℕ → List ℕ → List (List ℕ)
pieces byte bytes = slice_split (λ b. b == byte) bytes

-- what words that the code refers to say
abbrev pub texts : List (Bor (List ℕ)) → List (List ℕ)
texts words = map (λ (w : Bor (List ℕ)). w.now) words
