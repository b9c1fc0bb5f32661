-- How many words, operations and values a line has room for, and which texts.
use Rattle.std.proofs.Common.{◌≡◌, ℕ, zero, suc, ◌+◌, ◌-◌, ◌*◌, ◌/◌, ◌%◌, ◌<◌, ◌≤◌, ℤ, pos, negsuc, Bool, true, false, ◌&&◌, ◌||◌, not, cond, eqb, ltb, leb, List, [], ◌∷◌, ◌++◌, length, take, drop, Option, Some, None, eq-eqb, refl, ap, arith}
use Rattle.std.specs.Prelude.{IfSome, option_map, codes, bytes_eq, replicate}
use Rattle.std.specs.List.{list_all, flat_map, onto_first, slice_split, position_or_len}
use Rattle.std.specs.Option.{option_map_or}
use Rattle.std.proofs.lemmas.Bool.{and_parts, and_from, or_cases, leb-true, le-leb, ltb-true}
use Rattle.std.proofs.lemmas.List.{length-append, length-take, length-drop, length-replicate}
use Rattle.std.proofs.lemmas.List.Splits.{length-slice_split}
use Rattle.pico_base.specs.declared.call.SemStep.{SemStep}
use Rattle.pico_base.specs.Options.{◌>>=◌}
use Rattle.kernel_model.specs.Script as model
use Rattle.kernel_model.specs.Numbers.{is_u16, is_byte}
use Rattle.kernel_model.specs.Texts as texts
use Rattle.script_reader.specs.Words.{is_blank, entering, leaving, words_in, words_of, pieces, Stretch}
use Rattle.script_reader.specs.Words.Stretch.{between, plain, quoted}
use Rattle.quoted_bytes.specs.Bytes.{text_byte_at, escape_at, hex_at}
use Rattle.quoted_bytes.specs.Front.{strip}
use Rattle.script_reader.specs.Parts as parts
use Rattle.script_reader.specs.Parts.{number, signed, each, step, added, cut, values, text, quoted_at, closed_at, with_byte, repetition, counted, letter}
use Rattle.script_reader.proofs.Ranges.{if_bind, if_map, if_cond, Anything, anything, number_small, signed_small, IsWithin}

-- ---- widths

-- the bytes of words, with one behind each
abbrev pub width : List (List ℕ) → ℕ
width [] = 0
width (w ∷ ws) = length w + 1 + width ws

onto_width : (b n : ℕ) (ws : List (List ℕ)) → width ws ≤ n + 1 → width (onto_first b ws) ≤ suc n + 1
onto_width b n [] h = omega arith
onto_width b n (w ∷ ws) h = omega (arith, h)

le_cond : (c : Bool) (x y : List (List ℕ)) (n : ℕ) → width x ≤ n → width y ≤ n → width (cond c x y) ≤ n
le_cond true x y n f g = f
le_cond false x y n f g = g

words_width : (line : Stretch) (bytes : List ℕ) → width (words_in line bytes) ≤ length bytes + 1
unfolding words_in
words_width between [] = omega arith
words_width plain [] = omega arith
words_width quoted [] = omega arith
words_width between (b ∷ bytes) =
    le_cond (is_blank b) (words_in between bytes) (onto_first b (words_in (entering b) bytes)) (suc (length bytes) + 1)
    (omega (arith, words_width between bytes))
    (onto_width b (length bytes) (words_in (entering b) bytes) (words_width (entering b) bytes))
words_width plain (b ∷ bytes) =
    le_cond (is_blank b) ([] ∷ words_in between bytes) (onto_first b (words_in plain bytes)) (suc (length bytes) + 1)
    (omega (arith, words_width between bytes))
    (onto_width b (length bytes) (words_in plain bytes) (words_width plain bytes))
words_width quoted (b ∷ bytes) =
    onto_width b (length bytes) (words_in (leaving b) bytes) (words_width (leaving b) bytes)

-- the words of a line have room in it
pub line_width : (line : List ℕ) → width (words_of line) ≤ length line + 1
line_width line = words_width between line

pieces_width : (p : ℕ → Bool) (bytes : List ℕ) → width (slice_split p bytes) ≤ length bytes + 1
pieces_width p [] = omega arith
pieces_width p (b ∷ bytes) =
    le_cond (p b) ([] ∷ slice_split p bytes) (onto_first b (slice_split p bytes)) (suc (length bytes) + 1)
    (omega (arith, pieces_width p bytes)) (onto_width b (length bytes) (slice_split p bytes) (pieces_width p bytes))

-- ---- what each word gives

module _ {B : Type 0} (f : List ℕ → Option B) (test : B → Bool) (least : ℕ) where
  -- each word that gives something has so many bytes, and what it gives passes
  abbrev pub IsWide : Type 0
  IsWide = (w : List ℕ) → IfSome (f w) (λ y. (least ≤ length w) × (test y ≡ true))

  abbrev pub Passes : ℕ → List B → Type 0
  Passes room ys = (length ys * (least + 1) ≤ room) × (list_all test ys ≡ true)

  more_room : (n l r : ℕ) → n * (least + 1) ≤ r → least ≤ l → suc n * (least + 1) ≤ l + 1 + r
  more_room n l r h k = let e : suc n * (least + 1) ≡ (least + 1) + n * (least + 1) =
      omega arith in omega (arith, e, h, k)

  pub each_wide : IsWide → (ws : List (List ℕ)) → IfSome (each f ws) (Passes (width ws))
  unfolding each
  each_wide h [] = (omega arith, refl)
  each_wide h (w ∷ ws) =
      if_bind (f w) (λ y. option_map (λ ys. y ∷ ys) (each f ws)) (λ y. (least ≤ length w) × (test y ≡ true))
      (Passes (width (w ∷ ws))) (h w)
      (λ y one. if_map (each f ws) (λ ys. y ∷ ys) (Passes (width ws)) (Passes (width (w ∷ ws))) (each_wide h ws)
      (λ ys more. (
        more_room (length ys) (length w) (width ws) more.0 one.0,
        and_from (test y) (list_all test ys) one.1 more.1,
      )))

module _ {A B : Type 0} (f : A → Option B) where
  pub each_length : (xs : List A) → IfSome (each f xs) (λ ys. length ys ≡ length xs)
  unfolding each
  each_length [] = refl
  each_length (x ∷ xs) =
      if_bind (f x) (λ y. option_map (λ ys. y ∷ ys) (each f xs)) Anything (λ ys. length ys ≡ length (x ∷ xs))
      (anything (f x))
      (λ y _. if_map (each f xs) (λ ys. y ∷ ys) (λ ys. length ys ≡ length xs) (λ ys. length ys ≡ length (x ∷ xs))
      (each_length xs) (λ ys e. ap suc e))

-- two facts of one value
pub if_both : {A : Type 0} (o : Option A) (P Q : A → Type 0) → IfSome o P → IfSome o Q → IfSome o (λ x. P x × Q x)
if_both None P Q h k = tt
if_both (Some x) P Q h k = (h, k)

-- a word has at least one piece
pub pieces_some : (byte : ℕ) (w : List ℕ) → 1 ≤ length (pieces byte w)
unfolding pieces
pieces_some byte w = omega (arith, length-slice_split (λ b. eqb b byte) w)

-- ---- words cut in two

abbrev around : List ℕ → ℕ → List ℕ × List ℕ
around w k = (take k w, drop (k + 1) w)

abbrev IsCut : List ℕ → List ℕ × List ℕ → Type 0
IsCut w p = length p.0 + 1 + length p.1 ≡ length w

cut_of : (b : Bool) (k : ℕ) (w : List ℕ) → (b ≡ true → k < length w)
    → IfSome (option_map (around w) (cond b (Some k) None)) (IsCut w)
cut_of true k w h = omega (arith, h refl, length-take k w, length-drop (k + 1) w)
cut_of false k w h = tt

pub cut_width : (byte : ℕ) (w : List ℕ) → IfSome (cut byte w) (λ p. length p.0 + 1 + length p.1 ≡ length w)
unfolding cut
cut_width byte w =
    cut_of (ltb (position_or_len (λ b. eqb b byte) w) (length w)) (position_or_len (λ b. eqb b byte) w) w
    (ltb-true (position_or_len (λ b. eqb b byte) w) (length w))

pub number_wide : (limit : ℕ) (w : List ℕ) → IfSome (number limit w) (λ n. (1 ≤ length w) × (n ≤ limit))
unfolding number
number_wide limit [] = tt
number_wide limit (b ∷ w) = if_map_same (number limit (b ∷ w)) (number_small limit (b ∷ w))
  where
    if_map_same : (o : Option ℕ) → IfSome o (λ n. n ≤ limit) → IfSome o (λ n. (1 ≤ length (b ∷ w)) × (n ≤ limit))
    if_map_same None h = tt
    if_map_same (Some n) h = (omega arith, h)

signed_wide : (w : List ℕ) → IfSome (signed 65535 w) (λ z. (1 ≤ length w) × IsWithin 65535 z)
unfolding signed number strip
signed_wide [] = tt
signed_wide (b ∷ w) = both (signed 65535 (b ∷ w)) (signed_small 65535 (b ∷ w))
  where
    both : (o : Option ℤ) → IfSome o (IsWithin 65535) → IfSome o (λ z. (1 ≤ length (b ∷ w)) × IsWithin 65535 z)
    both None h = tt
    both (Some z) h = (omega arith, h)

abbrev IsAdded : List ℕ → ℤ × Bool → Type 0
IsAdded w a = (1 ≤ length w) × IsWithin 65535 a.0

added_wide_of : (o : Option (List ℕ × List ℕ)) (w : List ℕ) → IfSome o (λ p. length p.0 + 1 + length p.1 ≡ length w)
    → IfSome (parts.added_from o w) (IsAdded w)
added_wide_of None w h =
    if_map (signed 65535 w) (λ add. (add, false)) (λ z. (1 ≤ length w) × IsWithin 65535 z) (IsAdded w) (signed_wide w)
    (λ z k. k)
added_wide_of (Some p) w h =
    if_bind (signed 65535 p.0) (λ add. cond (bytes_eq p.1 (codes "nowait")) (Some (add, true)) None)
    (λ z. (1 ≤ length p.0) × IsWithin 65535 z) (IsAdded w) (signed_wide p.0)
    (λ z k. if_cond (bytes_eq p.1 (codes "nowait")) (Some (z, true)) None (IsAdded w)
    (λ _. (omega (arith, h, k.0), k.1)) (λ _. tt))

added_wide : (w : List ℕ) → IfSome (added w) (IsAdded w)
unfolding added
added_wide w = added_wide_of (cut 58 w) w (cut_width 58 w)

in_range_from : (num : ℕ) (add : ℤ) (nowait : Bool) → num ≤ 65535 → IsWithin 65535 add
    → model.is_step_in_range (record { num = num; add = add; nowait = nowait }) ≡ true
in_range_from num (pos n) nowait h k =
    and_from (leb num 65535) (true && leb n 65535) (le-leb num 65535 h) (le-leb n 65535 k)
in_range_from num (negsuc n) nowait h k =
    and_from (leb num 65535) (leb n 65534 && true) (le-leb num 65535 h)
    (and_from (leb n 65534) true (le-leb n 65534 (omega (arith, k))) refl)

abbrev IsStep : List ℕ → SemStep → Type 0
IsStep w s = (3 ≤ length w) × (model.is_step_in_range s ≡ true)

pub step_wide : (w : List ℕ) → IfSome (step w) (IsStep w)
unfolding step
step_wide w =
    if_bind (cut 58 w) (λ p. number 65535 p.0 >>= λ num. added p.1 >>= λ a.
    Some (record { num = num; add = a.0; nowait = a.1 })) (λ p. length p.0 + 1 + length p.1 ≡ length w) (IsStep w)
    (cut_width 58 w)
    (λ p split. if_bind (number 65535 p.0)
    (λ num. added p.1 >>= λ a. Some (record { num = num; add = a.0; nowait = a.1 })) (λ n. (1 ≤ length p.0)
    × (n ≤ 65535)) (IsStep w) (number_wide 65535 p.0)
    (λ num n. if_bind (added p.1) (λ a. Some (record { num = num; add = a.0; nowait = a.1 })) (IsAdded p.1) (IsStep w)
    (added_wide p.1)
    (λ a k. (omega (arith, split, n.0, k.0), in_range_from num a.0 a.1 n.1 k.1))))

-- operations have at least three bytes each
pub steps_wide : (ws : List (List ℕ)) → IfSome (each step ws) (Passes step model.is_step_in_range 3 (width ws))
steps_wide ws = each_wide step model.is_step_in_range 3 step_wide ws

value_wide : (w : List ℕ) → IfSome (number 65535 w) (λ n. (1 ≤ length w) × (is_u16 n ≡ true))
value_wide w = weaker (number 65535 w) (number_wide 65535 w)
  where
    weaker : (o : Option ℕ) → IfSome o (λ n. (1 ≤ length w) × (n ≤ 65535))
        → IfSome o (λ n. (1 ≤ length w) × (is_u16 n ≡ true))
    weaker None h = tt
    weaker (Some n) h = (h.0, le-leb n 65535 h.1)

-- values have at least one byte each
pub values_wide : (w : List ℕ) → IfSome (values w) (λ vs. (length vs * 2 ≤ length w + 1) × (list_all is_u16 vs ≡ true))
unfolding values pieces
values_wide w = weaker (each (number 65535) (pieces 44 w)) (each_wide (number 65535) is_u16 1 value_wide (pieces 44 w))
  where
    weaker : (o : Option (List ℕ)) → IfSome o (Passes (number 65535) is_u16 1 (width (pieces 44 w)))
        → IfSome o (λ vs. (length vs * 2 ≤ length w + 1) × (list_all is_u16 vs ≡ true))
    weaker None h = tt
    weaker (Some vs) h = (omega (arith, h.0, pieces_width (λ b. eqb b 44) w), h.1)

-- ---- texts

hex_small : (b : ℕ) → IfSome (hex_at b) (λ n. n ≤ 15)
unfolding hex_at
hex_small b =
    if_cond (parts.is_digit b) (Some (b - 48)) (cond (leb 97 b && leb b 102) (Some (b - 87)) None) (λ n. n ≤ 15)
    (λ t. omega (arith, leb-true b 57 (and_parts (leb 48 b) (leb b 57) t).1))
    (λ _. if_cond (leb 97 b && leb b 102) (Some (b - 87)) None (λ n. n ≤ 15)
    (λ t. omega (arith, leb-true b 102 (and_parts (leb 97 b) (leb b 102) t).1)) (λ _. tt))

-- a byte, and the bytes behind it, of these bytes and one more
abbrev IsEscaped : List ℕ → ℕ × List ℕ → Type 0
IsEscaped bytes p = (p.0 ≤ 255) × (length p.1 + 3 ≡ length bytes)

escape_small : (bytes : List ℕ) → IfSome (escape_at bytes) (IsEscaped bytes)
unfolding escape_at
escape_small [] = tt
escape_small (x ∷ []) = tt
escape_small (x ∷ h ∷ []) = tt
escape_small (x ∷ h ∷ l ∷ rest) =
    if_bind (hex_at h) (λ high. hex_at l >>= λ low. cond (eqb x 120) (Some (16 * high + low, rest)) None) (λ n. n ≤ 15)
    (IsEscaped (x ∷ h ∷ l ∷ rest)) (hex_small h)
    (λ high a. if_bind (hex_at l) (λ low. cond (eqb x 120) (Some (16 * high + low, rest)) None) (λ n. n ≤ 15)
    (IsEscaped (x ∷ h ∷ l ∷ rest)) (hex_small l)
    (λ low b. if_cond (eqb x 120) (Some (16 * high + low, rest)) None (IsEscaped (x ∷ h ∷ l ∷ rest))
    (λ _. (omega (arith, a, b), omega arith)) (λ _. tt)))

cond_length : (c : Bool) (x y : List ℕ) (n : ℕ) → length x ≤ n → length y ≤ n → length (cond c x y) ≤ n
cond_length true x y n f g = f
cond_length false x y n f g = g

escape_short : (b : ℕ) → length (texts.escape b) ≤ 4
escape_short b = cond_length (texts.is_plain b) (b ∷ [])
    (codes "\\x" ++ texts.hex_digit (b / 16) ∷ texts.hex_digit (b % 16) ∷ []) 4 (omega arith) (omega arith)

plain_low : (b : ℕ) → texts.is_plain b ≡ true → b ≤ 255
plain_low b e =
    let p = and_parts (leb 32 b && leb b 126) (not (eqb b 34 || eqb b 92)) e in
    omega (arith, leb-true b 126 (and_parts (leb 32 b) (leb b 126) p.0).1)

-- a byte whose spelling has room in front of the bytes behind it
abbrev HasRoom : List ℕ → ℕ × List ℕ → Type 0
HasRoom bytes p = (p.0 ≤ 255) × (length (texts.escape p.0) + length p.1 ≤ length bytes)

text_byte_room : (bytes : List ℕ) → IfSome (text_byte_at bytes) (HasRoom bytes)
unfolding text_byte_at
text_byte_room [] = tt
text_byte_room (b ∷ rest) =
    if_cond (eqb b 92) (escape_at rest) (cond (texts.is_plain b) (Some (b, rest)) None) (HasRoom (b ∷ rest))
    (λ _. longer (escape_at rest) (escape_small rest))
    (λ _. if_cond (texts.is_plain b) (Some (b, rest)) None (HasRoom (b ∷ rest))
    (λ t. (plain_low b t, rw t (omega arith))) (λ _. tt))
  where
    longer : (o : Option (ℕ × List ℕ)) → IfSome o (IsEscaped rest) → IfSome o (HasRoom (b ∷ rest))
    longer None h = tt
    longer (Some p) h = (h.0, omega (arith, escape_short p.0, h.1))

-- a text of bytes whose spelling between quotes has room in these bytes
abbrev pub IsShort : List ℕ → List ℕ → Type 0
IsShort bytes t = (list_all is_byte t ≡ true) × (length (flat_map texts.escape t) + 1 ≤ length bytes)

closed_short : (bytes : List ℕ) → IfSome (closed_at [] bytes) (IsShort bytes)
closed_short [] = tt
closed_short (b ∷ bytes) =
    if_cond (bytes_eq (b ∷ bytes)
    (codes "\"")) (Some []) None (IsShort (b ∷ bytes)) (λ _. (refl, omega arith)) (λ _. tt)

longer_text : (bytes : List ℕ) (p : ℕ × List ℕ) (t : List ℕ) → HasRoom bytes p → IsShort p.1 t → IsShort bytes (p.0 ∷ t)
longer_text bytes p t h k = (
  and_from (leb p.0 255) (list_all is_byte t) (le-leb p.0 255 h.0) k.0,
  omega (arith, h.1, k.1, length-append (texts.escape p.0) (flat_map texts.escape t)),
)

one_more_byte : (n : ℕ) (bytes : List ℕ) → ((rest : List ℕ) → IfSome (quoted_at n rest) (IsShort rest))
    → (o : Option (ℕ × List ℕ)) → IfSome o (HasRoom bytes)
    → IfSome (option_map_or (λ (b : ℕ × List ℕ). option_map (with_byte b.0) (quoted_at n b.1)) o (closed_at [] bytes))
    (IsShort bytes)
one_more_byte n bytes again None h = closed_short bytes
one_more_byte n bytes again (Some p) h =
    if_map (quoted_at n p.1) (with_byte p.0) (IsShort p.1) (IsShort bytes) (again p.1)
    (λ t k. longer_text bytes p t h k)

-- what is read between quotes is no longer spelled in another way
pub quoted_short : (n : ℕ) (bytes : List ℕ) → IfSome (quoted_at n bytes) (IsShort bytes)
unfolding quoted_at
quoted_short zero bytes = closed_short bytes
quoted_short (suc n) bytes = one_more_byte n bytes (quoted_short n) (text_byte_at bytes) (text_byte_room bytes)

-- the same letter, so many times
all_same : (n c : ℕ) → list_all (eqb c) (replicate n c) ≡ true
all_same zero c = refl
all_same (suc n) c = and_from (eqb c c) (list_all (eqb c) (replicate n c)) (eq-eqb c c refl) (all_same n c)

alphanumeric_from : (c : ℕ) → parts.is_alphanumeric c ≡ true → texts.is_letter_or_digit c ≡ true
alphanumeric_from c e = grind (arith, e)

byte_from : (c : ℕ) → parts.is_alphanumeric c ≡ true → c ≤ 255
byte_from c e = grind (arith, leb-true, and_parts, or_cases)

all_bytes : (n c : ℕ) → c ≤ 255 → list_all is_byte (replicate n c) ≡ true
all_bytes zero c h = refl
all_bytes (suc n) c h = and_from (leb c 255) (list_all is_byte (replicate n c)) (le-leb c 255 h) (all_bytes n c h)

one_letter : (n c : ℕ) → parts.is_alphanumeric c ≡ true → n ≤ 8192 → texts.has_spelling (replicate n c) ≡ true
one_letter zero c e h = refl
one_letter (suc n) c e h =
    let t : List ℕ = replicate (suc n) c in
    let small : length t ≤ 8192 = omega (arith, h, length-replicate (suc n) c) in
    let same : texts.is_one_letter t ≡ true =
    and_from (texts.is_letter_or_digit c) (list_all (eqb c) (replicate n c)) (alphanumeric_from c e)
    (all_same n c) in
    let first : (texts.is_one_letter t && leb (length t) 8192) ≡ true =
    and_from (texts.is_one_letter t) (leb (length t) 8192) same (le-leb (length t) 8192 small) in
    and_from (list_all is_byte t)
    ((texts.is_one_letter t && leb (length t) 8192) || leb (length (texts.quoted_text t)) 4096)
    (all_bytes (suc n) c (byte_from c e)) (rw first refl)

or_last : (b c : Bool) → c ≡ true → (b || c) ≡ true
or_last true c e = refl
or_last false c e = e

spelled_from : (bytes t : List ℕ) → length bytes ≤ 4095 → IsShort bytes t → texts.has_spelling t ≡ true
spelled_from bytes t h k =
    let long : length (texts.quoted_text t) ≤ 4096 =
    omega (arith, h, k.1, length-append (flat_map texts.escape t) (34 ∷ [])) in
    and_from (list_all is_byte t)
    ((texts.is_one_letter t && leb (length t) 8192) || leb (length (texts.quoted_text t)) 4096) k.0
    (or_last (texts.is_one_letter t && leb (length t) 8192) (leb (length (texts.quoted_text t)) 4096)
    (le-leb (length (texts.quoted_text t)) 4096 long))

abbrev IsSpelled : List ℕ → Type 0
IsSpelled t = texts.has_spelling t ≡ true

abbrev IsCounted : ℕ × ℕ → Type 0
IsCounted c = (c.0 ≤ 8192) × (parts.is_alphanumeric c.1 ≡ true)

letter_is : (w : List ℕ) → IfSome (letter w) (λ c. parts.is_alphanumeric c ≡ true)
unfolding letter
letter_is [] = tt
letter_is (b ∷ []) = if_cond (parts.is_alphanumeric b) (Some b) None (λ c. parts.is_alphanumeric c ≡ true) (λ t. t)
    (λ _. tt)
letter_is (b ∷ c ∷ w) = tt

counted_is : (w : List ℕ) → IfSome (counted w) IsCounted
unfolding counted
counted_is w =
    if_bind (cut 58 w) (λ p. number 8192 p.0 >>= λ count. letter p.1 >>= λ byte. Some (count, byte)) Anything IsCounted
    (anything (cut 58 w))
    (λ p _. if_bind (number 8192 p.0) (λ count. letter p.1 >>= λ byte. Some (count, byte)) (λ n. n ≤ 8192) IsCounted
    (number_small 8192 p.0)
    (λ count h. if_bind (letter p.1) (λ byte. Some (count, byte)) (λ c. parts.is_alphanumeric c ≡ true) IsCounted
    (letter_is p.1) (λ byte k. (h, k))))

repetition_spelled : (w : List ℕ) → IfSome (repetition w) IsSpelled
unfolding repetition
repetition_spelled w =
    if_map (counted w) (λ (c : ℕ × ℕ). replicate c.0 c.1) IsCounted IsSpelled (counted_is w)
    (λ c h. one_letter c.0 c.1 h.1 h.0)

quoted_spelled : (n : ℕ) (bytes : List ℕ) → length bytes ≤ 4095 → IfSome (quoted_at n bytes) IsSpelled
quoted_spelled n bytes h = of (quoted_at n bytes) (quoted_short n bytes)
  where
    of : (o : Option (List ℕ)) → IfSome o (IsShort bytes) → IfSome o IsSpelled
    of None k = tt
    of (Some t) k = spelled_from bytes t h k

strip_shorter : (w : List ℕ) → IfSome (strip (codes "\"") w) (λ rest. length rest + 1 ≤ length w)
unfolding strip
strip_shorter [] = tt
strip_shorter (b ∷ w) =
    if_cond (bytes_eq (take 1 (b ∷ w))
    (codes "\"")) (Some (drop 1 (b ∷ w))) None (λ rest. length rest + 1 ≤ length (b ∷ w)) (λ _. omega arith) (λ _. tt)

text_of_spelled : (o : Option (List ℕ)) (q : Option (List ℕ)) → IfSome q (λ rest. length rest ≤ 4095)
    → IfSome (parts.text_from o q) IsSpelled
text_of_spelled (Some w) q h = repetition_spelled w
text_of_spelled None None h = tt
text_of_spelled None (Some bytes) h = quoted_spelled (length bytes) bytes h

-- a text of a word has a spelling
pub text_spelled : (w : List ℕ) → length w ≤ 4096 → IfSome (text w) IsSpelled
unfolding text
text_spelled w h = text_of_spelled (strip (codes "rep:") w)
    (strip (codes "\"") w) (of (strip (codes "\"") w) (strip_shorter w))
  where
    of : (o : Option (List ℕ)) → IfSome o (λ rest. length rest + 1 ≤ length w)
        → IfSome o (λ rest. length rest ≤ 4095)
    of None k = tt
    of (Some rest) k = omega (arith, h, k)
