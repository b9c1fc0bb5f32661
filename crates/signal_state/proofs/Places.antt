-- The number at a place of the bytes is the one that reading gives there.
use Rattle.std.proofs.Common.{◌≡◌, ℕ, suc, ◌+◌, ◌-◌, ◌<◌, ◌≤◌, ltb, List, [], ◌∷◌, length, get_or, take, drop, drop-cons, length-drop, Some, sym, ap, ◌∙◌, arith}
use Rattle.std.proofs.Math.Seq.{take-length}
use Rattle.std.specs.Int.{Width, w16, w32, byte_len, from_be_bytes}
use Rattle.body_fields.specs.Fields.{number_at}
use Rattle.body_fields.proofs.Fields.{guard_some}
use Rattle.signal_state.specs.Reading.{count_at}

cons-at : (bytes : List ℕ) (place next : ℕ) → place < length bytes → suc place ≡ next
    → drop place bytes ≡ get_or bytes place 0 ∷ drop next bytes
cons-at bytes place next within is =
    drop-cons bytes place 0 within ∙ ap (λ (k : ℕ). get_or bytes place 0 ∷ drop k bytes) is

two-at : (bytes : List ℕ) (place : ℕ) → place + 2 ≤ length bytes
    → take 2 (drop place bytes) ≡ get_or bytes place 0 ∷ get_or bytes (place + 1) 0 ∷ []
two-at bytes place within =
    let first = cons-at bytes place (place + 1) (omega arith) (omega arith) in
    let second = cons-at bytes (place + 1) (place + 2) (omega arith) (omega arith) in
    ap (take 2) (first ∙ ap (λ (r : List ℕ). get_or bytes place 0 ∷ r) second)

four-at : (bytes : List ℕ) (place : ℕ) → place + 4 ≤ length bytes
    → take 4 (drop place bytes) ≡ get_or bytes place 0 ∷ get_or bytes (place + 1) 0 ∷ get_or bytes (place + 2) 0
    ∷ get_or bytes (place + 3) 0 ∷ []
four-at bytes place within =
    let first = cons-at bytes place (place + 1) (omega arith) (omega arith) in
    let second = cons-at bytes (place + 1) (place + 2) (omega arith) (omega arith) in
    let third = cons-at bytes (place + 2) (place + 3) (omega arith) (omega arith) in
    let last = cons-at bytes (place + 3) (place + 4) (omega arith) (omega arith) in
    ap (take 4) (first ∙ ap (λ (r : List ℕ). get_or bytes place 0 ∷ r)
    (second ∙ ap (λ (r : List ℕ). get_or bytes (place + 1) 0 ∷ r)
    (third ∙ ap (λ (r : List ℕ). get_or bytes (place + 2) 0 ∷ r) last)))

-- the slice from a place on
pub rest-of : (bytes : List ℕ) (place : ℕ) → take (length bytes - place) (drop place bytes) ≡ drop place bytes
rest-of bytes place =
    let len : length bytes - place ≡ length (drop place bytes) = omega (arith, length-drop place bytes) in
    ap (λ (k : ℕ). take k (drop place bytes)) len ∙ take-length (drop place bytes)

number-of : (w : Width) (bytes : List ℕ) (place : ℕ) (n : ℕ × List ℕ) → place + byte_len w ≤ length bytes
    → number_at w (drop place bytes) ≡ Some n → n.0 ≡ from_be_bytes w (take (byte_len w) (drop place bytes))
number-of w bytes place n within read =
    let g = guard_some (ltb (length (drop place bytes)) (byte_len w))
    (from_be_bytes w (take (byte_len w) (drop place bytes)), drop (byte_len w) (drop place bytes)) n read in
    sym (ap (λ (p : ℕ × List ℕ). p.0) g.1)

-- the numbers of two and of four bytes, by their bytes
pub two-read : (bytes : List ℕ) (place : ℕ) (n : ℕ × List ℕ) → place + 2 ≤ length bytes
    → number_at w16 (drop place bytes) ≡ Some n
    → n.0 ≡ from_be_bytes w16 (get_or bytes place 0 ∷ get_or bytes (place + 1) 0 ∷ [])
two-read bytes place n within read =
    number-of w16 bytes place n within read ∙ ap (from_be_bytes w16) (two-at bytes place within)

-- a number of four bytes is the count at its place
pub four-read : (bytes : List ℕ) (place : ℕ) (n : ℕ × List ℕ) → place + 4 ≤ length bytes
    → number_at w32 (drop place bytes) ≡ Some n → n.0 ≡ count_at bytes place
four-read bytes place n within read =
    number-of w32 bytes place n within read ∙ ap (from_be_bytes w32) (four-at bytes place within)
