-- Lines of bytes: where the first one ends, and what text they are of.
use Rattle.std.proofs.Common.{◌≡◌, ℕ, ◌+◌, ◌<◌, ◌≤◌, Bool, true, false, not, cond, eqb, ltb, List, [], ◌∷◌, ◌++◌, length, get_or, take, drop, Some, None, refl, sym, ap, ◌∙◌, arith}
use Rattle.std.specs.Prelude.{position}
use Rattle.std.specs.List.{AllByRecursion, position_or_len}
use Rattle.std.proofs.lemmas.Bool.{eqb-true, eqb-false, ltb-false, not-true}
use Rattle.std.proofs.lemmas.List.{take-append-drop, drop_more, get_or-take, length-take}
use Rattle.std.proofs.lemmas.List.Elements.{recursion_from_All, All-from_get_or}
use Rattle.std.proofs.lemmas.List.Quantifiers.{position-Some}
use Rattle.std.proofs.lemmas.List.Sums.{prefix_len_passes}
use Rattle.script_reader.specs.Words.{lines_of}

-- a list without line feeds
abbrev pub Plain : List ℕ → Type 0
Plain xs = AllByRecursion (λ b. eqb b 10 ≡ false) xs

-- a text whose first line feed stands here has what is before it as its first line
pub lines_of-feed : (xs ys : List ℕ) → Plain xs → lines_of (xs ++ 10 ∷ ys) ≡ xs ∷ lines_of ys
lines_of-feed [] ys h = refl
lines_of-feed (x ∷ xs) ys h = rw (h.0, lines_of-feed xs ys h.1) refl

-- a text that isn't empty and has no line feed is one line
pub lines_of-plain : (x : ℕ) (xs : List ℕ) → Plain (x ∷ xs) → lines_of (x ∷ xs) ≡ (x ∷ xs) ∷ []
lines_of-plain x [] h = rw h.0 refl
lines_of-plain x (y ∷ ys) h = rw (h.0, lines_of-plain y ys h.1) refl

-- ---- the first line feed

abbrev is_feed : ℕ → Bool
is_feed b = eqb b 10

none_within : (o : Bool) (i : ℕ) → cond o (Some i) None ≡ None → o ≡ false
none_within true i e = absurd cc
none_within false i e = refl

-- the first line feed ends the first line
pub lines_of-at : (xs : List ℕ) (i : ℕ) → position is_feed xs ≡ Some i
    → lines_of xs ≡ take i xs ∷ lines_of (drop (i + 1) xs)
lines_of-at xs i e =
    let h = position-Some is_feed xs i 0 e in
    let feed : get_or xs i 0 ≡ 10 = eqb-true _ _ h.1 in
    let front : Plain (take i xs) =
    recursion_from_All (λ b. eqb b 10 ≡ false) (take i xs)
    (All-from_get_or (λ b. eqb b 10 ≡ false) (take i xs) 0 (λ k lt. let small : k < i =
    omega (arith, length-take i xs) in rw (get_or-take i xs k 0 small) (h.2 k small))) in
    let parts : xs ≡ take i xs ++ 10 ∷ drop (i + 1) xs =
    sym (take-append-drop i xs)
    ∙ ap (λ ys. take i xs ++ ys) (drop_more xs i 0 h.0 ∙ ap (λ b. b ∷ drop (i + 1) xs) feed) in
    ap lines_of parts ∙ lines_of-feed (take i xs) (drop (i + 1) xs) front

pub Plain-none : (xs : List ℕ) → position is_feed xs ≡ None → Plain xs
Plain-none xs e =
    let far : length xs ≤ position_or_len is_feed xs =
    ltb-false _ _ (none_within (ltb (position_or_len is_feed xs) (length xs)) (position_or_len is_feed xs) e) in
    recursion_from_All (λ b. eqb b 10 ≡ false) xs
    (All-from_get_or (λ b. eqb b 10 ≡ false) xs 0
    (λ k lt. not-true _ (prefix_len_passes (λ b. not (is_feed b)) xs k 0 (omega arith))))

-- a length that is not 0 is above it
pub some_from_not_empty : (n : ℕ) → eqb n 0 ≡ false → 0 < n
some_from_not_empty n e = grind (arith, eqb-false)

-- without a line feed the bytes are one line
pub lines_of-none : (xs : List ℕ) → position is_feed xs ≡ None → 0 < length xs → lines_of xs ≡ xs ∷ []
lines_of-none [] e some = absurd (omega arith)
lines_of-none (x ∷ xs) e some = lines_of-plain x xs (Plain-none (x ∷ xs) e)
