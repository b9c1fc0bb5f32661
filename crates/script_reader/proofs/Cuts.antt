-- Where words end, and what they are cut into.
use Rattle.std.proofs.Common.{◌≡◌, ℕ, suc, ◌+◌, ◌-◌, ◌<◌, ◌≤◌, Bool, true, false, not, cond, eqb, ltb, List, [], ◌∷◌, length, get_or, take, drop, Option, Some, None, drop-drop, refl, sym, ap, subst, ◌∙◌, arith}
use Rattle.std.specs.Prelude.{position, option_map}
use Rattle.std.specs.List.{position_or_len, onto_first, slice_split}
use Rattle.std.specs.Option.{unwrap_or}
use Rattle.std.proofs.lemmas.Bool.{ltb-true, ltb-false, lt-ltb, le-ltb, eqb-true}
use Rattle.std.proofs.lemmas.List.{drop_all, drop_more}
use Rattle.std.proofs.lemmas.List.Sums.{prefix_len-le-length, prefix_len_is}
use Rattle.std.proofs.lemmas.Option.{same_Some, none-some}
use Rattle.memchr.specs.Find.{IsFirstByte, Passes}
use Rattle.script_reader.specs.Words.{is_blank, words_in, words_of, rest_length, pieces}
use Rattle.script_reader.specs.Words.Stretch.{between, plain, quoted}
use Rattle.script_reader.specs.Parts.{cut}

-- ---- the first place that passes, or the length

not_passed : (p : ℕ → Bool) (xs : List ℕ) (k : ℕ) → ¬ Passes p xs k → not (p (get_or xs k 0)) ≡ true
not_passed p xs k h = failed (p (get_or xs k 0)) h
  where
    failed : (b : Bool) → ¬ (b ≡ true) → not b ≡ true
    failed true h = absurd (h refl)
    failed false h = refl

pub place_within : (p : ℕ → Bool) (xs : List ℕ) → position_or_len p xs ≤ length xs
place_within p xs = prefix_len-le-length (λ x. not (p x)) xs

else_length_of : (b : Bool) (i n : ℕ) → (b ≡ false → n ≡ i) → unwrap_or (cond b (Some i) None) n ≡ i
else_length_of true i n h = refl
else_length_of false i n h = h refl

pub else_length : (p : ℕ → Bool) (xs : List ℕ) → unwrap_or (position p xs) (length xs) ≡ position_or_len p xs
else_length p xs =
    else_length_of (ltb (position_or_len p xs) (length xs)) (position_or_len p xs) (length xs)
    (λ e. omega (arith, ltb-false (position_or_len p xs) (length xs) e, place_within p xs))

position_found : (p : ℕ → Bool) (xs : List ℕ) (i j : ℕ) → position_or_len p xs ≡ j → j ≡ i → i < length xs
    → Some i ≡ position p xs
position_found p xs i j is same inside = rw (is, same, lt-ltb i (length xs) inside) refl

position_missed : (p : ℕ → Bool) (xs : List ℕ) (j : ℕ) → position_or_len p xs ≡ j → j ≡ length xs → None ≡ position p xs
position_missed p xs j is same = rw (is, same, le-ltb (length xs) (length xs) (omega arith)) refl

-- what a search for the first byte that passes gives is the position
pub position_of_first : (p : ℕ → Bool) (xs : List ℕ) (r : Option ℕ) → IsFirstByte p xs r → r ≡ position p xs
position_of_first p xs None h =
    position_missed p xs (position_or_len p xs) refl
    (prefix_len_is (λ x. not (p x)) xs (length xs) 0 (omega arith) (λ k lt. not_passed p xs k (h k (omega arith) lt))
    (λ lt. absurd (omega (arith, lt))))
position_of_first p xs (Some i) h =
    position_found p xs i (position_or_len p xs) refl
    (prefix_len_is (λ x. not (p x)) xs i 0 (omega (arith, h.0.high))
    (λ k lt. not_passed p xs k (h.0.before k (omega arith) lt)) (λ lt. ap not h.1)) h.0.high

-- ---- words

one_more : (i : ℕ) → 1 + i ≡ suc i
one_more i = omega arith

plain_step : (b : Bool) (x : ℕ) (xs : List ℕ) (i : ℕ) → is_blank x ≡ b
    → words_in plain xs ≡ take i xs ∷ words_in between (drop i xs)
    → words_in plain (x ∷ xs) ≡ take (cond (not b) (1 + i) 0) (x ∷ xs)
    ∷ words_in between (drop (cond (not b) (1 + i) 0) (x ∷ xs))
unfolding words_in
plain_step true x xs i e h = rw e refl
plain_step false x xs i e h = rw (e, h, one_more i) refl

pub plain_word : (xs : List ℕ)
    → words_in plain xs ≡ take (position_or_len is_blank xs) xs
    ∷ words_in between (drop (position_or_len is_blank xs) xs)
unfolding words_in
plain_word [] = refl
plain_word (x ∷ xs) = plain_step (is_blank x) x xs (position_or_len is_blank xs) refl (plain_word xs)

abbrev is_quote : ℕ → Bool
is_quote b = eqb b 34

-- up to the next quote, and then to the next blank
abbrev quoted_length : List ℕ → ℕ
quoted_length xs = position_or_len is_quote xs + position_or_len is_blank (drop (position_or_len is_quote xs) xs)

quote_first : (x : ℕ) (xs : List ℕ) → eqb x 34 ≡ true → onto_first x (words_in plain xs) ≡ words_in plain (x ∷ xs)
unfolding words_in
quote_first x xs e = rw (eqb-true x 34 e) refl

quoted_step : (b : Bool) (x : ℕ) (xs : List ℕ) (q k : ℕ) → is_quote x ≡ b
    → words_in quoted xs ≡ take (q + k) xs ∷ words_in between (drop (q + k) xs)
    → k ≡ position_or_len is_blank (drop q xs)
    → words_in quoted (x ∷ xs)
    ≡ take (cond (not b) (1 + q) 0 + position_or_len is_blank (drop (cond (not b) (1 + q) 0) (x ∷ xs))) (x ∷ xs)
    ∷ words_in between (drop
    (cond (not b) (1 + q) 0 + position_or_len is_blank (drop (cond (not b) (1 + q) 0) (x ∷ xs))) (x ∷ xs))
unfolding words_in
quoted_step true x xs q k e h same =
    let zero_more : 0 + position_or_len is_blank (x ∷ xs) ≡ position_or_len is_blank (x ∷ xs) = omega arith in
    rw (e, zero_more) (quote_first x xs e ∙ plain_word (x ∷ xs))
quoted_step false x xs q k e h same =
    let more : suc q + k ≡ suc (q + k) = omega arith in
    rw (e, h, one_more q, ← same, more) refl

pub quoted_word : (xs : List ℕ)
    → words_in quoted xs ≡ take (quoted_length xs) xs ∷ words_in between (drop (quoted_length xs) xs)
unfolding words_in
quoted_word [] = refl
quoted_word (x ∷ xs) =
    quoted_step (is_quote x) x xs (position_or_len is_quote xs)
    (position_or_len is_blank (drop (position_or_len is_quote xs) xs)) refl (quoted_word xs) refl

abbrev is_solid : ℕ → Bool
is_solid b = not (is_blank b)

blanks_step : (b : Bool) (x : ℕ) (xs : List ℕ) (i : ℕ) → is_blank x ≡ b
    → words_in between xs ≡ words_in between (drop i xs)
    → words_in between (x ∷ xs) ≡ words_in between (drop (cond (not (not b)) (1 + i) 0) (x ∷ xs))
unfolding words_in
blanks_step true x xs i e h = rw (e, one_more i) h
blanks_step false x xs i e h = refl

pub skip_blanks : (xs : List ℕ) → words_in between xs ≡ words_in between (drop (position_or_len is_solid xs) xs)
unfolding words_in
skip_blanks [] = refl
skip_blanks (x ∷ xs) = blanks_step (is_blank x) x xs (position_or_len is_solid xs) refl (skip_blanks xs)

no_words : words_in between [] ≡ []
unfolding words_in
no_words = refl

-- nothing but blanks
pub none_left : (line : List ℕ) (from : ℕ) → from + position_or_len is_solid (drop from line) ≡ length line
    → words_of (drop from line) ≡ []
none_left line from all =
    let k : ℕ = position_or_len is_solid (drop from line) in
    skip_blanks (drop from line)
    ∙ ap (words_in between) (drop-drop k from line ∙ drop_all (from + k) line (omega (arith, all))) ∙ no_words

first_word_of : (b : Bool) (x : ℕ) (xs : List ℕ) → is_quote x ≡ b → is_blank x ≡ false
    → words_in between (x ∷ xs) ≡ take (1 + rest_length x xs) (x ∷ xs)
    ∷ words_in between (drop (1 + rest_length x xs) (x ∷ xs))
unfolding words_in
first_word_of true x xs e solid = rw (e, solid, one_more (quoted_length xs), quoted_word xs) refl
first_word_of false x xs e solid = rw (e, solid, one_more (position_or_len is_blank xs), plain_word xs) refl

not_not : (b : Bool) → not b ≡ true → b ≡ false
not_not true e = cc
not_not false e = refl

-- the first byte behind the blanks isn't blank
solid_first : (line : List ℕ) (x : ℕ) (xs : List ℕ) → drop (position_or_len is_solid line) line ≡ x ∷ xs
    → is_blank x ≡ false
solid_first [] x xs e = cc
solid_first (y ∷ ys) x xs e = solid_step (is_blank y) y ys x xs refl e (solid_first ys x xs)
  where
    solid_step : (b : Bool) (y : ℕ) (ys : List ℕ) (x : ℕ) (xs : List ℕ) → is_blank y ≡ b
        → drop (cond (not (not b)) (1 + position_or_len is_solid ys) 0) (y ∷ ys) ≡ x ∷ xs
        → (drop (position_or_len is_solid ys) ys ≡ x ∷ xs → is_blank x ≡ false) → is_blank x ≡ false
    solid_step true y ys x xs b e h = h (rw (one_more (position_or_len is_solid ys)) at e)
    solid_step false y ys x xs b e h = let same : y ≡ x = cc in ap is_blank (sym same) ∙ b

-- the first word of a line, and what follows
first_word : (line : List ℕ) (x : ℕ) (xs : List ℕ) → drop (position_or_len is_solid line) line ≡ x ∷ xs
    → words_of line ≡ take (1 + rest_length x xs) (x ∷ xs) ∷ words_of (drop (1 + rest_length x xs) (x ∷ xs))
first_word line x xs e =
    skip_blanks line ∙ ap (words_in between) e ∙ first_word_of (is_quote x) x xs refl (solid_first line x xs e)

-- the first word from a place on, and what follows
pub next_word_at : (line : List ℕ) (from start end : ℕ)
    → start ≡ from + position_or_len is_solid (drop from line) → start < length line
    → end ≡ start + 1 + rest_length (get_or line start 0) (drop (start + 1) line)
    → words_of (drop from line) ≡ take (end - start) (drop start line) ∷ words_of (drop end line)
next_word_at line from start end begins inside ends =
    let x : ℕ = get_or line start 0 in
    let xs : List ℕ = drop (start + 1) line in
    let r : ℕ = rest_length x xs in
    let split : drop start line ≡ x ∷ xs = drop_more line start 0 inside in
    let long : end - start ≡ 1 + r = omega (arith, ends) in
    let on : end ≡ start + (1 + r) = omega (arith, ends) in
    let here : drop (position_or_len is_solid (drop from line)) (drop from line) ≡ x ∷ xs =
    drop-drop (position_or_len is_solid (drop from line)) from line ∙ ap (λ n. drop n line) (sym begins) ∙ split in
    first_word (drop from line) x xs here
    ∙ ap (λ ys. take (1 + r) ys ∷ words_of (drop (1 + r) ys)) (sym split)
    ∙ ap (λ n. take n (drop start line) ∷ words_of (drop (1 + r) (drop start line))) (sym long)
    ∙ ap (λ ys. take (end - start) (drop start line) ∷ words_of ys)
    (drop-drop (1 + r) start line ∙ ap (λ n. drop n line) (sym on))

-- ---- pieces

pub last_piece : (byte : ℕ) (xs : List ℕ) → position (λ b. eqb b byte) xs ≡ None
    → slice_split (λ b. eqb b byte) xs ≡ xs ∷ []
last_piece byte xs e = last_of (position_or_len (λ b. eqb b byte) xs) byte xs refl e
  where
    cut_none : (i : ℕ) (b : Bool) → cond b (Some i) None ≡ None → b ≡ false
    cut_none i true e = absurd cc
    cut_none i false e = refl

    step : (c : Bool) (byte x : ℕ) (xs : List ℕ) → eqb x byte ≡ c
        → (length (x ∷ xs) ≤ cond (not c) (1 + position_or_len (λ b. eqb b byte) xs) 0)
        → (length xs ≤ position_or_len (λ b. eqb b byte) xs → slice_split (λ b. eqb b byte) xs ≡ xs ∷ [])
        → slice_split (λ b. eqb b byte) (x ∷ xs) ≡ (x ∷ xs) ∷ []
    step true byte x xs c h again = absurd (omega arith)
    step false byte x xs c h again = rw (c, again (omega arith)) refl

    all_kept : (byte : ℕ) (xs : List ℕ) → length xs ≤ position_or_len (λ b. eqb b byte) xs
        → slice_split (λ b. eqb b byte) xs ≡ xs ∷ []
    all_kept byte [] h = refl
    all_kept byte (x ∷ xs) h = step (eqb x byte) byte x xs refl h (all_kept byte xs)

    last_of : (i : ℕ) (byte : ℕ) (xs : List ℕ) → i ≡ position_or_len (λ b. eqb b byte) xs
        → position (λ b. eqb b byte) xs ≡ None → slice_split (λ b. eqb b byte) xs ≡ xs ∷ []
    last_of i byte xs same e =
        all_kept byte xs (ltb-false (position_or_len (λ b. eqb b byte) xs) (length xs)
        (cut_none (position_or_len (λ b. eqb b byte) xs) (ltb (position_or_len (λ b. eqb b byte) xs) (length xs)) e))

cut_at : (byte : ℕ) (xs : List ℕ) (i : ℕ) → position_or_len (λ b. eqb b byte) xs ≡ i → i < length xs
    → slice_split (λ b. eqb b byte) xs ≡ take i xs ∷ slice_split (λ b. eqb b byte) (drop (i + 1) xs)
cut_at byte [] i e h = absurd (omega (arith, h))
cut_at byte (x ∷ xs) i e h =
    step (eqb x byte) byte x xs i refl e h (cut_at byte xs (position_or_len (λ b. eqb b byte) xs) refl)
  where
    step : (c : Bool) (byte x : ℕ) (xs : List ℕ) (i : ℕ) → eqb x byte ≡ c
        → cond (not c) (1 + position_or_len (λ b. eqb b byte) xs) 0 ≡ i → i < length (x ∷ xs)
        → (position_or_len (λ b. eqb b byte) xs < length xs
        → slice_split (λ b. eqb b byte) xs ≡ take (position_or_len (λ b. eqb b byte) xs) xs
        ∷ slice_split (λ b. eqb b byte) (drop (position_or_len (λ b. eqb b byte) xs + 1) xs))
        → slice_split (λ b. eqb b byte) (x ∷ xs) ≡ take i (x ∷ xs)
        ∷ slice_split (λ b. eqb b byte) (drop (i + 1) (x ∷ xs))
    step true byte x xs i c e h again = rw (c, ← e) refl
    step false byte x xs i c e h again =
        let k : ℕ = position_or_len (λ b. eqb b byte) xs in
        let more : suc k + 1 ≡ suc (k + 1) = omega arith in
        rw (c, ← e, again (omega arith), one_more k, more) refl

abbrev around : List ℕ → ℕ → List ℕ × List ℕ
around xs k = (take k xs, drop (k + 1) xs)

abbrev is_cut : ℕ → List ℕ → List ℕ × List ℕ → Type 0
is_cut byte xs parts = slice_split (λ b. eqb b byte) xs ≡ parts.0 ∷ slice_split (λ b. eqb b byte) parts.1

next_of : (byte : ℕ) (xs : List ℕ) (parts : List ℕ × List ℕ) (b : Bool)
    → ltb (position_or_len (λ b. eqb b byte) xs) (length xs) ≡ b
    → option_map (around xs) (cond b (Some (position_or_len (λ b. eqb b byte) xs)) None) ≡ Some parts
    → is_cut byte xs parts
next_of byte xs parts true t e =
    subst (is_cut byte xs) (same_Some (around xs (position_or_len (λ b. eqb b byte) xs)) parts e)
    (cut_at byte xs (position_or_len (λ b. eqb b byte) xs) refl
    (ltb-true (position_or_len (λ b. eqb b byte) xs) (length xs) t))
next_of byte xs parts false t e = absurd (none-some parts e)

-- the first cut gives the first piece
pub next_piece : (byte : ℕ) (xs piece rest : List ℕ) → Some (piece, rest) ≡ cut byte xs
    → pieces byte xs ≡ piece ∷ pieces byte rest
unfolding cut pieces
next_piece byte xs piece rest e =
    next_of byte xs (piece, rest) (ltb (position_or_len (λ b. eqb b byte) xs) (length xs)) refl (sym e)

no_cut : (o : Option ℕ) (f : ℕ → List ℕ × List ℕ) → option_map f o ≡ None → o ≡ None
no_cut None f e = refl
no_cut (Some k) f e = absurd (none-some (f k) (sym e))

-- without a cut the word is the one piece
pub no_more_pieces : (byte : ℕ) (xs : List ℕ) → None ≡ cut byte xs → pieces byte xs ≡ xs ∷ []
unfolding cut pieces
no_more_pieces byte xs e = last_piece byte xs (no_cut (position (λ b. eqb b byte) xs) (around xs) (sym e))
