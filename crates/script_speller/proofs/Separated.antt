-- Words with one blank between each two are the words of their line.
use Rattle.std.proofs.Common.{◌≡◌, ℕ, ◌+◌, ◌≤◌, Bool, true, false, ◌&&◌, leb, List, [], ◌∷◌, ◌++◌, length, map, refl, sym, ap, ◌∙◌, append_assoc, arith}
use Rattle.std.specs.List.{AllByRecursion, flat_map, list_all}
use Rattle.std.proofs.lemmas.Bool.{and_parts, and_from, leb-true, le-leb, ne_eqb}
use Rattle.std.proofs.lemmas.List.{length-append}
use Rattle.script_reader.specs.Words.{Stretch, is_blank, entering, leaving, words_in, words_of}
use Rattle.script_reader.specs.Words.Stretch.{between, plain, quoted}
use Rattle.script_reader.proofs.Widths.{width}
use Rattle.script_speller.specs.Spelling.{behind, behind_blanks, separated}

-- ---- words

-- a printable byte that is no blank
abbrev pub is_solid : ℕ → Bool
is_solid b = leb 33 b && leb b 126

-- one that may stand between quotes
abbrev pub is_printable : ℕ → Bool
is_printable b = leb 32 b && leb b 126

-- the rest of a word: solid bytes, and behind a quote printable ones to the closing quote
abbrev pub is_rest : Stretch → List ℕ → Bool
is_rest between bytes = false
is_rest plain [] = true
is_rest plain (b ∷ bytes) = is_solid b && is_rest plain bytes
is_rest quoted [] = false
is_rest quoted (b ∷ bytes) = is_printable b && is_rest (leaving b) bytes

-- what is one word of a line, alone and in front of a blank
abbrev pub is_word : List ℕ → Bool
is_word [] = false
is_word (b ∷ bytes) = is_solid b && is_rest (entering b) bytes

-- each of them is a word
abbrev pub AreWords : List (List ℕ) → Type 0
AreWords ws = AllByRecursion (λ w. is_word w ≡ true) ws

solid_is_no_blank : (b : ℕ) → is_solid b ≡ true → is_blank b ≡ false
solid_is_no_blank b h =
    let low : 33 ≤ b = leb-true 33 b (and_parts (leb 33 b) (leb b 126) h).0 in
    rw (
      ne_eqb b 32 (λ e. omega (arith, low, e)),
      ne_eqb b 9 (λ e. omega (arith, low, e)),
      ne_eqb b 13 (λ e. omega (arith, low, e)),
    ) refl

-- the words behind the rest of one
rest_words : (s : Stretch) (bytes more : List ℕ) (ws : List (List ℕ)) → is_rest s bytes ≡ true
    → words_in plain more ≡ [] ∷ ws → words_in s (bytes ++ more) ≡ bytes ∷ ws
unfolding words_in
rest_words between bytes more ws h e = absurd cc
rest_words plain [] more ws h e = e
rest_words plain (b ∷ bytes) more ws h e =
    let p = and_parts (is_solid b) (is_rest plain bytes) h in
    rw (solid_is_no_blank b p.0, rest_words plain bytes more ws p.1 e) refl
rest_words quoted [] more ws h e = absurd cc
rest_words quoted (b ∷ bytes) more ws h e =
    let p = and_parts (is_printable b) (is_rest (leaving b) bytes) h in
    rw (rest_words (leaving b) bytes more ws p.1 e) refl

-- the first of words
first_word : (w more : List ℕ) (ws : List (List ℕ)) → is_word w ≡ true → words_in plain more ≡ [] ∷ ws
    → words_in between (w ++ more) ≡ w ∷ ws
unfolding words_in
first_word [] more ws h e = absurd cc
first_word (b ∷ bytes) more ws h e =
    let p = and_parts (is_solid b) (is_rest (entering b) bytes) h in
    rw (solid_is_no_blank b p.0, rest_words (entering b) bytes more ws p.1 e) refl

behind_words : (ws : List (List ℕ)) → AreWords ws → words_in plain (behind_blanks ws) ≡ [] ∷ ws
unfolding words_in
behind_words [] h = refl
behind_words (w ∷ ws) h =
    ap (λ (rest : List (List ℕ)). [] ∷ rest) (first_word w (behind_blanks ws) ws h.0 (behind_words ws h.1))

-- words are read back
pub words_again : (ws : List (List ℕ)) → AreWords ws → words_of (separated 32 ws) ≡ ws
unfolding words_in
words_again [] h = refl
words_again (w ∷ ws) h = first_word w (behind_blanks ws) ws h.0 (behind_words ws h.1)

-- ---- bytes of words

-- what all bytes of two texts pass, all bytes of both pass
pub all_append : (test : ℕ → Bool) (xs ys : List ℕ) → list_all test xs ≡ true → list_all test ys ≡ true
    → list_all test (xs ++ ys) ≡ true
all_append test [] ys h k = k
all_append test (x ∷ xs) ys h k =
    let p = and_parts (test x) (list_all test xs) h in
    and_from (test x) (list_all test (xs ++ ys)) p.0 (all_append test xs ys p.1 k)

solid_is_printable : (b : ℕ) → is_solid b ≡ true → is_printable b ≡ true
solid_is_printable b h =
    let p = and_parts (leb 33 b) (leb b 126) h in
    and_from (leb 32 b) (leb b 126) (le-leb 32 b (omega (arith, leb-true 33 b p.0))) p.1

rest_is_printable : (s : Stretch) (bytes : List ℕ) → is_rest s bytes ≡ true → list_all is_printable bytes ≡ true
rest_is_printable between bytes h = absurd cc
rest_is_printable plain [] h = refl
rest_is_printable plain (b ∷ bytes) h =
    let p = and_parts (is_solid b) (is_rest plain bytes) h in
    and_from (is_printable b) (list_all is_printable bytes) (solid_is_printable b p.0)
    (rest_is_printable plain bytes p.1)
rest_is_printable quoted [] h = absurd cc
rest_is_printable quoted (b ∷ bytes) h =
    let p = and_parts (is_printable b) (is_rest (leaving b) bytes) h in
    and_from (is_printable b) (list_all is_printable bytes) p.0 (rest_is_printable (leaving b) bytes p.1)

word_is_printable : (w : List ℕ) → is_word w ≡ true → list_all is_printable w ≡ true
word_is_printable [] h = refl
word_is_printable (b ∷ bytes) h =
    let p = and_parts (is_solid b) (is_rest (entering b) bytes) h in
    and_from (is_printable b) (list_all is_printable bytes) (solid_is_printable b p.0)
    (rest_is_printable (entering b) bytes p.1)

behind_is_printable : (ws : List (List ℕ)) → AreWords ws → list_all is_printable (behind_blanks ws) ≡ true
behind_is_printable [] h = refl
behind_is_printable (w ∷ ws) h =
    all_append is_printable w (behind_blanks ws) (word_is_printable w h.0) (behind_is_printable ws h.1)

-- a line of words is of printable bytes
pub words_are_printable : (ws : List (List ℕ)) → AreWords ws → list_all is_printable (separated 32 ws) ≡ true
words_are_printable [] h = refl
words_are_printable (w ∷ ws) h =
    all_append is_printable w (behind_blanks ws) (word_is_printable w h.0) (behind_is_printable ws h.1)

-- ---- lengths

pub behind_width : (byte : ℕ) (ws : List (List ℕ)) → length (flat_map (behind byte) ws) ≡ width ws
behind_width byte [] = refl
behind_width byte (w ∷ ws) =
    omega (arith, length-append w (flat_map (behind byte) ws), behind_width byte ws)

-- words, or lines, with one byte between each two
pub separated_width : (byte : ℕ) (w : List ℕ) (ws : List (List ℕ))
    → length (separated byte (w ∷ ws)) + 1 ≡ width (w ∷ ws)
separated_width byte w ws = omega (arith, length-append w (flat_map (behind byte) ws), behind_width byte ws)

-- the words of items, each behind a blank
pub behind_map : {A : Type 0} (f : A → List ℕ) (xs : List A) → behind_blanks (map f xs) ≡ flat_map (λ x. 32 ∷ f x) xs
behind_map f [] = refl
behind_map f (x ∷ xs) = ap (λ (rest : List ℕ). 32 ∷ (f x ++ rest)) (behind_map f xs)

-- a name, a word and items put behind a text, each in turn
pub three_parts : {A : Type 0} (f : A → List ℕ) (xs : List A) (out named worded new name word : List ℕ)
    → named ≡ out ++ name → worded ≡ named ++ 32 ∷ word → new ≡ worded ++ flat_map (λ x. 32 ∷ f x) xs
    → new ≡ out ++ (name ++ (32 ∷ word ++ behind_blanks (map f xs)))
three_parts f xs out named worded new name word a b c =
    let more : List ℕ = flat_map (λ x. 32 ∷ f x) xs in
    c ∙ ap (λ (x : List ℕ). x ++ more) (b ∙ ap (λ (x : List ℕ). x ++ 32 ∷ word) a)
    ∙ append_assoc (out ++ name) (32 ∷ word) more
    ∙ append_assoc out name (32 ∷ word ++ more)
    ∙ ap (λ (x : List ℕ). out ++ (name ++ (32 ∷ word ++ x))) (sym (behind_map f xs))
