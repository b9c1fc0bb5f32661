-- Texts between quotes, byte after byte and at once.
use Rattle.std.proofs.Common.{◌≡◌, ℕ, zero, suc, ◌-◌, ◌<◌, ◌≤◌, Bool, true, false, cond, List, [], ◌∷◌, ◌++◌, length, length-append, Option, Some, None, refl, sym, ap, ◌∙◌, append_assoc, arith}
use Rattle.std.specs.Prelude.{codes, option_map, bytes_eq}
use Rattle.std.specs.List.{list_all}
use Rattle.std.proofs.lemmas.List.{append-nil}
use Rattle.std.proofs.lemmas.Bool.{and_parts}
use Rattle.kernel_model.specs.Texts.{is_plain}
use Rattle.quoted_bytes.specs.Bytes.{text_byte_at}
use Rattle.quoted_bytes.proofs.Bytes.{plain_again}
use Rattle.script_reader.specs.Parts.{closed_at, with_byte, quoted_at}

onto_byte : (so_far : List ℕ) (b : ℕ) (o : Option (List ℕ))
    → option_map (λ more. so_far ++ more) (option_map (with_byte b) o)
    ≡ option_map (λ more. (so_far ++ b ∷ []) ++ more) o
onto_byte so_far b None = refl
onto_byte so_far b (Some t) = ap Some (sym (append_assoc so_far (b ∷ []) t))

onto_closed : (so_far : List ℕ) (c : Bool)
    → option_map (λ more. so_far ++ more) (cond c (Some []) None) ≡ cond c (Some so_far) None
onto_closed so_far false = refl
onto_closed so_far true = ap Some (append-nil so_far)

-- one byte more
pub quoted-goes : (so_far rest after : List ℕ) (n b : ℕ) → 0 < n → Some (b, after) ≡ text_byte_at rest
    → option_map (λ more. so_far ++ more) (quoted_at n rest)
    ≡ option_map (λ more. (so_far ++ b ∷ []) ++ more) (quoted_at (n - 1) after)
unfolding quoted_at
quoted-goes so_far rest after zero b some e = absurd (omega (arith, some))
quoted-goes so_far rest after (suc n) b some e =
    let same : suc n - 1 ≡ n = omega arith in
    rw (← e, same) (onto_byte so_far b (quoted_at n after))

-- no byte is next
pub quoted-ends : (so_far rest : List ℕ) (n : ℕ) → text_byte_at rest ≡ None
    → option_map (λ more. so_far ++ more) (quoted_at n rest) ≡ closed_at so_far rest
unfolding quoted_at
quoted-ends so_far rest zero e = onto_closed so_far (bytes_eq rest (codes "\""))
quoted-ends so_far rest (suc n) e = rw e (onto_closed so_far (bytes_eq rest (codes "\"")))

-- no byte is left
pub quoted-full : (so_far rest : List ℕ) (n : ℕ) → n ≡ 0
    → option_map (λ more. so_far ++ more) (quoted_at n rest) ≡ closed_at so_far rest
unfolding quoted_at
quoted-full so_far rest zero e = onto_closed so_far (bytes_eq rest (codes "\""))
quoted-full so_far rest (suc n) e = absurd (omega (arith, e))

-- ---- a text without escapes, which is copied at once

closing : (n : ℕ) → quoted_at n (34 ∷ []) ≡ Some []
unfolding quoted_at text_byte_at
closing zero = refl
closing (suc n) = refl

plain_text : (xs : List ℕ) (n : ℕ) → length xs ≤ n → list_all is_plain xs ≡ true
    → quoted_at n (xs ++ 34 ∷ []) ≡ Some xs
unfolding quoted_at
plain_text [] n h e = closing n
plain_text (b ∷ xs) zero h e = absurd (omega (arith, h))
plain_text (b ∷ xs) (suc n) h e =
    let both = and_parts (is_plain b) (list_all is_plain xs) e in
    rw (plain_again b (xs ++ 34 ∷ []) both.0, plain_text xs n (omega (arith, h)) both.1) refl

-- the bytes before the closing quote, where each stands for itself
pub quoted_at_once : (xs front : List ℕ) → xs ≡ front ++ 34 ∷ [] → list_all is_plain front ≡ true
    → Some front ≡ quoted_at (length xs) xs
quoted_at_once xs front split plain =
    let long : length front ≤ length (front ++ 34 ∷ []) = omega (arith, length-append front (34 ∷ [])) in
    sym (ap (λ ys. quoted_at (length ys) ys) split ∙ plain_text front (length (front ++ 34 ∷ [])) long plain)
