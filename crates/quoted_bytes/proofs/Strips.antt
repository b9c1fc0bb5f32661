-- A prefix: what `strip_prefix` answers, and the laws of `strip`.
use Rattle.std.proofs.Common.{◌≡◌, ℕ, ◌+◌, true, false, eqb, List, ◌∷◌, ◌++◌, length, take, drop, Option, Some, None, MatchOption, refl, sym, ap, ◌∙◌}
use Rattle.std.specs.Prelude.{option_copied, bytes_eq, codes}
use Rattle.std.specs.Borrow.{Bor}
use Rattle.std.specs.Cmp.Lexicographic.{pointwise}
use Rattle.std.proofs.lemmas.List.{take_at, drop_at, take-append-drop}
use Rattle.std.proofs.lemmas.Option.{cond_some}
use Rattle.std.proofs.lemmas.Slice.Eq.{bytes_eq-Decides}
use Rattle.quoted_bytes.specs.Front.{strip}

-- what std's clauses say
pub strip_from : (s p : List ℕ) (r : Option (Bor (List ℕ)))
    → MatchOption r (pointwise eqb (take (length p) s) p ≡ false) (λ x. (pointwise eqb (take (length p) s) p ≡ true)
    × (x.now ≡ drop (length p) s) × (length x.now + length p ≡ length s)) → option_copied r ≡ strip p s
unfolding strip
strip_from s p None h = rw h refl
strip_from s p (Some x) h = rw h.0 (ap Some h.1)

-- what is left stands behind the prefix
pub strip_takes : (p s rest : List ℕ) → strip p s ≡ Some rest → s ≡ p ++ rest
unfolding strip
strip_takes p s rest e =
    let g = cond_some (bytes_eq (take (length p) s) p) (drop (length p) s) rest e in
    let front : take (length p) s ≡ p = (bytes_eq-Decides (take (length p) s) p).0 g.0 in
    sym (take-append-drop (length p) s) ∙ rw (front, g.1) refl

-- the prefix is taken off, and what stands behind it is left
pub strip_again : (p rest : List ℕ) → strip p (p ++ rest) ≡ Some rest
unfolding strip
strip_again p rest =
    let front : take (length p) (p ++ rest) ≡ p = take_at p rest (length p) refl in
    let same : bytes_eq (take (length p) (p ++ rest)) p ≡ true =
    (bytes_eq-Decides (take (length p) (p ++ rest)) p).1 front in
    rw (same, drop_at p rest (length p) refl) refl

-- a text that begins with a quote is no repetition
pub no_repetition : (rest : List ℕ) → strip (codes "rep:") (34 ∷ rest) ≡ None
unfolding strip
no_repetition rest = refl
