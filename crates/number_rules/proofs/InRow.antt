-- Numbers in a row that are looked at one after another.
use Rattle.std.proofs.Common.{◌≡◌, ◌∙◌, ℕ, zero, suc, ◌+◌, ◌≤◌, ◌<◌, ◌||◌, ◌++◌, List, [], ◌∷◌, Bool, true, false, arith, refl, sym, ap, length, add-one}
use Rattle.std.proofs.lemmas.List.Folds.{list_any-append, list_any_at}
use Rattle.std.proofs.lemmas.List.FromFn.{length-range_with_len, get_or-range_with_len}
use Rattle.std.specs.List.{list_any, range_with_len}

-- one of them that passes a test settles whether any does
pub found-in-range : (p : ℕ → Bool) (first count place : ℕ) → place < count → p (first + place) ≡ true
    → list_any p (range_with_len first count) ≡ true
found-in-range p first count place within passes =
    let there : place < length (range_with_len first count) = omega (arith, length-range_with_len first count)
    in list_any_at p (range_with_len first count) place 0 there
    (ap p (get_or-range_with_len first count place 0 within) ∙ passes)

-- with one more, that comes last
range-more : (first count : ℕ) → range_with_len first (count + 1) ≡ range_with_len first count ++ (first + count) ∷ []
range-more first zero =
    let e : first ≡ first + 0 = omega arith
    in ap (λ (n : ℕ). n ∷ []) e
range-more first (suc count) =
    let e : first + 1 + count ≡ first + suc count = omega arith
    in ap (range_with_len first) (add-one (suc count)) ∙ ap (λ (ns : List ℕ). first ∷ ns)
    (ap (range_with_len (first + 1)) (sym (add-one count)) ∙ range-more (first + 1) count
    ∙ ap (λ (n : ℕ). range_with_len (first + 1) count ++ n ∷ []) e)

none-by : (b c : Bool) → b ≡ false → c ≡ false → (b || (c || false)) ≡ false
none-by b c one other = rw (one, other) refl

-- where none before passes, and the next one doesn't, none passes up to it
pub none-in-more : (p : ℕ → Bool) (first place : ℕ) → list_any p (range_with_len first place) ≡ false
    → p (first + place) ≡ false → list_any p (range_with_len first (place + 1)) ≡ false
none-in-more p first place before next =
    ap (list_any p) (range-more first place)
    ∙ list_any-append p (range_with_len first place) ((first + place) ∷ [])
    ∙ none-by (list_any p (range_with_len first place)) (p (first + place)) before next

-- where none from a number on passes, none of those in a row from it on does
pub none-from : (p : ℕ → Bool) (first count : ℕ) → ((q : ℕ) → first ≤ q → p q ≡ false)
    → list_any p (range_with_len first count) ≡ false
none-from p first zero none = refl
none-from p first (suc count) none =
    let here : first ≤ first = omega arith
    in ap (λ b. b || list_any p (range_with_len (first + 1) count)) (none first here)
    ∙ none-from p (first + 1) count (λ q above. let from : first ≤ q = omega (arith, above) in none q from)
