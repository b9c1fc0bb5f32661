-- A walk over numbers in order, through lists that are joined: which number's list has the element looked for.
use Rattle.std.proofs.Common.{◌≡◌, ℕ, zero, suc, ◌+◌, ◌-◌, ◌<◌, ◌≤◌, List, [], ◌∷◌, ◌++◌, length, get_or, slice_get, Option, Some, None, refl, sym, ap, subst, ◌∙◌, arith, length-append}
use Rattle.std.specs.List.{flat_map, sum}
use Rattle.std.proofs.lemmas.Option.{slice_get_within}
use Rattle.std.proofs.lemmas.List.Sums.{sum_by-cons}
use Rattle.world_model.specs.World.{numbers}
use Rattle.world_core.proofs.Lists.{joined_here, joined_next, slice_get-left, slice_get-right}

-- the lists of the numbers after one, up to another
abbrev pub span : {X : Type 0} → (ℕ → List X) → ℕ → ℕ → List X
span f from last = flat_map f (numbers (from + 1) (last - from))

-- the lists of the numbers up to this one are passed, and so many elements are still to be passed
pub record IsWalk {X : Type 0} (f : ℕ → List X) (from last index at left : ℕ) : Type 0 where
  pub same : slice_get (span f from last) index ≡ slice_get (span f at last) left

-- at its start a walk has passed nothing
pub IsWalk-first : {X : Type 0} (f : ℕ → List X) (from last index : ℕ) → IsWalk f from last index from index
IsWalk-first f from last index = record { same = refl }

-- where the next number's list goes far enough, it has the element looked for
pub IsWalk-here : {X : Type 0} (f : ℕ → List X) (from last index at left : ℕ) → IsWalk f from last index at left
    → at < last → left < length (f (at + 1)) → slice_get (f (at + 1)) left ≡ slice_get (span f from last) index
IsWalk-here f from last index at left walk lt within =
    sym (walk.same ∙ joined_here f (at + 1) (last - at) left (omega arith) within)

-- a next number's list that doesn't go far enough is passed, with all its elements
pub IsWalk-next : {X : Type 0} (f : ℕ → List X) (from last index at left : ℕ) → IsWalk f from last index at left
    → at < last → length (f (at + 1)) ≤ left → IsWalk f from last index (at + 1) (left - length (f (at + 1)))
IsWalk-next f from last index at left walk lt past =
    let e : last - at - 1 ≡ last - (at + 1) = omega arith
    in record {
      same =
          walk.same ∙ joined_next f (at + 1) (last - at) left (omega arith) past
          ∙ ap (λ (k : ℕ). slice_get (flat_map f (numbers (at + 1 + 1) k)) (left - length (f (at + 1)))) e;
    }

-- a walk that is past the last number found nothing
pub IsWalk-none : {X : Type 0} (f : ℕ → List X) (from last index at left : ℕ) → IsWalk f from last index at left
    → last ≤ at → None ≡ slice_get (span f from last) index
IsWalk-none f from last index at left walk le =
    let e : last - at ≡ 0 = omega arith
    in sym (walk.same ∙ ap (λ (k : ℕ). slice_get (flat_map f (numbers (at + 1) k)) left) e)

-- all of them
pub span-all : {X : Type 0} (f : ℕ → List X) (last : ℕ) → span f 0 last ≡ flat_map f (numbers 1 last)
span-all f last = let e : last - 0 ≡ last = omega arith in ap (λ (k : ℕ). flat_map f (numbers 1 k)) e

-- the first element of two lists
pub first_left : {X : Type 0} (xs ys : List X) (x : X) → Some x ≡ slice_get xs 0 → Some x ≡ slice_get (xs ++ ys) 0
first_left xs ys x e =
    let lt = slice_get_within xs 0 x (sym e) in e ∙ sym (slice_get-left xs ys 0 lt)

-- a list without a first element is empty
pub nothing_first : {X : Type 0} (xs : List X) → None ≡ slice_get xs 0 → length xs ≤ 0
nothing_first [] e = omega arith
nothing_first (x ∷ xs) e = absurd (let f : ⊥ = cc in f)

-- where the first of two lists has no first element, that of the second is the first of both
pub first_right : {X : Type 0} (xs ys : List X) (o : Option X) → None ≡ slice_get xs 0 → o ≡ slice_get ys 0
    → o ≡ slice_get (xs ++ ys) 0
first_right xs ys o none e =
    let le = nothing_first xs none
    in let z : 0 ≡ 0 - length xs = omega arith
    in e ∙ ap (λ (k : ℕ). slice_get ys k) z ∙ sym (slice_get-right xs ys 0 le)

-- a number with no elements is passed
IsWalk-past : {X : Type 0} (f : ℕ → List X) (from last index at left : ℕ) → IsWalk f from last index at left
    → at < last → length (f (at + 1)) ≤ 0 → IsWalk f from last index (at + 1) left
IsWalk-past f from last index at left walk lt none =
    let z : left - length (f (at + 1)) ≡ left = omega arith
    in subst (λ (k : ℕ). IsWalk f from last index (at + 1) k) z
    (IsWalk-next f from last index at left walk lt (omega arith))

-- so many numbers with no elements are passed
pub IsWalk-along : {X : Type 0} (f : ℕ → List X) (from last index at left count : ℕ)
    → IsWalk f from last index at left
    → at + count ≤ last → ((i : ℕ) → at ≤ i → i < at + count → length (f (i + 1)) ≤ 0)
    → IsWalk f from last index (at + count) left
IsWalk-along f from last index at left zero walk le none =
    let e : at ≡ at + 0 = omega arith in subst (λ (k : ℕ). IsWalk f from last index k left) e walk
IsWalk-along f from last index at left (suc count) walk le none =
    let e : at + count + 1 ≡ at + suc count = omega arith in
    let before = IsWalk-along f from last index at left count walk (omega arith)
    (λ i ge lt. none i ge (omega arith)) in
    subst (λ (k : ℕ). IsWalk f from last index k left) e
    (IsWalk-past f from last index (at + count) left before (omega arith)
    (none (at + count) (omega arith) (omega arith)))

-- the sum of what is kept for the numbers is how many elements their lists have, joined
pub sum-joined : {X : Type 0} (f : ℕ → List X) (kept : List ℕ) (first : ℕ)
    → ((k : ℕ) → k < length kept → get_or kept k 0 ≡ length (f (first + k)))
    → sum kept ≡ length (flat_map f (numbers first (length kept)))
sum-joined f [] first same = refl
sum-joined {X} f (x ∷ kept) first same =
    let rest = sum-joined f kept (first + 1)
    (λ k lt. let e : first + suc k ≡ first + 1 + k = omega arith in
    same (suc k) (omega arith) ∙ ap (λ (n : ℕ). length (f n)) e) in
    let e : first + 0 ≡ first = omega arith in
    let here = same 0 (omega arith) ∙ ap (λ (n : ℕ). length (f n)) e in
    let all = length-append (f first) (flat_map f (numbers (first + 1) (length kept))) in
    let whole = sum_by-cons (λ (x : ℕ). x) x kept in omega (arith, rest, here)
