-- Lists: elements of lists joined end to end, filters, and numbers in order.
use Rattle.std.proofs.Common.{◌≡◌, ℕ, ◌+◌, ◌-◌, ◌<◌, ◌≤◌, zero, suc, Bool, true, false, List, [], ◌∷◌, ◌++◌, length, map, get_or, slice_get, cond, Some, None, refl, sym, ap, ◌∙◌, arith}
use Rattle.std.specs.List.{filter, flat_map, count_by}
use Rattle.std.proofs.lemmas.List.Sums.{sum_by-cons}
use Rattle.world_model.specs.World.{numbers}

-- an element that the first of two joined lists has is found there
pub slice_get-left : {X : Type 0} (xs ys : List X) (i : ℕ) → i < length xs → slice_get (xs ++ ys) i ≡ slice_get xs i
slice_get-left [] ys i lt = absurd (omega arith)
slice_get-left (x ∷ xs) ys zero lt = refl
slice_get-left (x ∷ xs) ys (suc i) lt = slice_get-left xs ys i (omega arith)

-- an element behind the first of two joined lists is found in the second
pub slice_get-right : {X : Type 0} (xs ys : List X) (i : ℕ) → length xs ≤ i
    → slice_get (xs ++ ys) i ≡ slice_get ys (i - length xs)
slice_get-right [] ys i le = let e : i ≡ i - 0 = omega arith in ap (λ (n : ℕ). slice_get ys n) e
slice_get-right (x ∷ xs) ys zero le = absurd (omega arith)
slice_get-right (x ∷ xs) ys (suc i) le =
    let e : i - length xs ≡ suc i - suc (length xs) = omega arith
    in slice_get-right xs ys i (omega arith) ∙ ap (λ (n : ℕ). slice_get ys n) e

-- a place where nothing is found is past the end
pub past_of-none : {X : Type 0} (xs : List X) (i : ℕ) → None ≡ slice_get xs i → length xs ≤ i
past_of-none [] i none = omega arith
past_of-none (x ∷ xs) zero none = absurd (let f : ⊥ = cc in f)
past_of-none (x ∷ xs) (suc i) none = let rest = past_of-none xs i none in omega arith

pub numbers-next : (first count : ℕ) → 0 < count → numbers first count ≡ first ∷ numbers (first + 1) (count - 1)
numbers-next first zero lt = absurd (omega arith)
numbers-next first (suc count) lt =
    let e : count ≡ suc count - 1 = omega arith in ap (λ (n : ℕ). first ∷ numbers (first + 1) n) e

-- one number more is the next one, at the end
pub numbers-more : (count first : ℕ) → numbers first (count + 1) ≡ numbers first count ++ (first + count) ∷ []
numbers-more zero first = let e : first ≡ first + 0 = omega arith in ap (λ (n : ℕ). n ∷ []) e
numbers-more (suc count) first =
    let e : first + 1 + count ≡ first + suc count = omega arith
    in let e' : suc (count + 1) ≡ suc count + 1 = omega arith
    in ap (λ (n : ℕ). numbers first n) (sym e')
    ∙ ap (λ (l : List ℕ). first ∷ l) (numbers-more count (first + 1))
    ∙ ap (λ (n : ℕ). first ∷ (numbers (first + 1) count ++ n ∷ [])) e

cond-cons : {X Y : Type 0} (g : X → Y) (b : Bool) (x : X) (xs : List X)
    → cond b (g x ∷ map g xs) (map g xs) ≡ map g (cond b (x ∷ xs) xs)
cond-cons g true x xs = refl
cond-cons g false x xs = refl

-- what passes a test once it is mapped is the same, filtered before or after
pub filter-map : {X Y : Type 0} (g : X → Y) (p : Y → Bool) (xs : List X)
    → filter p (map g xs) ≡ map g (filter (λ x. p (g x)) xs)
filter-map g p [] = refl
filter-map {X} {Y} g p (x ∷ xs) =
    ap (λ (l : List Y). cond (p (g x)) (g x ∷ l) l) (filter-map g p xs)
    ∙ cond-cons g (p (g x)) x (filter (λ y. p (g y)) xs)

-- tests that agree on all numbers from 1 on leave the same numbers
pub filter_same : (f g : ℕ → Bool) (count first : ℕ) → 1 ≤ first → ((k : ℕ) → 1 ≤ k → f k ≡ g k)
    → filter f (numbers first count) ≡ filter g (numbers first count)
filter_same f g zero first le same = refl
filter_same f g (suc count) first le same =
    ap (λ (b : Bool). cond b (first ∷ filter f (numbers (first + 1) count)) (filter f (numbers (first + 1) count)))
    (same first le)
    ∙ ap (λ (l : List ℕ). cond (g first) (first ∷ l) l) (filter_same f g count (first + 1) (omega arith) same)

-- as many numbers pass their test as elements pass theirs, where each number's is that of its element
pub count_numbers : {X : Type 0} (f : X → Bool) (g : ℕ → Bool) (d : X) (xs : List X) (first : ℕ)
    → ((j : ℕ) → g (first + j) ≡ f (get_or xs j d)) → count_by g (numbers first (length xs)) ≡ count_by f xs
count_numbers f g d [] first same = refl
count_numbers {X} f g d (x ∷ xs) first same =
    let e : first ≡ first + 0 = omega arith
    in let here : g first ≡ f x = ap g e ∙ same 0
    in let rest = count_numbers f g d xs (first + 1)
    (λ j. let e' : first + 1 + j ≡ first + suc j = omega arith in ap g e' ∙ same (suc j))
    in sum_by-cons (λ (k : ℕ). cond (g k) 1 0) first (numbers (first + 1) (length xs))
    ∙ ap (λ (b : Bool). cond b 1 0 + count_by g (numbers (first + 1) (length xs))) here
    ∙ ap (λ (n : ℕ). cond (f x) 1 0 + n) rest ∙ sym (sum_by-cons (λ (y : X). cond (f y) 1 0) x xs)

-- an element of a filtered list of numbers: the first number passes and is the one, passes and is passed by, or doesn't
-- pass

-- where the first number passes, it is the first that is left
pub filter_hit : (g : ℕ → Bool) (first count : ℕ) → 0 < count → g first ≡ true
    → slice_get (filter g (numbers first count)) 0 ≡ Some first
filter_hit g first count lt e =
    let rest = filter g (numbers (first + 1) (count - 1))
    in ap (λ (l : List ℕ). slice_get (filter g l) 0) (numbers-next first count lt)
    ∙ ap (λ (b : Bool). slice_get (cond b (first ∷ rest) rest) 0) e

-- where the first number passes, a later place is found behind it, one less away
pub filter_pass : (g : ℕ → Bool) (first count i : ℕ) → 0 < count → g first ≡ true → 0 < i
    → slice_get (filter g (numbers first count)) i ≡ slice_get (filter g (numbers (first + 1) (count - 1))) (i - 1)
filter_pass g first count zero lt e pos = absurd (omega arith)
filter_pass g first count (suc i) lt e pos =
    let rest = filter g (numbers (first + 1) (count - 1))
    in let same : i ≡ suc i - 1 = omega arith
    in ap (λ (l : List ℕ). slice_get (filter g l) (suc i)) (numbers-next first count lt)
    ∙ ap (λ (b : Bool). slice_get (cond b (first ∷ rest) rest) (suc i)) e ∙ ap (λ (n : ℕ). slice_get rest n) same

-- where the first number doesn't pass, the place is found behind it, as far away
pub filter_skip : (g : ℕ → Bool) (first count i : ℕ) → 0 < count → g first ≡ false
    → slice_get (filter g (numbers first count)) i ≡ slice_get (filter g (numbers (first + 1) (count - 1))) i
filter_skip g first count i lt e =
    let rest = filter g (numbers (first + 1) (count - 1))
    in ap (λ (l : List ℕ). slice_get (filter g l) i) (numbers-next first count lt)
    ∙ ap (λ (b : Bool). slice_get (cond b (first ∷ rest) rest) i) e

-- the same of lists joined for each number

-- a place that the first number's list has is found there
pub joined_here : {X : Type 0} (f : ℕ → List X) (first count i : ℕ) → 0 < count → i < length (f first)
    → slice_get (flat_map f (numbers first count)) i ≡ slice_get (f first) i
joined_here f first count i lt within =
    ap (λ (l : List ℕ). slice_get (flat_map f l) i) (numbers-next first count lt)
    ∙ slice_get-left (f first) (flat_map f (numbers (first + 1) (count - 1))) i within

-- a place behind the first number's list is found in the others, nearer by the length of that list
pub joined_next : {X : Type 0} (f : ℕ → List X) (first count i : ℕ) → 0 < count → length (f first) ≤ i
    → slice_get (flat_map f (numbers first count)) i
    ≡ slice_get (flat_map f (numbers (first + 1) (count - 1))) (i - length (f first))
joined_next f first count i lt past =
    ap (λ (l : List ℕ). slice_get (flat_map f l) i) (numbers-next first count lt)
    ∙ slice_get-right (f first) (flat_map f (numbers (first + 1) (count - 1))) i past
