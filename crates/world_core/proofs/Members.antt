-- Elements of lists.
use Rattle.std.proofs.Common.{◌≡◌, ℕ, ◌+◌, ◌<◌, ◌≤◌, zero, suc, Bool, true, false, ◌⊎◌, List, [], ◌∷◌, ◌++◌, length, map, cond, refl, sym, ap, subst, ◌∙◌, inl, inr, ⊎_elim, arith}
use Rattle.std.proofs.lemmas.Bool.{cases_eq}
use Rattle.std.specs.List.{filter, flat_map}
use Rattle.world_model.specs.World.{numbers}

-- x is one of the elements
abbrev pub Has : {X : Type 0} → List X → X → Type 0
Has [] x = ⊥
Has (y ∷ ys) x = (y ≡ x) ⊎ Has ys x

-- an element of the first list is one of both, joined
pub Has-left : {X : Type 0} (xs ys : List X) (x : X) → Has xs x → Has (xs ++ ys) x
Has-left [] ys x h = absurd h
Has-left (y ∷ xs) ys x h = ⊎_elim (λ e. inl e) (λ r. inr (Has-left xs ys x r)) h

-- an element of the second list is one of both, joined
pub Has-right : {X : Type 0} (xs ys : List X) (x : X) → Has ys x → Has (xs ++ ys) x
Has-right [] ys x h = h
Has-right (y ∷ xs) ys x h = inr (Has-right xs ys x h)

-- what an element is mapped to is in the mapped list
pub Has-map : {X Y : Type 0} (f : X → Y) (xs : List X) (x : X) → Has xs x → Has (map f xs) (f x)
Has-map f [] x h = absurd h
Has-map f (y ∷ xs) x h = ⊎_elim (λ e. inl (ap f e)) (λ r. inr (Has-map f xs x r)) h

kept : {X : Type 0} (b : Bool) (y : X) (xs : List X) (x : X) → Has xs x → Has (cond b (y ∷ xs) xs) x
kept true y xs x h = inr h
kept false y xs x h = h

-- an element that passes the test is among those left
pub Has-filter : {X : Type 0} (p : X → Bool) (xs : List X) (x : X) → Has xs x → p x ≡ true → Has (filter p xs) x
Has-filter p [] x h e = absurd h
Has-filter {X} p (y ∷ xs) x h e =
    ⊎_elim (λ (same : y ≡ x).
    let e' : p y ≡ true = ap p same ∙ e
    in subst (λ (b : Bool). Has (cond b (y ∷ filter p xs) (filter p xs)) x) (sym e') (inl same))
    (λ r. kept (p y) y (filter p xs) x (Has-filter p xs x r e)) h

-- an element of one of the joined lists is in the joined list
pub Has-flat_map : {X Y : Type 0} (f : X → List Y) (xs : List X) (x : X) (y : Y) → Has xs x → Has (f x) y
    → Has (flat_map f xs) y
Has-flat_map f [] x y h here = absurd h
Has-flat_map {X} {Y} f (z ∷ xs) x y h here =
    ⊎_elim (λ (same : z ≡ x). Has-left (f z) (flat_map f xs) y (subst (λ (k : X). Has (f k) y) (sym same) here))
    (λ r. Has-right (f z) (flat_map f xs) y (Has-flat_map f xs x y r here)) h

-- a number from the first on, before the end, is one of the numbers
pub Has-numbers : (count first k : ℕ) → first ≤ k → k < first + count → Has (numbers first count) k
Has-numbers zero first k le lt = absurd (omega arith)
Has-numbers (suc count) first k le lt =
    ⊎_elim (λ (same : first ≡ k). inl same)
    (λ other. inr (Has-numbers count (first + 1) k (omega arith) (omega arith))) (cases_eq first k)

-- a list of length 0 has no element
pub nothing-there : {X : Type 0} (xs : List X) (x : X) → length xs ≡ 0 → Has xs x → ⊥
nothing-there [] x e h = h
nothing-there (y ∷ xs) x e h = omega arith

-- where nothing passes the test, nothing is left
pub filter-none : {X : Type 0} (p : X → Bool) (xs : List X) → ((x : X) → p x ≡ false) → filter p xs ≡ []
filter-none p [] none = refl
filter-none {X} p (x ∷ xs) none =
    ap (λ (b : Bool). cond b (x ∷ filter p xs) (filter p xs)) (none x) ∙ filter-none p xs none

-- lists that are all empty come to nothing, joined
pub flat_map-none : {X Y : Type 0} (f : X → List Y) (xs : List X) → ((x : X) → f x ≡ []) → flat_map f xs ≡ []
flat_map-none f [] none = refl
flat_map-none {X} {Y} f (x ∷ xs) none = ap (λ (l : List Y). l ++ flat_map f xs) (none x) ∙ flat_map-none f xs none
