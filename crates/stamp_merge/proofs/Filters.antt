-- Filters of lists, and what holds of all items.
use Rattle.std.proofs.Common.{◌≡◌, Bool, true, false, cond, List, [], ◌∷◌, refl, ap, sym, ◌∙◌}
use Rattle.std.specs.List.{AllByRecursion, filter}

-- ---- what holds of all items

-- used where a fact follows from another at each item
pub all-map : {X : Type 0} {P Q : X → Type 0} → ((x : X) → P x → Q x) → (xs : List X) → AllByRecursion P xs
    → AllByRecursion Q xs
all-map f [] all = tt
all-map f (x ∷ xs) all = (f x all.0, all-map f xs all.1)

-- the same from two facts
pub all-both : {X : Type 0} {P Q R : X → Type 0} → ((x : X) → P x → Q x → R x) → (xs : List X) → AllByRecursion P xs
    → AllByRecursion Q xs → AllByRecursion R xs
all-both f [] all both = tt
all-both f (x ∷ xs) all both = (f x all.0 both.0, all-both f xs all.1 both.1)

-- ---- filters

-- the first item passes
pub filter-yes : {X : Type 0} (p : X → Bool) (x : X) (xs : List X) → p x ≡ true → filter p (x ∷ xs) ≡ x ∷ filter p xs
filter-yes p x xs h = ap (λ b. cond b (x ∷ filter p xs) (filter p xs)) h

-- it doesn't
pub filter-no : {X : Type 0} (p : X → Bool) (x : X) (xs : List X) → p x ≡ false → filter p (x ∷ xs) ≡ filter p xs
filter-no p x xs h = ap (λ b. cond b (x ∷ filter p xs) (filter p xs)) h

-- where all items pass nothing goes
pub filter-all : {X : Type 0} (p : X → Bool) (xs : List X) → AllByRecursion (λ x. p x ≡ true) xs → filter p xs ≡ xs
filter-all p [] all = refl
filter-all {X} p (x ∷ xs) all = filter-yes p x xs all.0 ∙ ap (λ (ys : List X). x ∷ ys) (filter-all p xs all.1)

-- where none passes nothing is left
pub filter-none : {X : Type 0} (p : X → Bool) (xs : List X) → AllByRecursion (λ x. p x ≡ false) xs → filter p xs ≡ []
filter-none p [] all = refl
filter-none p (x ∷ xs) all = filter-no p x xs all.0 ∙ filter-none p xs all.1

both-first : {X : Type 0} (p q : X → Bool) (x : X) (xs : List X) (a b : Bool) → p x ≡ a → q x ≡ b
    → filter p (filter q xs) ≡ filter q (filter p xs) → filter p (filter q (x ∷ xs)) ≡ filter q (filter p (x ∷ xs))
both-first {X} p q x xs true true ha hb rest =
    ap (filter p) (filter-yes q x xs hb) ∙ filter-yes p x (filter q xs) ha ∙ ap (λ (ys : List X). x ∷ ys) rest
    ∙ sym (filter-yes q x (filter p xs) hb) ∙ sym (ap (filter q) (filter-yes p x xs ha))
both-first p q x xs true false ha hb rest =
    ap (filter p) (filter-no q x xs hb) ∙ rest ∙ sym (filter-no q x (filter p xs) hb)
    ∙ sym (ap (filter q) (filter-yes p x xs ha))
both-first p q x xs false true ha hb rest =
    ap (filter p) (filter-yes q x xs hb) ∙ filter-no p x (filter q xs) ha ∙ rest
    ∙ sym (ap (filter q) (filter-no p x xs ha))
both-first p q x xs false false ha hb rest =
    ap (filter p) (filter-no q x xs hb) ∙ rest ∙ sym (ap (filter q) (filter-no p x xs ha))

-- two filters may change places
pub filter-swap : {X : Type 0} (p q : X → Bool) (xs : List X) → filter p (filter q xs) ≡ filter q (filter p xs)
filter-swap p q [] = refl
filter-swap p q (x ∷ xs) = both-first p q x xs (p x) (q x) refl refl (filter-swap p q xs)
