-- What holds of each element of a list.
use Rattle.std.proofs.Common.{◌≡◌, ℕ, zero, suc, Bool, true, false, cond, List, [], ◌∷◌, ◌++◌, filter, drop, take, Some, subst}
use Rattle.std.specs.Prelude.{slice_get}
use Rattle.std.specs.List.{AllByRecursion}

-- what holds of all of each holds of all of both
pub all-both : {A : Type 0} (P : A → Type 0) (xs ys : List A) → AllByRecursion P xs → AllByRecursion P ys
    → AllByRecursion P (xs ++ ys)
all-both P [] ys a c = c
all-both P (x ∷ xs) ys a c = (a.0, all-both P xs ys a.1 c)

-- what holds of all of both holds of all of each
pub all-parts : {A : Type 0} (P : A → Type 0) (xs ys : List A) → AllByRecursion P (xs ++ ys)
    → AllByRecursion P xs × AllByRecursion P ys
all-parts P [] ys all = (tt, all)
all-parts P (x ∷ xs) ys all = let rest = all-parts P xs ys all.1 in ((all.0, rest.0), rest.1)

-- a filter keeps some
pub all-filtered : {A : Type 0} (P : A → Type 0) (test : A → Bool) (xs : List A) → AllByRecursion P xs
    → AllByRecursion P (filter test xs)
all-filtered P test [] all = tt
all-filtered P test (x ∷ xs) all = by (test x) all.0 (all-filtered P test xs all.1)
  where
    by : (b : Bool) → P x → AllByRecursion P (filter test xs)
        → AllByRecursion P (cond b (x ∷ filter test xs) (filter test xs))
    by true first rest = (first, rest)
    by false first rest = rest

-- the first elements
pub all-taken : {A : Type 0} (P : A → Type 0) (n : ℕ) (xs : List A) → AllByRecursion P xs
    → AllByRecursion P (take n xs)
all-taken P zero xs all = tt
all-taken P (suc n) [] all = tt
all-taken P (suc n) (x ∷ xs) all = (all.0, all-taken P n xs all.1)

-- the rest of a list
pub all-dropped : {A : Type 0} (P : A → Type 0) (n : ℕ) (xs : List A) → AllByRecursion P xs
    → AllByRecursion P (drop n xs)
all-dropped P zero xs all = all
all-dropped P (suc n) [] all = tt
all-dropped P (suc n) (x ∷ xs) all = all-dropped P n xs all.1

-- and what holds of all holds of each
pub all-at : {A : Type 0} (P : A → Type 0) (xs : List A) (i : ℕ) (x : A) → AllByRecursion P xs
    → slice_get xs i ≡ Some x → P x
all-at P [] i x all is = absurd (cc)
all-at P (y ∷ ys) zero x all is = let same : y ≡ x = cc in subst P same all.0
all-at P (y ∷ ys) (suc i) x all is = all-at P ys i x all.1 is

-- what holds of each holds of more
pub all-more : {A : Type 0} (P Q : A → Type 0) (xs : List A) → ((x : A) → P x → Q x) → AllByRecursion P xs
    → AllByRecursion Q xs
all-more P Q [] more all = tt
all-more P Q (x ∷ xs) more all = (more x all.0, all-more P Q xs more all.1)
