-- Facts about lists: what a list contains, and what a filter keeps.
use Rattle.std.proofs.Common.{◌≢◌, ℕ, Bool, List, [], ◌∷◌, refl, arith}
use Rattle.std.specs.List.{AllByRecursion, Contains, filter}
use Rattle.std.proofs.lemmas.Bool.{cond_both}
use Rattle.std.proofs.lemmas.List.Elements.{All-contains, All-contains_itself, Contains-append_right}
use Rattle.log_laws.proofs.Lists.{to-all, from-all}

-- ---- what a list contains

-- a list contains its first item
pub contains-first : {X : Type 0} (x : X) (xs : List X) → Contains (x ∷ xs) x
contains-first x xs = (0, omega arith, refl)

-- and what its rest contains
pub contains-later : {X : Type 0} (y : X) (xs : List X) (x : X) → Contains xs x → Contains (y ∷ xs) x
contains-later y xs x there = Contains-append_right (y ∷ []) xs x there

-- what holds of all items holds of one
pub holds-of : {X : Type 0} (P : X → Type 0) (xs : List X) (x : X) → AllByRecursion P xs → Contains xs x → P x
holds-of P xs x all there = All-contains P xs x (to-all P xs all) there

-- each item is there
pub all-there : {X : Type 0} (xs : List X) → AllByRecursion (Contains xs) xs
all-there xs = from-all (Contains xs) xs (All-contains_itself xs)

-- ---- filters

-- what holds of all items holds of those that pass
pub filter-keeps : {X : Type 0} (P : X → Type 0) (test : X → Bool) (xs : List X) → AllByRecursion P xs
    → AllByRecursion P (filter test xs)
filter-keeps P test [] all = tt
filter-keeps P test (x ∷ xs) all =
    let rest : AllByRecursion P (filter test xs) = filter-keeps P test xs all.1
    in cond_both (test x) (x ∷ filter test xs) (filter test xs) (AllByRecursion P) (λ _. (all.0, rest)) (λ _. rest)

-- no two numbers are the same
abbrev pub AreApart : List ℕ → Type 0
AreApart [] = Unit {0}
AreApart (p ∷ ps) = AllByRecursion (λ q. p ≢ q) ps × AreApart ps

-- which is so of those that pass, too
pub filter-apart : (test : ℕ → Bool) (ps : List ℕ) → AreApart ps → AreApart (filter test ps)
filter-apart test [] apart = tt
filter-apart test (p ∷ ps) apart =
    let rest : AreApart (filter test ps) = filter-apart test ps apart.1
    in cond_both (test p) (p ∷ filter test ps) (filter test ps) AreApart
    (λ _. (filter-keeps (λ q. p ≢ q) test ps apart.0, rest)) (λ _. rest)
