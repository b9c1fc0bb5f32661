-- What two filters of one list make together.
use Rattle.std.proofs.Common.{◌≡◌, Bool, true, false, ◌||◌, cond, List, [], ◌∷◌, filter, refl, ap, sym, ◌∙◌}
use Rattle.std.proofs.lemmas.Bool.{false≢true}

is-not-empty : {A : Type 0} (x : A) (xs : List A) → x ∷ xs ≡ [] → ⊥
is-not-empty x xs h = cc

-- what an empty filter drops: the first, and the rest
pub record DropsBoth {A : Type 0} (test : A → Bool) (x : A) (xs : List A) : Type 0 where
  pub first : test x ≡ false
  pub rest : filter test xs ≡ []

-- where nothing is kept, the first element is dropped, and so is the rest
pub drops-both : {A : Type 0} (test : A → Bool) (x : A) (xs : List A) → filter test (x ∷ xs) ≡ []
    → DropsBoth test x xs
drops-both test x xs h = by (test x) refl h
  where
    by : (t : Bool) → test x ≡ t → cond t (x ∷ filter test xs) (filter test xs) ≡ [] → DropsBoth test x xs
    by true e h = absurd (is-not-empty x (filter test xs) h)
    by false e h = record { first = e; rest = h }

-- two tests that agree on each element keep the same
pub kept-same : {A : Type 0} (f g : A → Bool) → ((x : A) → f x ≡ g x) → (xs : List A) → filter f xs ≡ filter g xs
kept-same f g same [] = refl
kept-same f g same (x ∷ xs) =
    ap (λ b. cond b (x ∷ filter f xs) (filter f xs)) (same x)
    ∙ ap (λ ys. cond (g x) (x ∷ ys) ys) (kept-same f g same xs)

-- what passes the one or the other is what passes the other, where none passes the one
pub kept-right : {A : Type 0} (f g either : A → Bool) → ((x : A) → either x ≡ (f x || g x)) → (xs : List A)
    → filter f xs ≡ [] → filter either xs ≡ filter g xs
kept-right f g either is [] none = refl
kept-right f g either is (x ∷ xs) none =
    let d : DropsBoth f x xs = drops-both f x xs none
    in ap (λ b. cond b (x ∷ filter either xs) (filter either xs)) (is x ∙ ap (λ b. b || g x) d.first)
    ∙ ap (λ ys. cond (g x) (x ∷ ys) ys) (kept-right f g either is xs d.rest)

or-none : (b : Bool) → (b || false) ≡ b
or-none true = refl
or-none false = refl

-- and what passes the one, where none passes the other
pub kept-left : {A : Type 0} (f g either : A → Bool) → ((x : A) → either x ≡ (f x || g x)) → (xs : List A)
    → filter g xs ≡ [] → filter either xs ≡ filter f xs
kept-left f g either is [] none = refl
kept-left f g either is (x ∷ xs) none =
    let d : DropsBoth g x xs = drops-both g x xs none
    in ap (λ b. cond b (x ∷ filter either xs) (filter either xs))
    (is x ∙ ap (λ b. f x || b) d.first ∙ or-none (f x))
    ∙ ap (λ ys. cond (f x) (x ∷ ys) ys) (kept-left f g either is xs d.rest)

-- what a stricter test keeps of what is kept is what it keeps of all
pub kept-of-kept : {A : Type 0} (few many : A → Bool) → ((x : A) → few x ≡ true → many x ≡ true) → (xs : List A)
    → filter few (filter many xs) ≡ filter few xs
kept-of-kept few many less [] = refl
kept-of-kept few many less (x ∷ xs) = by (kept-of-kept few many less xs) (many x) (few x) refl refl
  where
    by : filter few (filter many xs) ≡ filter few xs → (m t : Bool) → many x ≡ m → few x ≡ t
        → filter few (cond m (x ∷ filter many xs) (filter many xs)) ≡ cond t (x ∷ filter few xs) (filter few xs)
    by rest true t e f =
        ap (λ b. cond b (x ∷ filter few (filter many xs)) (filter few (filter many xs))) f
        ∙ ap (λ ys. cond t (x ∷ ys) ys) rest
    by rest false false e f = rest
    by rest false true e f = absurd (false≢true (sym e ∙ less x f))

-- so where the wider test keeps the same of two lists, the stricter one does
pub kept-of-same : {A : Type 0} (few many : A → Bool) → ((x : A) → few x ≡ true → many x ≡ true) → (xs ys : List A)
    → filter many xs ≡ filter many ys → filter few xs ≡ filter few ys
kept-of-same few many less xs ys same =
    sym (kept-of-kept few many less xs) ∙ ap (λ zs. filter few zs) same ∙ kept-of-kept few many less ys
