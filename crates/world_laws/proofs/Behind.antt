-- A call and its withdrawal in one list: where both are, the call is in front; and where they are apart, what is kept
-- of the one and what is kept of the other say what is kept of both.
use Rattle.std.proofs.Common.{◌≡◌, Bool, true, false, ◌||◌, ◌&&◌, cond, List, [], ◌∷◌, ◌++◌, filter, refl, ap, sym, ◌∙◌}
use Rattle.std.proofs.lemmas.Bool.{false≢true}
use Rattle.world_laws.specs.Callers.{only_if}
use Rattle.world_laws.proofs.Filtered.{kept-left, kept-of-kept, kept-right}

-- of a call and its withdrawal the withdrawal is kept
pub withdrawal-kept : {T : Type 0} (own either : T → Bool) → ((x : T) → own x ≡ true → either x ≡ true)
    → (xs : List T) (a c : Bool) (f k : T) → own f ≡ false → own k ≡ true
    → filter either xs ≡ only_if a f ++ only_if c k → filter own xs ≡ only_if c k
withdrawal-kept own either less xs a c f k drops keeps is =
    sym (kept-of-kept own either less xs) ∙ ap (λ ys. filter own ys) is ∙ of-call a ∙ of-withdrawal c
  where
    of-call : (a : Bool) → filter own (only_if a f ++ only_if c k) ≡ filter own (only_if c k)
    of-call true = ap (λ b. cond b (f ∷ filter own (only_if c k)) (filter own (only_if c k))) drops
    of-call false = refl

    of-withdrawal : (c : Bool) → filter own (only_if c k) ≡ only_if c k
    of-withdrawal true = ap (λ b. cond b (k ∷ []) []) keeps
    of-withdrawal false = refl

-- where they aren't both there, what is kept of each is what is kept of both
pub kept-of-both : {T : Type 0} (about own either : T → Bool) → ((x : T) → either x ≡ (about x || own x))
    → (xs : List T) (a c : Bool) (f k : T) → (a && c) ≡ false → filter about xs ≡ only_if a f
    → filter own xs ≡ only_if c k
    → filter either xs ≡ only_if a f ++ only_if c k
kept-of-both about own either is xs true true f k apart calls withdrawals = absurd (false≢true (sym apart))
kept-of-both about own either is xs true false f k apart calls withdrawals =
    kept-left about own either is xs withdrawals ∙ calls
kept-of-both about own either is xs false c f k apart calls withdrawals =
    kept-right about own either is xs calls ∙ withdrawals

-- a stricter test that the call passes keeps it, too
pub call-kept : {T : Type 0} (about strict : T → Bool) → ((x : T) → strict x ≡ true → about x ≡ true) → (xs : List T)
    (a : Bool) (f : T)
    → (a ≡ true → strict f ≡ true) → filter about xs ≡ only_if a f → filter strict xs ≡ only_if a f
call-kept about strict less xs a f passes is =
    sym (kept-of-kept strict about less xs) ∙ ap (λ ys. filter strict ys) is ∙ by a passes
  where
    by : (a : Bool) → (a ≡ true → strict f ≡ true) → filter strict (only_if a f) ≡ only_if a f
    by true passes = ap (λ b. cond b (f ∷ []) []) (passes refl)
    by false passes = refl
