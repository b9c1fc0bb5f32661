-- Facts about the views of all seats: one is changed, one is added, and how many of them have tickets.
use Rattle.std.proofs.Common.{◌≡◌, ◌≢◌, ◌⊎◌, ℕ, zero, suc, ◌+◌, ◌<◌, ◌≤◌, true, List, [], ◌∷◌, ◌++◌, length, set, sym, refl, ap, ◌∙◌, subst, inl, inr, ⊎_elim, arith}
use Rattle.std.specs.Prelude.{Option, Some, None}
use mathlib.Core.Option.{some, some-injective, some-ne-none}
use mathlib.Core.Logic.{dite}
use native.Mathlib.Decide.{ℕ_discrete}
use lib.ListN.{get_elem?}
use Rattle.atomic_table.proofs.Lists.{at_set, set_here, set_else}
use Rattle.journal_core.specs.declared.view.View.{View}
use Rattle.journal_core.specs.Rule.{Book, Fits, tickets_of, tickets_out}

module _ {A : Type 0} where
  -- a place at which something stands
  pub place_below : (l : List A) (i : ℕ) (a : A) → get_elem? l i ≡ some a → i < length l
  place_below [] i a e = absurd (some-ne-none a (sym e))
  place_below (x ∷ xs) zero a e = omega arith
  place_below (x ∷ xs) (suc i) a e = let below : i < length xs = place_below xs i a e in omega arith

  -- what stands in a list with one more behind: something of before, or the new one at the end
  pub at_behind : (l : List A) (a b : A) (j : ℕ) → get_elem? (l ++ a ∷ []) j ≡ some b
      → (get_elem? l j ≡ some b) ⊎ ((a ≡ b) × (j ≡ length l))
  at_behind [] a b zero e = inr (some-injective a b e, refl)
  at_behind [] a b (suc j) e = absurd (some-ne-none b (sym e))
  at_behind (x ∷ xs) a b zero e = inl e
  at_behind (x ∷ xs) a b (suc j) e = ⊎_elim (λ t. inl t) (λ t. inr (t.0, ap suc t.1)) (at_behind xs a b j e)

-- what the rule says of all seats, where one has changed
pub each_set : (book : Book) (views : List View) (place : ℕ) (w : View)
    → Fits book place w
    → ((j : ℕ) (u : View) → j ≢ place → get_elem? views j ≡ some u → Fits book j u)
    → (j : ℕ) (u : View) → get_elem? (set views place w) j ≡ some u → Fits book j u
each_set book views place w mine others j u e =
    ⊎_elim
    (λ (x : (j ≡ place) × (w ≡ u)). subst (λ (y : ℕ × View). Fits book y.0 y.1) (λ i. (sym x.0 i, x.1 i)) mine)
    (λ (x : (j ≢ place) × (get_elem? views j ≡ some u)). others j u x.0 x.1)
    (at_set views place j w u e)

-- the same of all seats but one
pub each_set_but : (book : Book) (views : List View) (place : ℕ) (w : View) (off : ℕ)
    → Fits book place w
    → ((j : ℕ) (u : View) → j ≢ place → j ≢ off → get_elem? views j ≡ some u → Fits book j u)
    → (j : ℕ) (u : View) → j ≢ off → get_elem? (set views place w) j ≡ some u → Fits book j u
each_set_but book views place w off mine others j u else e =
    ⊎_elim
    (λ (x : (j ≡ place) × (w ≡ u)). subst (λ (y : ℕ × View). Fits book y.0 y.1) (λ i. (sym x.0 i, x.1 i)) mine)
    (λ (x : (j ≢ place) × (get_elem? views j ≡ some u)). others j u x.0 else x.1)
    (at_set views place j w u e)

-- the seat that has taken the journal is there
abbrev pub IsHeld : Option ℕ → List View → Type 0
IsHeld holder views = (p : ℕ) → holder ≡ Some p → (v : View) × (get_elem? views p ≡ some v) × (v.taken ≡ true)

-- it is there, too, where a seat has changed, but not whether it has taken the journal
pub held_set : (holder : Option ℕ) (views : List View) (place : ℕ) (v w : View) → get_elem? views place ≡ some v
    → w.taken ≡ v.taken → IsHeld holder views → IsHeld holder (set views place w)
held_set holder views place v w at same held p is =
    let u = held p is in
    dite (ℕ_discrete p place)
    (λ (here : p ≡ place).
    let one : u.0 ≡ v = some-injective u.0 v (sym u.1 ∙ (ap (get_elem? views) here ∙ at)) in (
      w,
      ap (get_elem? (set views place w)) here ∙ set_here views place w (place_below views place v at),
      same
          ∙ (ap (λ (x : View). x.taken) (sym one) ∙ u.2),
    ))
    (λ (else : p ≢ place). (u.0, set_else views place p w else ∙ u.1, u.2))

one_ticket : (o : Option ℕ) → tickets_of o ≤ 1
one_ticket None = omega arith
one_ticket (Some t) = omega arith

-- at most one ticket a seat
tickets_below : (vs : List View) → tickets_out vs ≤ length vs
tickets_below [] = omega arith
tickets_below (v ∷ vs) =
    let one : tickets_of v.ticket ≤ 1 = one_ticket v.ticket in
    let more : tickets_out vs ≤ length vs = tickets_below vs in
    omega arith

-- the same, where the number of seats is known
pub tickets_at_most : (vs : List View) (n : ℕ) → length vs ≡ n → tickets_out vs ≤ n
tickets_at_most vs n is = let most : tickets_out vs ≤ length vs = tickets_below vs in omega arith

-- one seat has none
pub tickets_with_none : (vs : List View) (i : ℕ) (v : View) → get_elem? vs i ≡ some v → v.ticket ≡ None
    → tickets_out vs + 1 ≤ length vs
tickets_with_none [] i v e none = absurd (some-ne-none v (sym e))
tickets_with_none (x ∷ xs) zero v e none =
    let is : tickets_of x.ticket ≡ 0 =
    ap (λ (u : View). tickets_of u.ticket) (some-injective x v e) ∙ ap tickets_of none in
    let more : tickets_out xs ≤ length xs = tickets_below xs in
    omega arith
tickets_with_none (x ∷ xs) (suc i) v e none =
    let one : tickets_of x.ticket ≤ 1 = one_ticket x.ticket in
    let more : tickets_out xs + 1 ≤ length xs = tickets_with_none xs i v e none in
    omega arith

-- the tickets that are out, where one seat has changed
pub tickets_set : (vs : List View) (i : ℕ) (v w : View) → get_elem? vs i ≡ some v
    → tickets_out (set vs i w) + tickets_of v.ticket ≡ tickets_out vs + tickets_of w.ticket
tickets_set [] i v w e = absurd (some-ne-none v (sym e))
tickets_set (x ∷ xs) zero v w e =
    let is : tickets_of x.ticket ≡ tickets_of v.ticket =
    ap (λ (u : View). tickets_of u.ticket) (some-injective x v e) in
    omega arith
tickets_set (x ∷ xs) (suc i) v w e =
    let more : tickets_out (set xs i w) + tickets_of v.ticket ≡ tickets_out xs + tickets_of w.ticket =
    tickets_set xs i v w e in
    omega arith

-- and where there is one seat more
pub tickets_behind : (vs : List View) (w : View) → tickets_out (vs ++ w ∷ []) ≡ tickets_out vs + tickets_of w.ticket
tickets_behind [] w = omega arith
tickets_behind (x ∷ xs) w =
    let more : tickets_out (xs ++ w ∷ []) ≡ tickets_out xs + tickets_of w.ticket = tickets_behind xs w in
    omega arith
