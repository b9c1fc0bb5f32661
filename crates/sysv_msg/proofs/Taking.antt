-- The waiter that is taken out of its place is the one of its process, and without it the others are left.
use Rattle.std.proofs.Common.{◌≡◌, ◌∙◌, ℕ, zero, suc, Bool, true, false, cond, not, ltb, List, [], ◌∷◌, length, Some, None, refl, sym, ap, subst, arith}
use Rattle.std.specs.Prelude.{find, nat_eq, position, remove, slice_get, unwrap_or}
use Rattle.std.specs.List.{filter, position_or_len}
use Rattle.std.proofs.lemmas.Bool.{and_parts, eqb-true, ltb-false}
use Rattle.std.proofs.lemmas.Bool.Decides.{nat_tests}
use Rattle.std.proofs.lemmas.List.Folds.{find_at}
use Rattle.std.proofs.lemmas.List.Quantifiers.{position-Some}
use Rattle.std.proofs.lemmas.Option.{slice_get_past, unwrap_or-slice_get}
use Rattle.kernel_model.specs.Queue.{Queue}
use Rattle.waiting_model.specs.declared.callers.Waiting.{Waiting}
use Rattle.waiting_model.specs.Waiters.{Awaited, awaited, without_waiter}
use Rattle.body_fields.proofs.Fields.{some_is}
use Rattle.waiter_fields.specs.Settling.{IsTaken, is_waiter}
use Rattle.waiter_fields.specs.Waiters.{are_different, processes_of}
use Rattle.sysv_msg.specs.Limits.{AreParked}
use Rattle.sysv_msg.proofs.Parking.{has, not-false, of-removed, or-false, parked-left}

module _ {X : Type 0} (test : X → Bool) where
  -- the first that passes is found at its place
  pub found-at : (xs : List X) (place : ℕ) (x : X) → position test xs ≡ Some place → slice_get xs place ≡ Some x
      → find test xs ≡ Some x
  found-at xs place x first there = by-test (ltb (position_or_len test xs) (length xs)) first where
    by-test : (t : Bool) → cond t (Some (position_or_len test xs)) None ≡ Some place → find test xs ≡ Some x
    by-test true e =
        find_at test xs ∙ ap (slice_get xs) (some_is (position_or_len test xs) place e) ∙ there
    by-test false e = absurd cc

  -- where there is no place there is none
  pub none-found : (xs : List X) → position test xs ≡ None → find test xs ≡ None
  none-found xs none = by-test (ltb (position_or_len test xs) (length xs)) refl none where
    by-test : (t : Bool) → ltb (position_or_len test xs) (length xs) ≡ t
        → cond t (Some (position_or_len test xs)) None ≡ None → find test xs ≡ None
    by-test true is e = absurd cc
    by-test false is e =
        find_at test xs ∙ slice_get_past xs (position_or_len test xs) (ltb-false _ _ is)

  -- the first passes the test
  pub passes-at : (xs : List X) (place : ℕ) (x : X) → position test xs ≡ Some place → slice_get xs place ≡ Some x
      → test x ≡ true
  passes-at xs place x first there =
      let p = position-Some test xs place x first in
      let is = sym (unwrap_or-slice_get xs place x) ∙ ap (λ o. unwrap_or o x) there in
      ap test (sym is) ∙ p.1

lacks-at : (pid : ℕ) (ws : List Waiting) (i : ℕ) (w : Waiting) → has pid ws ≡ false → slice_get ws i ≡ Some w
    → nat_eq pid w.pid ≡ false
lacks-at pid [] i w lacks there = absurd cc
lacks-at pid (v ∷ ws) zero w lacks there =
    let same : v ≡ w = some_is v w there in
    ap (λ (u : Waiting). nat_eq pid u.pid) (sym same) ∙ (or-false (nat_eq pid v.pid) (has pid ws) lacks).0
lacks-at pid (v ∷ ws) (suc i) w lacks there =
    lacks-at pid ws i w (or-false (nat_eq pid v.pid) (has pid ws) lacks).1 there

abbrev others : ℕ → Waiting → Bool
others pid w = not (nat_eq pid w.pid)

all-others : (pid : ℕ) (ws : List Waiting) → has pid ws ≡ false → filter (others pid) ws ≡ ws
all-others pid [] lacks = refl
all-others pid (w ∷ ws) lacks =
    let t = or-false (nat_eq pid w.pid) (has pid ws) lacks in
    rw t.0 (ap (λ (vs : List Waiting). w ∷ vs) (all-others pid ws t.1))

-- where no two are of one process, the others are all but the one of a process
pub others-left : (pid : ℕ) (ws : List Waiting) (i : ℕ) (w : Waiting) → are_different (processes_of ws) ≡ true
    → slice_get ws i ≡ Some w → nat_eq pid w.pid ≡ true → remove ws i ≡ filter (others pid) ws
others-left pid [] i w different there is = absurd cc
others-left pid (v ∷ ws) zero w different there is =
    let same : v ≡ w = some_is v w there in
    let its : nat_eq pid v.pid ≡ true = ap (λ (u : Waiting). nat_eq pid u.pid) same ∙ is in
    let d = and_parts (not (has v.pid ws)) (are_different (processes_of ws)) different in
    let one : pid ≡ v.pid = eqb-true pid v.pid its in
    let lacks : has pid ws ≡ false = ap (λ (n : ℕ). has n ws) one ∙ not-false (has v.pid ws) d.0 in
    rw its (sym (all-others pid ws lacks))
others-left pid (v ∷ ws) (suc i) w different there is =
    let d = and_parts (not (has v.pid ws)) (are_different (processes_of ws)) different in
    let other : nat_eq v.pid w.pid ≡ false = lacks-at v.pid ws i w (not-false (has v.pid ws) d.0) there in
    let one : pid ≡ w.pid = eqb-true pid w.pid is in
    let far : nat_eq pid v.pid ≡ false = rw one (turned v.pid w.pid other) in
    rw far (ap (λ (vs : List Waiting). v ∷ vs) (others-left pid ws i w d.1 there is))
  where
    turned : (a b : ℕ) → nat_eq a b ≡ false → nat_eq b a ≡ false
    turned a b h = grind (arith, nat_tests)

-- the waiter of a process that is taken under its ticket
pub taken-is : (pid ticket : ℕ) (q new : Awaited Queue) (w : Waiting) → are_different (processes_of q.waiters) ≡ true
    → new.state ≡ q.state → IsTaken (is_waiter pid ticket) q.waiters w new.waiters
    → (find (is_waiter pid ticket) q.waiters ≡ Some w) × (new ≡ without_waiter pid q)
taken-is pid ticket q new w different same taken =
    let test = is_waiter pid ticket in
    let passes = passes-at test q.waiters taken.place w taken.first taken.there in
    let its : nat_eq pid w.pid ≡ true = (and_parts (nat_eq pid w.pid) (nat_eq ticket w.ticket) passes).0 in
    let left : new.waiters ≡ filter (others pid) q.waiters =
    taken.rest ∙ others-left pid q.waiters taken.place w different taken.there its in (
      found-at test q.waiters taken.place w taken.first taken.there,
      ap (λ (s : Queue). awaited s new.waiters) same ∙ ap (awaited q.state) left,
    )

-- the queue and those who wait as they were
pub same-again : (q new : Awaited Queue) → new.state ≡ q.state → new.waiters ≡ q.waiters → new ≡ q
same-again q new state waiters =
    ap (λ (s : Queue). awaited s new.waiters) state ∙ ap (awaited q.state) waiters

-- and with the same who wait
pub parked-same : (q new : Awaited Queue) → AreParked q → new.state ≡ q.state → new.waiters ≡ q.waiters
    → AreParked new
parked-same q new p state waiters = subst AreParked (sym (same-again q new state waiters)) p

-- without one of those who wait their limits are kept
pub parked-taken : (test : Waiting → Bool) (q new : Awaited Queue) (w : Waiting) → AreParked q
    → new.state ≡ q.state → IsTaken test q.waiters w new.waiters → AreParked new
parked-taken test q new w p state taken =
    parked-same (awaited q.state (remove q.waiters taken.place)) new
    (parked-left q (awaited q.state (remove q.waiters taken.place)) p refl (of-removed q.waiters taken.place))
    state taken.rest
