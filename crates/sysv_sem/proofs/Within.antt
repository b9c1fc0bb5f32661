-- What is carried out on a set within the limits leaves one.
use Rattle.std.proofs.Common.{◌≡◌, ℕ, zero, suc, ◌+◌, ◌-◌, ◌≤◌, Bool, true, false, ◌&&◌, cond, eqb, ltb, leb, ℤ, pos, negsuc, List, [], ◌∷◌, Option, Some, None, Result, Ok, Err, length, set, refl, sym, ap, subst, ◌∙◌, arith}
use Rattle.std.specs.Prelude.{fold, slice_get, IfSome, replicate}
use Rattle.std.specs.List.{AllByRecursion, list_any}
use Rattle.std.proofs.lemmas.Bool.{leb-true, ltb-false, eqb-true, or_parts}
use Rattle.std.proofs.lemmas.List.{length-set, length-map}
use Rattle.pico_base.specs.declared.call.SemStep.{SemStep}
use Rattle.pico_base.specs.declared.reply.Errno.{Errno}
use Rattle.pico_base.specs.declared.reply.Errno.TheVariants.{Einval, E2big, Efbig, Erange}
use Rattle.kernel_model.specs.SemaphoreSet.{Semaphore, SemaphoreSet, set_of, Moved, To, Waits, TooHigh, Tried, Done, StopsAt, OutOfRange, max_value, values_of, move_by, move_at, go_on, try_from, try_ops, with_values, with_last, mark_at, mark, op_after_trial, op, set_value_at, set_value, set_all, value_at, last_at, new_semaphore, max_semaphores}
use Rattle.pico_base.specs.declared.call.Call.{Call}
use Rattle.pico_base.specs.declared.call.Call.TheVariants as calls
use Rattle.pico_base.specs.declared.reply.Reply.TheVariants.{Num, Fail}
use Rattle.waiting_model.specs.Waiters.{Attempt, attempt, changed, looked_up}
use Rattle.waiting_model.specs.SemaphoreSet.{are_tried, stop_of, waits_for, try_set}
use Rattle.sysv_sem.specs.Limits.{IsWithinLimits}

-- ---- an element of a list

each_set : {X : Type 0} (P : X → Type 0) (xs : List X) (i : ℕ) (y : X) → AllByRecursion P xs → P y
    → AllByRecursion P (set xs i y)
each_set P [] i y h p = tt
each_set P (x ∷ xs) zero y h p = (p, h.1)
each_set P (x ∷ xs) (suc i) y h p = (h.0, each_set P xs i y h.1 p)

each_get : {X : Type 0} (P : X → Type 0) (xs : List X) (i : ℕ) → AllByRecursion P xs → IfSome (slice_get xs i) P
each_get P [] i h = tt
each_get P (x ∷ xs) zero h = h.0
each_get P (x ∷ xs) (suc i) h = each_get P xs i h.1

-- ---- values

abbrev IsValue : ℕ → Type 0
IsValue value = value ≤ max_value

abbrev IsFine : Semaphore → Type 0
IsFine s = s.value ≤ max_value

values_fine : (row : List Semaphore) → AllByRecursion IsFine row → AllByRecursion IsValue (values_of row)
values_fine [] h = tt
values_fine (s ∷ row) h = (h.0, values_fine row h.1)

abbrev MovesWithin : Moved → Type 0
MovesWithin (To value) = IsValue value
MovesWithin Waits = Unit {0}
MovesWithin TooHigh = Unit {0}

-- a test chooses between two
data Chosen (b : Bool) (m n : Moved) : Type 0 where
  Left : b ≡ true → cond b m n ≡ m → Chosen b m n
  Right : cond b m n ≡ n → Chosen b m n

chosen : (b : Bool) (m n : Moved) → Chosen b m n
chosen true m n = Left refl refl
chosen false m n = Right refl

either : (b : Bool) (m n : Moved) → Chosen b m n → (b ≡ true → MovesWithin m) → MovesWithin n → MovesWithin (cond b m n)
either b m n (Left e is) then_fine else_fine = subst MovesWithin (sym is) (then_fine e)
either b m n (Right is) then_fine else_fine = subst MovesWithin (sym is) else_fine

moved_within : (add : ℤ) (value : ℕ) → IsValue value → MovesWithin (move_by add value)
moved_within (pos zero) value h = either (eqb value 0) (To 0) Waits (chosen _ _ _) (λ e. omega arith) tt
moved_within (pos (suc n)) value h =
    either (leb (value + suc n) max_value) (To (value + suc n)) TooHigh (chosen _ _ _) (λ e. leb-true _ _ e) tt
moved_within (negsuc n) value h =
    either (leb (suc n) value) (To (value - suc n)) Waits (chosen _ _ _) (λ e. omega arith) tt

at_within : (add : ℤ) (o : Option ℕ) → IfSome o IsValue → MovesWithin (move_at add o)
at_within add None h = tt
at_within add (Some value) h = moved_within add value h

-- as many values, each within the limit
pub record IsRowFor (size : ℕ) (values : List ℕ) : Type 0 where
  pub count : length values ≡ size
  pub each : AllByRecursion IsValue values

abbrev done : List ℕ → Tried
done values = Done values

same_done : (a b : List ℕ) → done a ≡ done b → a ≡ b
same_done a b e = cc

went_on : (count i : ℕ) (values : List ℕ) (num : ℕ) (m : Moved) (rest : List ℕ → Tried) (out : List ℕ)
    → IsRowFor count values → MovesWithin m
    → ((next : List ℕ) → IsRowFor count next → rest next ≡ Done out → IsRowFor count out)
    → go_on i values num m rest ≡ Done out → IsRowFor count out
went_on count i values num (To value) rest out row m further e =
    further (set values num value)
    (record {
      count = length-set values num value ∙ row.count;
      each =
          each_set IsValue values num value row.each m;
    }) e
went_on count i values num Waits rest out row m further e = absurd cc
went_on count i values num TooHigh rest out row m further e = absurd cc

tried_within : (count i : ℕ) (values : List ℕ) (steps : List SemStep) (out : List ℕ) → IsRowFor count values
    → try_from i values steps ≡ Done out → IsRowFor count out
tried_within count i values [] out row e = subst (λ (x : List ℕ). IsRowFor count x) (same_done values out e) row
tried_within count i values (step ∷ steps) out row e =
    went_on count i values step.num (move_at step.add (slice_get values step.num))
    (λ next. try_from (i + 1) next steps) out row
    (at_within step.add (slice_get values step.num) (each_get IsValue values step.num row.each))
    (λ next fine. tried_within count (i + 1) next steps out fine) e

-- ---- sets

with_values_within : (row : List Semaphore) (values : List ℕ) → IsRowFor (length row) values
    → AllByRecursion IsFine (with_values row values) × (length (with_values row values) ≡ length row)
with_values_within [] values h = (tt, refl)
with_values_within (s ∷ row) [] h = absurd (let n = h.count in omega arith)
with_values_within (s ∷ row) (value ∷ values) h =
    let n = h.count in
    let rest = with_values_within row values (record { count = omega arith; each = h.each.1 }) in
    ((h.each.0, rest.0), ap suc rest.1)

marked_one : (pid num : ℕ) (row : List Semaphore) (o : Option Semaphore) → IfSome o IsFine → AllByRecursion IsFine row
    → AllByRecursion IsFine (mark_at row pid num o) × (length (mark_at row pid num o) ≡ length row)
marked_one pid num row None p h = (h, refl)
marked_one pid num row (Some s) p h =
    (each_set IsFine row num (with_last s pid) h p, length-set row num (with_last s pid))

marked_within : (pid : ℕ) (row : List Semaphore) (steps : List SemStep) → AllByRecursion IsFine row
    → AllByRecursion IsFine (fold (mark pid) row steps) × (length (fold (mark pid) row steps) ≡ length row)
marked_within pid row [] h = (h, refl)
marked_within pid row (step ∷ steps) h =
    let one = marked_one pid step.num row (slice_get row step.num) (each_get IsFine row step.num h) h in
    let rest = marked_within pid (mark pid row step) steps one.0 in
    (rest.0, rest.1 ∙ one.1)

abbrev made : SemaphoreSet → Result SemaphoreSet Errno
made row = Ok row

same_made : (a b : SemaphoreSet) → made a ≡ made b → a ≡ b
same_made a b e = cc

-- a test that did not fail
passed : {A : Type 0} (b : Bool) (x : Errno) (r : Result A Errno) (y : A) → cond b (Err x) r ≡ Ok y → r ≡ Ok y
passed true x r y e = absurd cc
passed false x r y e = e

same_size : (old new : List Semaphore) → length new ≡ length old → AllByRecursion IsFine new
    → IsWithinLimits (set_of old) → IsWithinLimits (set_of new)
same_size old new len each h =
    record { some = let a = h.some in omega arith; count = let a = h.count in omega arith; each = each }

tried_op_within : (old : List Semaphore) (new : SemaphoreSet) (pid : ℕ) (steps : List SemStep) (t : Tried)
    → ((values : List ℕ) → t ≡ Done values → IsRowFor (length old) values)
    → op_after_trial (set_of old) pid steps t ≡ Ok new → IsWithinLimits (set_of old) → IsWithinLimits new
tried_op_within old new pid steps (Done values) fine e h =
    let a = with_values_within old values (fine values refl) in
    let b = marked_within pid (with_values old values) steps a.0 in
    subst IsWithinLimits (same_made (set_of (fold (mark pid) (with_values old values) steps)) new e)
    (same_size old (fold (mark pid) (with_values old values) steps) (b.1 ∙ a.1) b.0 h)
tried_op_within old new pid steps (StopsAt index) fine e h = absurd cc
tried_op_within old new pid steps OutOfRange fine e h = absurd cc

-- after a `semop`
pub op_within : (old : List Semaphore) (new : SemaphoreSet) (pid : ℕ) (steps : List SemStep)
    → op (set_of old) pid steps ≡ Ok new → IsWithinLimits (set_of old) → IsWithinLimits new
op_within old new pid steps e h =
    let tried : op_after_trial (set_of old) pid steps (try_ops (values_of old) steps) ≡ Ok new =
    passed _ Efbig _ new (passed _ E2big _ new e) in
    tried_op_within old new pid steps (try_ops (values_of old) steps)
    (λ values. tried_within (length old) 0 (values_of old) steps values
    (record { count = length-map old (λ (s : Semaphore). s.value); each = values_fine old h.each })) tried h

-- a test that did not fail, before an answer
passed_to : {A : Type 0} (b : Bool) (x : Errno) (r : Result A Errno) (y : A) → cond b r (Err x) ≡ Ok y → (b ≡ true)
    × (r ≡ Ok y)
passed_to true x r y e = (refl, e)
passed_to false x r y e = absurd cc

failed : {A : Type 0} (b : Bool) (x : Errno) (r : Result A Errno) (y : A) → cond b (Err x) r ≡ Ok y → (b ≡ false)
    × (r ≡ Ok y)
failed true x r y e = absurd cc
failed false x r y e = (refl, e)

-- values of which none is above the limit
upto : (values : List ℕ) → list_any (ltb max_value) values ≡ false → AllByRecursion IsValue values
upto [] e = tt
upto (value ∷ values) e =
    let both = or_parts (ltb max_value value) (list_any (ltb max_value) values) e in
    (ltb-false _ _ both.0, upto values both.1)

-- after a SETALL
pub set_all_within : (old : List Semaphore) (new : SemaphoreSet) (values : List ℕ)
    → set_all (set_of old) values ≡ Ok new
    → IsWithinLimits (set_of old) → IsWithinLimits new
set_all_within old new values e h =
    let a = passed_to (eqb (length values) (length old)) Einval _ new e in
    let b = failed (list_any (ltb max_value) values) Erange (Ok (set_of (with_values old values))) new a.1 in
    let fine = with_values_within old values (record { count = eqb-true _ _ a.0; each = upto values b.0 }) in
    subst IsWithinLimits (same_made (set_of (with_values old values)) new b.1)
    (same_size old (with_values old values) fine.1 fine.0 h)

-- after a SETVAL
pub set_value_within : (old : List Semaphore) (new : SemaphoreSet) (num value : ℕ)
    → set_value (set_of old) num value ≡ Ok new → IsWithinLimits (set_of old) → IsWithinLimits new
set_value_within old new num value e h = here (slice_get old num) e
  where
    here : (o : Option Semaphore) → set_value_at (set_of old) num value o ≡ Ok new → IsWithinLimits new
    here None e = absurd cc
    here (Some s) e =
        let changed_one : Semaphore = record s { value = value } in
        let b = failed (ltb max_value value) Erange (Ok (set_of (set old num changed_one))) new e in
        subst IsWithinLimits (same_made (set_of (set old num changed_one)) new b.1)
        (same_size old (set old num changed_one) (length-set old num changed_one)
        (each_set IsFine old num changed_one h.each (ltb-false _ _ b.0)) h)

-- a new one
pub new_within : (count : ℕ) → 1 ≤ count → count ≤ max_semaphores
    → IsWithinLimits (set_of (replicate count new_semaphore))
new_within count some few =
    record {
      some = omega (arith, some, size count);
      count = omega (arith, few, size count);
      each = all_new count;
    }
  where
    size : (n : ℕ) → length (replicate n new_semaphore) ≡ n
    size zero = refl
    size (suc n) = ap suc (size n)

    all_new : (n : ℕ) → AllByRecursion IsFine (replicate n new_semaphore)
    all_new zero = tt
    all_new (suc n) = (omega arith, all_new n)

-- ---- tries

some_attempt : (a b : Attempt SemaphoreSet) → Some a ≡ Some b → a ≡ b
some_attempt a b e = cc

changed_within : (state : SemaphoreSet) (r : Result SemaphoreSet Errno) (a : Attempt SemaphoreSet)
    → IsWithinLimits state → ((new : SemaphoreSet) → r ≡ Ok new → IsWithinLimits new)
    → Some (changed state r) ≡ Some a → IsWithinLimits a.state
changed_within state (Ok new) a h fine e =
    subst (λ (x : Attempt SemaphoreSet). IsWithinLimits x.state) (some_attempt (attempt new (Num 0)) a e)
    (fine new refl)
changed_within state (Err errno) a h fine e =
    subst (λ (x : Attempt SemaphoreSet). IsWithinLimits x.state) (some_attempt (attempt state (Fail errno)) a e) h

seen_within : (state : SemaphoreSet) (r : Result ℕ Errno) (a : Attempt SemaphoreSet) → IsWithinLimits state
    → Some (looked_up state r) ≡ Some a → IsWithinLimits a.state
seen_within state (Ok n) a h e =
    subst (λ (x : Attempt SemaphoreSet). IsWithinLimits x.state) (some_attempt (attempt state (Num n)) a e) h
seen_within state (Err errno) a h e =
    subst (λ (x : Attempt SemaphoreSet). IsWithinLimits x.state) (some_attempt (attempt state (Fail errno)) a e) h

went_on_at : (b : Bool) (x y : Attempt SemaphoreSet) → cond b None (Some x) ≡ Some y → Some x ≡ Some y
went_on_at true x y e = absurd cc
went_on_at false x y e = e

-- whatever comes of a try is within the limits
pub try_within : (state : SemaphoreSet) (pid : ℕ) (call : Call) (a : Attempt SemaphoreSet) → IsWithinLimits state
    → try_set state pid call ≡ Some a → IsWithinLimits a.state
try_within state pid (calls.SemOp id steps) a h e =
    changed_within state (op state pid steps) a h
    (λ new is. op_within state.semaphores new pid steps is h)
    (went_on_at (are_tried state steps && waits_for (stop_of state steps)) (changed state (op state pid steps)) a e)
try_within state pid (calls.SemGetVal id num) a h e = seen_within state (value_at state num) a h e
try_within state pid (calls.SemGetPid id num) a h e = seen_within state (last_at state num) a h e
try_within state pid (calls.SemSetVal id num value) a h e =
    changed_within state (set_value state num value) a h
    (λ new is. set_value_within state.semaphores new num value is h) e
try_within state pid (calls.SemSetAll id values) a h e =
    changed_within state (set_all state values) a h
    (λ new is. set_all_within state.semaphores new values is h) e
try_within state pid call a h e =
    subst (λ (x : Attempt SemaphoreSet). IsWithinLimits x.state) (some_attempt _ a e) h
