-- Operations that are carried out one by one are what the trial and the marks after it make.
use Rattle.std.proofs.Common.{◌≡◌, ℕ, zero, suc, ◌+◌, ◌<◌, ◌≤◌, false, leb, ltb, List, [], ◌∷◌, Option, Some, None, Result, Ok, Err, length, get_or, set, refl, sym, ap, subst, ◌∙◌, arith}
use Rattle.std.specs.Prelude.{fold, slice_get, option_map, MatchResult, IfErr, OnOk, OnErr}
use Rattle.std.specs.List.{list_any}
use Rattle.std.proofs.lemmas.Bool.{or_parts}
use Rattle.std.proofs.lemmas.Bool.Decides.{nat_tests}
use Rattle.std.proofs.lemmas.List.{length-set, length-map}
use Rattle.std.proofs.lemmas.Option.{slice_get_read}
use Rattle.pico_base.specs.declared.call.SemStep.{SemStep}
use Rattle.pico_base.specs.declared.reply.Errno.{Errno}
use Rattle.kernel_model.specs.SemaphoreSet.{Semaphore, SemaphoreSet, set_of, Moved, To, Waits, TooHigh, Tried, Done, StopsAt, OutOfRange, values_of, move_by, move_at, go_on, try_from, with_values, mark_at, mark, op_after_trial, op, max_operations}
use Rattle.sysv_sem.specs.OneByOne.{on_value, carried}
use Rattle.sysv_sem.specs.Trial.{answer_of}

-- a semaphore with this value, which the process set last
abbrev pub made : ℕ → ℕ → Semaphore
made pid value = record { value = value; last = pid }

-- ---- one operation

-- where the first operation can't go on, nothing is carried out
pub carried_stops : (pid : ℕ) (row : List Semaphore) (steps : List SemStep) (step : SemStep) (rest : List SemStep)
    (s : Semaphore) (e : Errno) → steps ≡ step ∷ rest → step.num < length row → s ≡ get_or row step.num s
    → Err e ≡ answer_of (move_by step.add s.value) → carried pid row steps ≡ Err e
carried_stops pid row steps step rest s e split inside s_is moved =
    let there : slice_get row step.num ≡ Some s = slice_get_read row (length row) step.num s refl inside s_is in
    let stops : answer_of (move_by step.add s.value) ≡ Err e = sym moved in
    rw (split, there, stops) refl

-- where the first operation goes on, the others are carried out on what it leaves
pub carried_on : (pid : ℕ) (row : List Semaphore) (steps : List SemStep) (step : SemStep) (rest : List SemStep)
    (s : Semaphore) (value : ℕ) → steps ≡ step ∷ rest → step.num < length row → s ≡ get_or row step.num s
    → Ok value ≡ answer_of (move_by step.add s.value)
    → carried pid row steps ≡ carried pid (set row step.num (made pid value)) rest
carried_on pid row steps step rest s value split inside s_is moved =
    let there : slice_get row step.num ≡ Some s = slice_get_read row (length row) step.num s refl inside s_is in
    let goes : answer_of (move_by step.add s.value) ≡ Ok value = sym moved in
    rw (split, there, goes) refl

-- where there are no others, that is all
pub carried_last : (pid : ℕ) (row : List Semaphore) (steps : List SemStep) (step : SemStep) (rest : List SemStep)
    (s : Semaphore) (value : ℕ) → steps ≡ step ∷ rest → rest ≡ [] → step.num < length row → s ≡ get_or row step.num s
    → Ok value ≡ answer_of (move_by step.add s.value)
    → carried pid row steps ≡ Ok (set row step.num (made pid value))
carried_last pid row steps step rest s value split none inside s_is moved =
    carried_on pid row steps step rest s value split inside s_is moved
    ∙ ap (carried pid (set row step.num (made pid value))) none

-- what was changed and is put back
pub restored : {X : Type 0} (xs : List X) (i : ℕ) (x y : X) → i < length xs → x ≡ get_or xs i x
    → set (set xs i y) i x ≡ xs
restored [] i x y lt is = absurd (omega arith)
restored {X} (z ∷ xs) zero x y lt is = ap (λ (h : X). h ∷ xs) is
restored {X} (z ∷ xs) (suc i) x y lt is = ap (λ (t : List X). z ∷ t) (restored xs i x y (omega arith) is)

-- ---- all operations

same_values : (row : List Semaphore) → with_values row (values_of row) ≡ row
same_values [] = refl
same_values (s ∷ row) = ap (λ (t : List Semaphore). s ∷ t) (same_values row)

values_set : (row : List Semaphore) (n : ℕ) (s : Semaphore) → values_of (set row n s) ≡ set (values_of row) n s.value
values_set [] n s = refl
values_set (x ∷ row) zero s = refl
values_set (x ∷ row) (suc n) s = ap (λ (t : List ℕ). x.value ∷ t) (values_set row n s)

-- the value of the semaphore at a place
pub value_at : (row : List Semaphore) (n : ℕ)
    → slice_get (values_of row) n ≡ option_map (λ (s : Semaphore). s.value) (slice_get row n)
value_at [] n = refl
value_at (x ∷ row) zero = refl
value_at (x ∷ row) (suc n) = value_at row n

mark_later : (s : Semaphore) (row : List Semaphore) (pid n : ℕ) (o : Option Semaphore)
    → mark_at (s ∷ row) pid (suc n) o ≡ s ∷ mark_at row pid n o
mark_later s row pid n None = refl
mark_later s row pid n (Some x) = refl

marked : (row : List Semaphore) (values : List ℕ) (pid n value : ℕ) → n < length row → length values ≡ length row
    → mark_at (with_values row values) pid n (slice_get (with_values row values) n)
    ≡ with_values (set row n (made pid value)) values
marked [] values pid n value lt len = absurd (omega arith)
marked (s ∷ row) [] pid n value lt len = absurd (omega arith)
marked (s ∷ row) (x ∷ values) pid zero value lt len = refl
marked (s ∷ row) (x ∷ values) pid (suc n) value lt len =
    mark_later (record s { value = x }) (with_values row values) pid n (slice_get (with_values row values) n)
    ∙ ap (λ (t : List Semaphore). record s { value = x } ∷ t)
    (marked row values pid n value (omega arith) (omega arith))

-- a trial leaves as many values as there were
abbrev done : List ℕ → Tried
done values = Done values

same_done : (a b : List ℕ) → done a ≡ done b → a ≡ b
same_done a b e = cc

went_on : (size i num : ℕ) (values : List ℕ) (m : Moved) (rest : List ℕ → Tried) (out : List ℕ)
    → length values ≡ size → ((next : List ℕ) → length next ≡ size → rest next ≡ Done out → length out ≡ size)
    → go_on i values num m rest ≡ Done out → length out ≡ size
went_on size i num values (To value) rest out len further e =
    further (set values num value) (length-set values num value ∙ len) e
went_on size i num values Waits rest out len further e = absurd cc
went_on size i num values TooHigh rest out len further e = absurd cc

tried_length : (size i : ℕ) (values : List ℕ) (steps : List SemStep) (out : List ℕ) → length values ≡ size
    → try_from i values steps ≡ Done out → length out ≡ size
tried_length size i values [] out len e = subst (λ (x : List ℕ). length x ≡ size) (same_done values out e) len
tried_length size i values (step ∷ steps) out len e =
    went_on size i step.num values (move_at step.add (slice_get values step.num))
    (λ next. try_from (i + 1) next steps) out len
    (λ next same. tried_length size (i + 1) next steps out same) e

-- the mark of the first operation may be made before the others
marked_first : (row : List Semaphore) (pid value : ℕ) (step : SemStep) (steps : List SemStep) (t : Tried)
    → step.num < length row → ((values : List ℕ) → t ≡ Done values → length values ≡ length row)
    → op_after_trial (set_of row) pid (step ∷ steps) t
    ≡ op_after_trial (set_of (set row step.num (made pid value))) pid steps t
marked_first row pid value step steps (Done values) inside len =
    ap (λ (r : List Semaphore). Ok (set_of (fold (mark pid) r steps)))
    (marked row values pid step.num value inside (len values refl))
marked_first row pid value step steps (StopsAt index) inside len = refl
marked_first row pid value step steps OutOfRange inside len = refl

-- a row of semaphores is a set
abbrev pub as_set : Result (List Semaphore) Errno → Result SemaphoreSet Errno
as_set (Ok row) = Ok (set_of row)
as_set (Err e) = Err e

stepped : (pid i : ℕ) (row : List Semaphore) (step : SemStep) (steps : List SemStep) (m : Moved)
    → step.num < length row
    → ((value : ℕ) → op_after_trial (set_of (set row step.num (made pid value))) pid steps
    (try_from (i + 1) (values_of (set row step.num (made pid value))) steps)
    ≡ as_set (carried pid (set row step.num (made pid value)) steps))
    → op_after_trial (set_of row) pid (step ∷ steps)
    (go_on i (values_of row) step.num m (λ next. try_from (i + 1) next steps))
    ≡ as_set (on_value (answer_of m) (λ value. carried pid (set row step.num (made pid value)) steps))
stepped pid i row step steps (To value) inside ih =
    marked_first row pid value step steps (try_from (i + 1) (set (values_of row) step.num value) steps) inside
    (λ values. tried_length (length row) (i + 1) (set (values_of row) step.num value) steps values
    (length-set (values_of row) step.num value ∙ length-map row (λ (s : Semaphore). s.value)))
    ∙ ap (λ (vs : List ℕ). op_after_trial (set_of (set row step.num (made pid value))) pid steps
    (try_from (i + 1) vs steps)) (sym (values_set row step.num (made pid value)))
    ∙ ih value
stepped pid i row step steps Waits inside ih = refl
stepped pid i row step steps TooHigh inside ih = refl

inside_of : (size n len : ℕ) → len ≡ size → leb size n ≡ false → n < len
inside_of size n len same e = grind (arith, nat_tests)

pub carried_is : (pid i size : ℕ) (row : List Semaphore) (steps : List SemStep) → length row ≡ size
    → list_any (λ (step : SemStep). leb size step.num) steps ≡ false
    → op_after_trial (set_of row) pid steps (try_from i (values_of row) steps) ≡ as_set (carried pid row steps)
carried_is pid i size row [] len none = ap (λ (r : List Semaphore). Ok (set_of r)) (same_values row)
carried_is pid i size row (step ∷ steps) len none =
    let both = or_parts (leb size step.num) (list_any (λ (s : SemStep). leb size s.num) steps) none in
    let inside : step.num < length row = inside_of size step.num (length row) len both.0 in
    ap (λ (o : Option ℕ). op_after_trial (set_of row) pid (step ∷ steps)
    (go_on i (values_of row) step.num (move_at step.add o) (λ next. try_from (i + 1) next steps)))
    (value_at row step.num)
    ∙ stepped pid i row step steps
    (move_at step.add (option_map (λ (s : Semaphore). s.value) (slice_get row step.num))) inside
    (λ value. carried_is pid (i + 1) size (set row step.num (made pid value)) steps
    (length-set row step.num (made pid value) ∙ len) both.1)

-- ---- a first operation and the rest

abbrev AllInside : ℕ → List SemStep → Type 0
AllInside size steps = (i : ℕ) (d : SemStep) → i < length steps → (get_or steps i d).num < size

-- the first operation is on a semaphore of the set
pub first_inside : (size : ℕ) (steps : List SemStep) (step : SemStep) (rest : List SemStep) → steps ≡ step ∷ rest
    → AllInside size steps → step.num < size
first_inside size steps step rest is all = subst (AllInside size) is all 0 step (omega arith)

-- so are the others
pub rest_inside : (size same : ℕ) (steps : List SemStep) (step : SemStep) (rest : List SemStep) → steps ≡ step ∷ rest
    → same ≡ size → AllInside size steps → AllInside same rest
rest_inside size same steps step rest is sized all i d lt =
    subst (λ (n : ℕ). (get_or rest i d).num < n) (sym sized) (subst (AllInside size) is all (suc i) d (omega arith))

-- where the others are refused, the semaphore of the first is put back
pub put_back : {E : Type 0} (r : Result E Errno) (row new : List Semaphore) (i : ℕ) (x y : Semaphore) → i < length row
    → x ≡ get_or row i x → OnErr r (new ≡ set row i y) → OnErr r (set new i x ≡ row)
put_back (Ok e) row new i x y lt is h = tt
put_back (Err e) row new i x y lt is h = ap (λ (r : List Semaphore). set r i x) h ∙ restored row i x y lt is

-- ---- semop

-- what is carried out one by one is semop's answer
pub op_carried : (pid : ℕ) (row : List Semaphore) (steps : List SemStep) → length steps ≤ max_operations
    → list_any (λ (step : SemStep). leb (length row) step.num) steps ≡ false
    → op (set_of row) pid steps ≡ as_set (carried pid row steps)
op_carried pid row steps few none =
    let fits : ltb max_operations (length steps) ≡ false = grind (arith, nat_tests) in
    rw (fits, none) (carried_is pid 0 (length row) row steps refl none)

-- what was carried out is what semop leaves, and what refused is what its answer is
pub told_as : {E : Type 0} (r : Result E Errno) (answer : Result SemaphoreSet Errno)
    (left : Result (List Semaphore) Errno) (old new : List Semaphore) → answer ≡ as_set left
    → OnOk r (left ≡ Ok new) → IfErr r (λ e. left ≡ Err e) → OnErr r (new ≡ old)
    → MatchResult r (λ _. answer ≡ Ok (set_of new)) (λ e. (answer ≡ Err e) × (new ≡ old))
told_as (Ok x) answer left old new is done refused same = is ∙ ap as_set done
told_as (Err e) answer left old new is done refused same = (is ∙ ap as_set refused, same)
