-- What a try gives, it gives at once too.
use Rattle.std.proofs.Common.{◌≡◌, ◌∙◌, ℕ, zero, suc, ◌+◌, pos, Bool, true, false, not, ◌&&◌, ◌||◌, List, [], ◌∷◌, map, length, Option, Some, None, Result, Ok, Err, refl, ap}
use Rattle.std.specs.Prelude.{if◌then◌else◌, nat_le, nat_lt, int_le, fold, slice_get}
use Rattle.std.specs.List.{list_any}
use Rattle.std.proofs.lemmas.Bool.{or_parts, and_right}
use Rattle.pico_base.specs.declared.call.Call.{Call}
use Rattle.pico_base.specs.declared.call.Call.TheVariants as calls
use Rattle.pico_base.specs.declared.call.SemStep.{SemStep}
use Rattle.pico_base.specs.declared.reply.Errno.{Errno}
use Rattle.pico_base.specs.declared.reply.Errno.TheVariants.{Eagain, Enomsg, E2big, Efbig}
use Rattle.kernel_model.specs.Queue.{Queue, Received, send, receive}
use Rattle.kernel_model.specs.SemaphoreSet.{Semaphore, SemaphoreSet, Tried, Done, StopsAt, OutOfRange, go_on, mark, max_operations, move_at, op, op_after_trial, set_of, try_from, try_ops, values_of, with_values}
use Rattle.kernel_model.specs.Row as rows
use Rattle.kernel_model.specs.Transition.{may_make}
use Rattle.kernel_model.specs.Waiting.{may_wait}
use Rattle.kernel_laws.proofs.Plain.{not_some}
use Rattle.waiting_model.specs.Waiters.{Attempt, changed}
use Rattle.waiting_model.specs.Queue.{stopped, try_queue, try_receive, try_send}
use Rattle.waiting_model.specs.SemaphoreSet.{are_tried, stop_in, stop_of, try_op, try_set, waits_for}
use Rattle.waiting_model.specs.Linear.{at_once, step_at_once}

-- ---- queues

refused-at-once : {T : Type 0} (state : T) (nowait : Bool) (e : Errno) (a : Attempt T) → stopped state nowait e ≡ Some a
    → stopped state true e ≡ Some a
refused-at-once state true e a h = h
refused-at-once state false e a h = not_some a h

send-at-once : (q : Queue) (nowait : Bool) (r : Result Queue Errno) (a : Attempt Queue)
    → try_send q nowait r ≡ Some a → try_send q true r ≡ Some a
send-at-once q nowait (Ok next) a h = h
send-at-once q nowait (Err Eagain) a h = refused-at-once q nowait Eagain a h
send-at-once q nowait (Err e) a h = h

receive-at-once : (q : Queue) (nowait : Bool) (r : Result Received Errno) (a : Attempt Queue)
    → try_receive q nowait r ≡ Some a → try_receive q true r ≡ Some a
receive-at-once q nowait (Ok r) a h = h
receive-at-once q nowait (Err Enomsg) a h = refused-at-once q nowait Enomsg a h
receive-at-once q nowait (Err e) a h = h

-- at a queue
pub queue-at-once : (q : Queue) (pid : ℕ) (call : Call) (a : Attempt Queue) → try_queue q pid call ≡ Some a
    → try_queue q pid (at_once call) ≡ Some a
queue-at-once q pid (calls.MsgSnd id class text nowait) a h = send-at-once q nowait (send q pid class text) a h
queue-at-once q pid (calls.MsgRcv id class size noerror nowait) a h =
    receive-at-once q nowait (receive q pid class size noerror) a h
queue-at-once q pid call a h = h

-- ---- sets

-- a semop each of whose operations may give up
no-stop-at : (steps : List SemStep) (i : ℕ) → list_any may_wait steps ≡ false
    → waits_for (slice_get steps i) ≡ false
no-stop-at [] i h = refl
no-stop-at (step ∷ steps) zero h = (or_parts (may_wait step) (list_any may_wait steps) h).0
no-stop-at (step ∷ steps) (suc i) h = no-stop-at steps i (or_parts (may_wait step) (list_any may_wait steps) h).1

no-stop : (steps : List SemStep) (t : Tried) → list_any may_wait steps ≡ false → waits_for (stop_in steps t) ≡ false
no-stop steps (Done values) h = refl
no-stop steps (StopsAt i) h = no-stop-at steps i h
no-stop steps OutOfRange h = refl

-- so it has its reply at once
pub op-at-once : (s : SemaphoreSet) (pid : ℕ) (steps : List SemStep) → list_any may_wait steps ≡ false
    → try_op s pid steps ≡ Some (changed s (op s pid steps))
op-at-once s pid steps h =
    ap (λ (b : Bool). (if b then None else Some (changed s (op s pid steps))))
    (and_right (are_tried s steps) (waits_for (stop_of s steps))
    (no-stop steps (try_ops (values_of s.semaphores) steps) h))

-- no operation may have to wait
never-wait : (step : SemStep) → may_wait (step_at_once step) ≡ false
never-wait step = by_test (int_le step.add (pos 0))
  where
    by_test : (b : Bool) → (b && not true) ≡ false
    by_test true = refl
    by_test false = refl

-- of steps made at once none may wait
pub none-waits : (steps : List SemStep) → list_any may_wait (map step_at_once steps) ≡ false
none-waits [] = refl
none-waits (step ∷ steps) =
    ap (λ (b : Bool). b || list_any may_wait (map step_at_once steps)) (never-wait step) ∙ none-waits steps

length-at-once : (steps : List SemStep) → length (map step_at_once steps) ≡ length steps
length-at-once [] = refl
length-at-once (step ∷ steps) = ap suc (length-at-once steps)

names-at-once : (n : ℕ) (steps : List SemStep)
    → list_any (λ step. nat_le n step.num) (map step_at_once steps) ≡ list_any (λ step. nat_le n step.num) steps
names-at-once n [] = refl
names-at-once n (step ∷ steps) = ap (λ (b : Bool). nat_le n step.num || b) (names-at-once n steps)

marks-at-once : (pid : ℕ) (steps : List SemStep) (semaphores : List Semaphore)
    → fold (mark pid) semaphores (map step_at_once steps) ≡ fold (mark pid) semaphores steps
marks-at-once pid [] semaphores = refl
marks-at-once pid (step ∷ steps) semaphores = marks-at-once pid steps (mark pid semaphores step)

trial-at-once : (index : ℕ) (values : List ℕ) (steps : List SemStep)
    → try_from index values (map step_at_once steps) ≡ try_from index values steps
trial-at-once index values [] = refl
trial-at-once index values (step ∷ steps) =
    ap (go_on index values step.num (move_at step.add (slice_get values step.num)))
    (λ i next. trial-at-once (index + 1) next steps i)

after-at-once : (set : SemaphoreSet) (pid : ℕ) (steps : List SemStep) (t : Tried)
    → op_after_trial set pid (map step_at_once steps) t ≡ op_after_trial set pid steps t
after-at-once set pid steps (Done values) =
    ap (λ (semaphores : List Semaphore). (let r : Result SemaphoreSet Errno = Ok (set_of semaphores) in r))
    (marks-at-once pid steps (with_values set.semaphores values))
after-at-once set pid steps (StopsAt index) = refl
after-at-once set pid steps OutOfRange = refl

-- the operations come to the same
op-alike : (set : SemaphoreSet) (pid : ℕ) (steps : List SemStep)
    → op set pid (map step_at_once steps) ≡ op set pid steps
op-alike set pid steps =
    ap
    (λ (n : ℕ).
    (if nat_lt max_operations n then Err E2big
    else if list_any (λ step. nat_le (length set.semaphores) step.num) (map step_at_once steps) then Err Efbig
    else op_after_trial set pid (map step_at_once steps)
    (try_ops (values_of set.semaphores) (map step_at_once steps))))
    (length-at-once steps)
    ∙ (ap
    (λ (b : Bool).
    (if nat_lt max_operations (length steps) then Err E2big
    else if b then Err Efbig
    else op_after_trial set pid (map step_at_once steps)
    (try_ops (values_of set.semaphores) (map step_at_once steps))))
    (names-at-once (length set.semaphores) steps)
    ∙ ap
    (λ (r : Result SemaphoreSet Errno).
    (if nat_lt max_operations (length steps) then Err E2big
    else if list_any (λ step. nat_le (length set.semaphores) step.num) steps then Err Efbig
    else r))
    (after-at-once set pid steps (try_ops (values_of set.semaphores) (map step_at_once steps))
    ∙ ap (op_after_trial set pid steps) (trial-at-once 0 (values_of set.semaphores) steps)))

-- what needn't wait is changed by its operations, or refused
tried-op : (set : SemaphoreSet) (r : Result SemaphoreSet Errno) (b : Bool) (a : Attempt SemaphoreSet)
    → (if b then None else Some (changed set r)) ≡ Some a → Some (changed set r) ≡ Some a
tried-op set r true a h = not_some a h
tried-op set r false a h = h

-- what a try of a set comes to, the call made at once comes to as well
pub set-at-once : (set : SemaphoreSet) (pid : ℕ) (call : Call) (a : Attempt SemaphoreSet)
    → try_set set pid call ≡ Some a
    → try_set set pid (at_once call) ≡ Some a
set-at-once set pid (calls.SemOp id steps) a h =
    op-at-once set pid (map step_at_once steps) (none-waits steps)
    ∙ (ap (λ (r : Result SemaphoreSet Errno). (let o : Option (Attempt SemaphoreSet) = Some (changed set r) in o))
    (op-alike set pid steps)
    ∙ tried-op set (op set pid steps) (are_tried set steps && waits_for (stop_of set steps)) a h)
set-at-once set pid call a h = h

-- ---- who may

-- a call may be made at once where it may be made
pub may-at-once : (a : rows.Alive) (call : Call) → may_make a (at_once call) ≡ may_make a call
may-at-once a (calls.WaitPid child nohang) = refl
may-at-once a (calls.MsgSnd id class text nowait) = refl
may-at-once a (calls.MsgRcv id class size noerror nowait) = refl
may-at-once a (calls.SemOp id steps) = refl
may-at-once a call = refl
