-- Calls as they are made where they needn't wait: one that can't wait is the same call at once.
use Rattle.std.proofs.Common.{◌≡◌, ◌∙◌, ℕ, ◌+◌, Bool, true, false, not, ◌&&◌, List, [], ◌∷◌, length, map, fold, Option, Some, None, Ok, refl, ap}
use Rattle.std.specs.Prelude.{if◌then◌else◌, int_le, nat_le, pos, slice_get}
use Rattle.std.specs.List.{list_any}
use Rattle.std.proofs.lemmas.List.{length-map}
use Rattle.pico_base.specs.declared.call.Call.{Call}
use Rattle.pico_base.specs.declared.call.Call.TheVariants as calls
use Rattle.pico_base.specs.declared.call.SemStep.{SemStep}
use Rattle.number_maps.specs.Maps.{get}
use Rattle.kernel_model.specs.Effect.{Effect, on_named}
use Rattle.kernel_model.specs.Kernel.{Kernel, living_at}
use Rattle.kernel_model.specs.Row.{Alive}
use Rattle.kernel_model.specs.SemaphoreSet.{Semaphore, SemaphoreSet, Moved, To, Waits, TooHigh, Tried, Done, StopsAt, OutOfRange, go_on, mark, move_at, op, op_after_trial, try_from, try_ops, values_of, with_values}
use Rattle.kernel_model.specs.SetCalls.{change_set, operate}
use Rattle.kernel_model.specs.Transition.{effect, may_make, transition, transition_by}
use Rattle.kernel_model.specs.Waiting.{is_waiting, may_wait}
use Rattle.waiting_model.specs.Calls.{may_park}
use Rattle.waiting_model.specs.Linear.{at_once, step_at_once}
use Rattle.node_model.specs.Carrying.{is_served}

-- ---- operations on a set, which look at IPC_NOWAIT nowhere but where they stop

any-at-once : (test : ℕ → Bool) (steps : List SemStep)
    → list_any (λ step. test step.num) (map step_at_once steps) ≡ list_any (λ step. test step.num) steps
any-at-once test [] = refl
any-at-once test (step ∷ steps) = rw (any-at-once test steps) refl

go-on-same : (index : ℕ) (values : List ℕ) (num : ℕ) (moved : Moved) (r s : List ℕ → Tried)
    → ((next : List ℕ) → r next ≡ s next) → go_on index values num moved r ≡ go_on index values num moved s
go-on-same index values num (To value) r s same = same _
go-on-same index values num Waits r s same = refl
go-on-same index values num TooHigh r s same = refl

try-at-once : (index : ℕ) (values : List ℕ) (steps : List SemStep)
    → try_from index values (map step_at_once steps) ≡ try_from index values steps
try-at-once index values [] = refl
try-at-once index values (step ∷ steps) =
    go-on-same index values step.num (move_at step.add (slice_get values step.num)) _ _
    (λ next. try-at-once (index + 1) next steps)

marks-at-once : (pid : ℕ) (steps : List SemStep) (semaphores : List Semaphore)
    → fold (mark pid) semaphores (map step_at_once steps) ≡ fold (mark pid) semaphores steps
marks-at-once pid [] semaphores = refl
marks-at-once pid (step ∷ steps) semaphores = marks-at-once pid steps (mark pid semaphores step)

trial-at-once : (set : SemaphoreSet) (pid : ℕ) (steps : List SemStep) (tried : Tried)
    → op_after_trial set pid (map step_at_once steps) tried ≡ op_after_trial set pid steps tried
trial-at-once set pid steps (Done values) =
    ap (λ (semaphores : List Semaphore). Ok (record set { semaphores = semaphores }))
    (marks-at-once pid steps (with_values set.semaphores values))
trial-at-once set pid steps (StopsAt index) = refl
trial-at-once set pid steps OutOfRange = refl

-- where they stop they are refused
pub op-at-once : (set : SemaphoreSet) (pid : ℕ) (steps : List SemStep)
    → op set pid (map step_at_once steps) ≡ op set pid steps
op-at-once set pid steps =
    let trial : op_after_trial set pid (map step_at_once steps)
    (try_ops (values_of set.semaphores) (map step_at_once steps))
    ≡ op_after_trial set pid steps (try_ops (values_of set.semaphores) steps) =
    trial-at-once set pid steps _ ∙ ap (op_after_trial set pid steps) (try-at-once 0 (values_of set.semaphores) steps)
    in rw (length-map steps step_at_once, any-at-once (nat_le (length set.semaphores)) steps, trial) refl

-- ---- steps of the kernel

and-false : (b : Bool) → (b && false) ≡ false
and-false true = refl
and-false false = refl

none-waits : (steps : List SemStep) → list_any may_wait (map step_at_once steps) ≡ false
none-waits [] = refl
none-waits (step ∷ steps) = rw (and-false (int_le step.add (pos 0)), none-waits steps) refl

operates-same : (k : Kernel) (pid id : ℕ) (steps : List SemStep) (o : Option SemaphoreSet)
    → on_named k o (λ set. change_set k id (op set pid (map step_at_once steps)))
    ≡ on_named k o (λ set. change_set k id (op set pid steps))
operates-same k pid id steps None = refl
operates-same k pid id steps (Some set) = ap (change_set k id) (op-at-once set pid steps)

operate-at-once : (k : Kernel) (pid id : ℕ) (steps : List SemStep) → list_any may_wait steps ≡ false
    → operate k pid id (map step_at_once steps) ≡ operate k pid id steps
operate-at-once k pid id steps ready =
    rw (none-waits steps, ready) (ap Some (operates-same k pid id steps (get k.sets id)))

-- what can't wait has the same effect
pub at-once-effect : (k : Kernel) (pid : ℕ) (a : Alive) (call : Call) (n : ℕ) → is_waiting call ≡ false
    → effect k pid a (at_once call) n ≡ effect k pid a call n
at-once-effect k pid a (calls.WaitPid child true) n h = refl
at-once-effect k pid a (calls.WaitPid child false) n h = absurd (cc)
at-once-effect k pid a (calls.MsgSnd id class text true) n h = refl
at-once-effect k pid a (calls.MsgSnd id class text false) n h = absurd (cc)
at-once-effect k pid a (calls.MsgRcv id class size noerror true) n h = refl
at-once-effect k pid a (calls.MsgRcv id class size noerror false) n h = absurd (cc)
at-once-effect k pid a (calls.SemOp id steps) n h = operate-at-once k pid id steps h
at-once-effect k pid a call n h = refl

-- and may be made as it is
pub at-once-may : (a : Alive) (call : Call) → may_make a (at_once call) ≡ may_make a call
at-once-may a (calls.WaitPid child nohang) = refl
at-once-may a (calls.MsgSnd id class text nowait) = refl
at-once-may a (calls.MsgRcv id class size noerror nowait) = refl
at-once-may a (calls.SemOp id steps) = refl
at-once-may a call = refl

-- so it is the same step
pub at-once-steps : (k : Kernel) (pid : ℕ) (call : Call) (n : ℕ) → is_waiting call ≡ false
    → transition k pid (at_once call) n ≡ transition k pid call n
at-once-steps k pid call n h = by (living_at k pid)
  where
    by : (o : Option Alive) → transition_by k pid (at_once call) n o ≡ transition_by k pid call n o
    by None = refl
    by (Some a) = rw (at-once-may a call, at-once-effect k pid a call n h) refl

-- what has an effect can't wait
pub never-waits : (k : Kernel) (pid : ℕ) (a : Alive) (call : Call) (n : ℕ) (e : Effect)
    → effect k pid a call n ≡ Some e → is_waiting call ≡ false
never-waits k pid a (calls.WaitPid child true) n e h = refl
never-waits k pid a (calls.WaitPid child false) n e h = absurd (cc)
never-waits k pid a (calls.MsgSnd id class text true) n e h = refl
never-waits k pid a (calls.MsgSnd id class text false) n e h = absurd (cc)
never-waits k pid a (calls.MsgRcv id class size noerror true) n e h = refl
never-waits k pid a (calls.MsgRcv id class size noerror false) n e h = absurd (cc)
never-waits k pid a (calls.SemOp id steps) n e h = by (list_any may_wait steps) h
  where
    by : (b : Bool)
        → (if b then None else Some (on_named k (get k.sets id) (λ set. change_set k id (op set pid steps)))) ≡ Some e
        → b ≡ false
    by true h = absurd (cc)
    by false h = refl
never-waits k pid a (calls.Withdraw name) n e h = absurd (cc)
never-waits k pid a call n e h = refl

-- ---- calls that are served at once

operation-served : (steps : List SemStep) → (true && not (list_any may_wait (map step_at_once steps))) ≡ true
operation-served steps = ap (λ (b : Bool). true && not b) (none-waits steps)

-- one that is served is so at once
pub served-at-once : (call : Call) → is_served call ≡ true → is_served (at_once call) ≡ true
served-at-once (calls.WaitPid child nohang) h = refl
served-at-once (calls.MsgSnd id class text nowait) h = refl
served-at-once (calls.MsgRcv id class size noerror nowait) h = refl
served-at-once (calls.SemOp id steps) h = operation-served steps
served-at-once call h = h

-- and so is one that may have to wait
pub parked-at-once : (call : Call) → may_park call ≡ true → is_served (at_once call) ≡ true
parked-at-once (calls.WaitPid child nohang) h = refl
parked-at-once (calls.MsgSnd id class text nowait) h = refl
parked-at-once (calls.MsgRcv id class size noerror nowait) h = refl
parked-at-once (calls.SemOp id steps) h = operation-served steps
parked-at-once call h = absurd (cc)
