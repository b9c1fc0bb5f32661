-- Calls that wait at a set have a spelling.
use Rattle.std.proofs.Common.{◌≡◌, ◌≤◌, ℕ, true, List, [], ◌∷◌, length, Some, None, arith}
use Rattle.std.specs.List.{AllByRecursion}
use Rattle.std.proofs.lemmas.Bool.Decides.{nat_tests}
use Rattle.pico_base.specs.declared.call.Call.{Call}
use Rattle.pico_base.specs.declared.call.Call.TheVariants as calls
use Rattle.pico_base.specs.declared.call.SemStep.{SemStep}
use Rattle.frame_bytes.specs.Limits.{is_call, is_count}
use Rattle.kernel_model.specs.SemaphoreSet.{SemaphoreSet, max_operations}
use Rattle.waiting_model.specs.declared.callers.Waiting.{Waiting}
use Rattle.waiting_model.specs.SemaphoreSet.{try_op, try_set}
use Rattle.sysv_sem.specs.Waiters.{IsShortOp, IsSetWaiter}

some_none : {X : Type 0} (x : X) → Some x ≡ None → ⊥
some_none x e = absurd (cc)

-- there is an operation, since none never waits
some_count : (set : SemaphoreSet) (pid : ℕ) (steps : List SemStep) → length steps ≤ max_operations
    → try_op set pid steps ≡ None → is_count (length steps) ≡ true
some_count set pid [] few e = absurd (cc)
some_count set pid (s ∷ ss) few e = grind (arith, nat_tests)

-- a call that has to wait has a spelling
pub asked_of_settled : (set : SemaphoreSet) (pid : ℕ) (call : Call) → IsShortOp call → try_set set pid call ≡ None
    → is_call call ≡ true
asked_of_settled set pid (calls.SemOp id steps) h e = some_count set pid steps h e
asked_of_settled set pid call h e = absurd h

-- those who wait in a set at rest
pub are_asked : (set : SemaphoreSet) (ws : List Waiting) → AllByRecursion IsSetWaiter ws
    → AllByRecursion (λ w. try_set set w.pid w.call ≡ None) ws → AllByRecursion (λ w. is_call w.call ≡ true) ws
are_asked set [] h g = tt
are_asked set (w ∷ ws) h g =
    let first = h.0 in (asked_of_settled set w.pid w.call first.call g.0, are_asked set ws h.1 g.1)
