-- Those who wait at a set, and what a removal tells each who waits.
use Rattle.std.specs.Prelude.{◌≡◌, ℕ, Bool, List, Option, Some, None, slice_get}
use Rattle.pico_base.specs.declared.call.Call.{Call}
use Rattle.pico_base.specs.declared.call.Call.TheVariants as calls
use Rattle.pico_base.specs.declared.call.SemStep.{SemStep}
use Rattle.pico_base.specs.declared.reply.Errno.TheVariants.{Eidrm}
use Rattle.pico_base.specs.declared.reply.Reply.{Reply}
use Rattle.pico_base.specs.declared.reply.Reply.TheVariants.{Fail}
use Rattle.kernel_model.specs.SemaphoreSet.{SemaphoreSet, read_semaphore}
use Rattle.waiting_model.specs.declared.callers.Waiting.{Waiting}
use Rattle.waiting_model.specs.Waiters.{Awaited}
use Rattle.waiting_model.specs.SemaphoreSet.{is_negative_on, is_zero_on, count_waiters, count_reply, stop_of, steps_of}
use Rattle.mono_kernel.specs.declared.awaited_set.Look.{Look}
use Rattle.mono_kernel.specs.declared.awaited_set.Look.TheVariants.{Negative, Zero}

-- the call is a `semop` of these operations
abbrev pub Operates : Call → List SemStep → Type 0
Operates (calls.SemOp id steps) these = steps ≡ these
Operates call these = ⊥

-- a waiter and its reply where what it waits at is removed
abbrev pub eidrm_for : Waiting → ℕ × Reply
eidrm_for w = (w.pid, Fail Eidrm)

-- whether a waiter is counted, by the operation at which it stops
abbrev pub tests : Look → ℕ → Option SemStep → Bool
tests Negative num stop = is_negative_on num stop
tests Zero num stop = is_zero_on num stop

-- the reply of semctl with GETNCNT or GETZCNT
abbrev pub counted_reply : Look → ℕ → Awaited SemaphoreSet → Reply
counted_reply look num set =
    count_reply (read_semaphore (slice_get set.state.semaphores num) (λ _. count_waiters (tests look num) set))

-- the operation at which the waiter of a place stops
abbrev pub StopsIn : SemaphoreSet → Option Waiting → Option SemStep → Type 0
StopsIn set None stop = ⊥
StopsIn set (Some w) stop = stop ≡ stop_of set (steps_of w.call)

abbrev pub StopsAt : Awaited SemaphoreSet → ℕ → Option SemStep → Type 0
StopsAt object place stop = StopsIn object.state (slice_get object.waiters place) stop
