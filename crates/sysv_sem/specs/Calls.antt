-- Calls on a set, and what one comes to, as the program has it.
use Rattle.std.specs.Prelude.{ℕ, Bool, true, false, Option, Some, None, slice_get}
use Rattle.answer_laws.specs.Answers.{reply_to}
use Rattle.pico_base.specs.declared.call.Call.{Call}
use Rattle.pico_base.specs.declared.call.Call.TheVariants as calls
use Rattle.pico_base.specs.declared.call.SemStep.{SemStep}
use Rattle.pico_base.specs.declared.reply.Reply.{Reply}
use Rattle.pico_base.specs.declared.reply.Reply.TheVariants.{All}
use Rattle.kernel_model.specs.SemaphoreSet.{SemaphoreSet, values_of, value_at, last_at, read_semaphore}
use Rattle.waiting_model.specs.declared.callers.Applied.{Applied}
use Rattle.waiting_model.specs.Waiters.{Awaited, Carried}
use Rattle.waiting_model.specs.SemaphoreSet.{is_negative_on, is_zero_on, count_waiters, count_reply}
use Rattle.sysv_sem.specs.declared.waiters.Look.{Look}
use Rattle.sysv_sem.specs.declared.waiters.Look.TheVariants.{Negative, Zero}

-- the calls on a set that is there: all but its removal
abbrev pub is_on_set : Call → Bool
is_on_set (calls.SemOp id steps) = true
is_on_set (calls.SemGetVal id num) = true
is_on_set (calls.SemGetPid id num) = true
is_on_set (calls.SemGetNcnt id num) = true
is_on_set (calls.SemGetZcnt id num) = true
is_on_set (calls.SemSetVal id num value) = true
is_on_set (calls.SemGetAll id) = true
is_on_set (calls.SemSetAll id values) = true
is_on_set call = false

-- those that leave it as it is, so that nobody can go on after them
abbrev pub is_look : Call → Bool
is_look (calls.SemGetVal id num) = true
is_look (calls.SemGetPid id num) = true
is_look (calls.SemGetNcnt id num) = true
is_look (calls.SemGetZcnt id num) = true
is_look (calls.SemGetAll id) = true
is_look call = false

-- whether a waiter is counted, by the operation at which it stops
abbrev pub tests : Look → ℕ → Option SemStep → Bool
tests Negative num stop = is_negative_on num stop
tests Zero num stop = is_zero_on num stop

-- the reply of semctl with GETNCNT or GETZCNT
abbrev pub counted_reply : Look → ℕ → Awaited SemaphoreSet → Reply
counted_reply look num set =
    count_reply (read_semaphore (slice_get set.state.semaphores num) (λ _. count_waiters (tests look num) set))

-- the reply of a look, and none of another call
abbrev pub look_reply : Awaited SemaphoreSet → Call → Option Reply
look_reply set (calls.SemGetVal id num) = Some (reply_to (value_at set.state num))
look_reply set (calls.SemGetPid id num) = Some (reply_to (last_at set.state num))
look_reply set (calls.SemGetNcnt id num) = Some (counted_reply Negative num set)
look_reply set (calls.SemGetZcnt id num) = Some (counted_reply Zero num set)
look_reply set (calls.SemGetAll id) = Some (All (values_of set.state.semaphores))
look_reply set call = None

-- what a call comes to: the object afterwards, the caller's own reply, none where it parks, and those who are woken
abbrev pub carried_to : {T : Type 0} → Awaited T → Applied → Carried T
carried_to object applied = record { object = object; own = applied.own; wakes = applied.wakes }
