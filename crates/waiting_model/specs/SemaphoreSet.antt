-- A semaphore set at which callers wait (POSIX.1-2017: semop, semctl).
use Rattle.std.specs.Prelude.{ℕ, pos, Bool, false, not, ◌&&◌, nat_eq, nat_le, int_lt, List, [], length, count_by, if◌then◌else◌, Option, Some, None, Result, Ok, Err, slice_get}
use Rattle.std.specs.List.{list_any}
use Rattle.std.specs.Ordering.{int_eq}
use Rattle.pico_base.specs.declared.call.Call.{Call}
use Rattle.pico_base.specs.declared.call.Call.TheVariants as calls
use Rattle.pico_base.specs.declared.call.SemStep.{SemStep}
use Rattle.pico_base.specs.declared.reply.Errno.{Errno}
use Rattle.pico_base.specs.declared.reply.Errno.TheVariants.{Einval}
use Rattle.pico_base.specs.declared.reply.Reply.{Reply}
use Rattle.pico_base.specs.declared.reply.Reply.TheVariants.{Num, Fail, All}
use Rattle.kernel_model.specs.SemaphoreSet.{SemaphoreSet, Tried, Done, StopsAt, OutOfRange, max_operations, op, try_ops, values_of, value_at, last_at, set_value, set_all, read_semaphore}
use Rattle.kernel_model.specs.Waiting.{may_wait}
use Rattle.waiting_model.specs.declared.callers.Waiting.{Waiting}
use Rattle.waiting_model.specs.Waiters.{Attempt, Awaited, Carried, attempt, refused, changed, looked_up, carry_out}

-- the operation at which a trial stops, where it does
abbrev pub stop_in : List SemStep → Tried → Option SemStep
stop_in steps (Done values) = None
stop_in steps (StopsAt index) = slice_get steps index
stop_in steps OutOfRange = None

abbrev pub stop_of : SemaphoreSet → List SemStep → Option SemStep
stop_of set steps = stop_in steps (try_ops (values_of set.semaphores) steps)

-- the operations come to a trial: there aren't too many, and each names a semaphore
abbrev pub are_tried : SemaphoreSet → List SemStep → Bool
are_tried set steps =
    nat_le (length steps) max_operations && not (list_any (λ step. nat_le (length set.semaphores) step.num) steps)

abbrev pub waits_for : Option SemStep → Bool
waits_for None = false
waits_for (Some step) = may_wait step

-- semop: where the trial stops at an operation with IPC_NOWAIT the call is refused with EAGAIN, at another it has to
-- wait. So a call whose first operations can go on may be refused once it has waited
abbrev pub try_op : SemaphoreSet → ℕ → List SemStep → Option (Attempt SemaphoreSet)
try_op set pid steps =
    if are_tried set steps && waits_for (stop_of set steps) then None else Some (changed set (op set pid steps))

-- a call on a set that is there; no other call comes here
abbrev pub try_set : SemaphoreSet → ℕ → Call → Option (Attempt SemaphoreSet)
try_set set pid (calls.SemOp id steps) = try_op set pid steps
try_set set pid (calls.SemGetVal id num) = Some (looked_up set (value_at set num))
try_set set pid (calls.SemGetPid id num) = Some (looked_up set (last_at set num))
try_set set pid (calls.SemSetVal id num value) = Some (changed set (set_value set num value))
try_set set pid (calls.SemGetAll id) = Some (attempt set (All (values_of set.semaphores)))
try_set set pid (calls.SemSetAll id values) = Some (changed set (set_all set values))
try_set set pid call = Some (refused set Einval)

-- semctl with GETNCNT and GETZCNT: those who wait at an operation on this semaphore, for a higher value or for 0

abbrev pub steps_of : Call → List SemStep
steps_of (calls.SemOp id steps) = steps
steps_of call = []

abbrev pub is_negative_on : ℕ → Option SemStep → Bool
is_negative_on num None = false
is_negative_on num (Some step) = nat_eq step.num num && int_lt step.add (pos 0)

abbrev pub is_zero_on : ℕ → Option SemStep → Bool
is_zero_on num None = false
is_zero_on num (Some step) = nat_eq step.num num && int_eq step.add (pos 0)

abbrev pub count_waiters : (Option SemStep → Bool) → Awaited SemaphoreSet → ℕ
count_waiters test set = count_by (λ w. test (stop_of set.state (steps_of w.call))) set.waiters

abbrev pub count_reply : Result ℕ Errno → Reply
count_reply (Ok n) = Num n
count_reply (Err e) = Fail e

abbrev pub counted : (Option SemStep → Bool) → Awaited SemaphoreSet → ℕ → Carried SemaphoreSet
counted test set num =
    record {
      object = set;
      own =
          Some (count_reply (read_semaphore (slice_get set.state.semaphores num) (λ _. count_waiters test set)));
      wakes = [];
    }

abbrev pub carry_out_on_set_by : Awaited SemaphoreSet → Waiting → Call → Carried SemaphoreSet
carry_out_on_set_by set who (calls.SemGetNcnt id num) = counted (is_negative_on num) set num
carry_out_on_set_by set who (calls.SemGetZcnt id num) = counted (is_zero_on num) set num
carry_out_on_set_by set who call = carry_out try_set set who

abbrev pub carry_out_on_set : Awaited SemaphoreSet → Waiting → Carried SemaphoreSet
carry_out_on_set set who = carry_out_on_set_by set who who.call
