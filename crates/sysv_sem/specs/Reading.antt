-- Reading a body from left to right: a field is its value and the bytes after it, or there is none.
use Rattle.std.specs.Prelude.{ℕ, Bool, true, false, not, ◌&&◌, nat_eq, nat_le, List, [], ◌∷◌, length, Option, None, is_some, ◌==◌, if◌then◌else◌}
use Rattle.std.specs.Int.{w16}
use Rattle.std.specs.List.{list_all, list_any}
use Rattle.pico_base.specs.declared.call.Call.{Call}
use Rattle.pico_base.specs.declared.call.Call.TheVariants as calls
use Rattle.body_fields.specs.Fields.{byte_upto, number_upto, whole}
use Rattle.frame_bytes.specs.Fields.{word_at}
use Rattle.frame_bytes.specs.Frames.{asked_at}
use Rattle.frame_bytes.specs.Readers.{Reader, byte_at, passing, counted, one, two}
use Rattle.kernel_model.specs.SemaphoreSet.{Semaphore, SemaphoreSet, set_of, is_bad_count, max_operations, max_value}
use Rattle.rpc_frame.specs.declared.asked.Asked.{Asked}
use Rattle.waiting_model.specs.declared.callers.Waiting.{Waiting}
use Rattle.waiting_model.specs.Waiters.{Awaited, awaited}
use Rattle.sysv_sem.specs.Body.{set_code}
use Rattle.sysv_sem.specs.Waiters.{max_waiters, try_steps}

-- a semaphore: its value, and its last process
unfoldable pub semaphore_at : Reader Semaphore
semaphore_at bytes = two (number_upto w16 max_value) word_at (λ value last. record { value = value; last = last }) bytes

abbrev pub is_good_count : ℕ → Bool
is_good_count n = not (is_bad_count n)

-- a count that a set may have, and so many semaphores
unfoldable pub row_at : Reader (List Semaphore)
row_at bytes = counted (passing is_good_count byte_at) semaphore_at bytes

-- one who waits

abbrev pub waiting_of : Asked → Waiting
waiting_of a = record { caller = a.caller; ticket = a.ticket; pid = a.pid; call = a.call }

abbrev pub is_short_op : Call → Bool
is_short_op (calls.SemOp id steps) = nat_le (length steps) max_operations
is_short_op call = false

unfoldable pub waiter_at : Reader Waiting
waiter_at bytes = passing (λ w. is_short_op w.call) (one asked_at waiting_of) bytes

-- no two are of one process
abbrev pub have_own : List Waiting → Bool
have_own [] = true
have_own (w ∷ ws) = not (list_any (λ v. nat_eq w.pid v.pid) ws) && have_own ws

-- those who wait
unfoldable pub waiters_at : Reader (List Waiting)
waiters_at bytes = passing have_own (counted (byte_upto max_waiters) waiter_at) bytes

-- whether nobody waits who could go on
abbrev pub waits : SemaphoreSet → Waiting → Bool
waits set w = not (is_some (try_steps set w.pid w.call))

abbrev pub is_settled : Awaited SemaphoreSet → Bool
is_settled set = list_all (waits set.state) set.waiters

-- all fields behind the code
unfoldable pub fields_at : Reader (Awaited SemaphoreSet)
fields_at bytes = passing is_settled (two row_at waiters_at (λ row ws. awaited (set_of row) ws)) bytes

-- a set that all of the bytes spell
unfoldable pub set_at : List ℕ → Option (Awaited SemaphoreSet)
set_at [] = None
set_at (code ∷ bytes) = if code == set_code then whole (fields_at bytes) else None
