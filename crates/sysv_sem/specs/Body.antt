-- A set at which callers wait, as bytes (profile): a code, the count of semaphores in one byte, each semaphore as its
-- value and its last process, the count of those who wait in one byte, and each of them as a frame brings a call that
-- was asked for. Numbers are big-endian.
use Rattle.std.specs.Prelude.{◌≡◌, ℕ, ◌<◌, ◌^◌, List, ◌∷◌, ◌++◌, length}
use Rattle.std.specs.List.{flat_map, AllByRecursion}
use Rattle.std.specs.Int.{w16, w32, to_be_bytes}
use Rattle.frame_bytes.specs.Frames.{asked_field}
use Rattle.frame_bytes.specs.Ranges.{HasAskedRanges}
use Rattle.kernel_model.specs.SemaphoreSet.{Semaphore, SemaphoreSet}
use Rattle.rpc_frame.specs.declared.asked.Asked.{Asked}
use Rattle.waiting_model.specs.declared.callers.Waiting.{Waiting}
use Rattle.waiting_model.specs.Waiters.{Awaited}
use Rattle.sysv_sem.specs.Waiters.{IsAtRest}

abbrev pub set_code : ℕ
set_code = 5

abbrev pub semaphore_field : Semaphore → List ℕ
semaphore_field s = to_be_bytes w16 s.value ++ to_be_bytes w32 s.last

abbrev pub row_field : List Semaphore → List ℕ
row_field row = length row ∷ flat_map semaphore_field row

-- one who waits, as a call that was asked for
abbrev pub asked_of : Waiting → Asked
asked_of w = record { caller = w.caller; ticket = w.ticket; pid = w.pid; call = w.call }

abbrev pub waiter_field : Waiting → List ℕ
waiter_field w = asked_field (asked_of w)

abbrev pub waiters_field : List Waiting → List ℕ
waiters_field ws = length ws ∷ flat_map waiter_field ws

abbrev pub body : Awaited SemaphoreSet → List ℕ
body set = set_code ∷ (row_field set.state.semaphores ++ waiters_field set.waiters)

-- its process number has 32 bits
abbrev pub HasProcess : Semaphore → Type 0
HasProcess s = s.last < 2 ^ 32

-- a waiter's numbers are in the ranges of their types
abbrev pub HasWaiterRanges : Waiting → Type 0
HasWaiterRanges w = HasAskedRanges (asked_of w)

-- The bytes are the body of the set, which is at rest: where somebody waits who could go on, they are none's.
pub record IsBodyOf (set : Awaited SemaphoreSet) (bytes : List ℕ) : Type 0 where
  pub rest : IsAtRest set
  pub processes : AllByRecursion HasProcess set.state.semaphores
  pub ranges : AllByRecursion HasWaiterRanges set.waiters
  pub spelled : bytes ≡ body set
