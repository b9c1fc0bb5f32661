-- What was passed over, and not kept: that it stands in the bytes is all that is told of it.
use Rattle.std.specs.Prelude.{◌≡◌, ℕ, List, Some}
use Rattle.kernel_model.specs.SemaphoreSet.{Semaphore, SemaphoreSet}
use Rattle.frame_bytes.specs.Readers.{many}
use Rattle.waiting_model.specs.Waiters.{unawaited}
use Rattle.sysv_sem.specs.Body.{IsBodyOf}
use Rattle.sysv_sem.specs.Reading.{row_at, semaphore_at}

-- so many semaphores, with the rest behind them
pub record HasSemaphores (count : ℕ) (bytes rest : List ℕ) : Type 0 where
  pub semaphores : List Semaphore
  pub read : many semaphore_at count bytes ≡ Some (semaphores, rest)

-- a set's semaphores behind their count
pub record HasRow (bytes rest : List ℕ) : Type 0 where
  pub semaphores : List Semaphore
  pub read : row_at bytes ≡ Some (semaphores, rest)

-- all of the bytes are a set's, at which nobody waits
pub record IsUnawaited (bytes : List ℕ) : Type 0 where
  pub set : SemaphoreSet
  pub is_body : IsBodyOf (unawaited set) bytes
