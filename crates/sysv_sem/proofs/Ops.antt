-- A semop that comes to its trial, and stops there.
use Rattle.std.proofs.Common.{◌≡◌, ◌≤◌, ℕ, true, false, nat_le, nat_lt, List, length, slice_get, Some, None, arith}
use Rattle.std.specs.List.{list_any}
use Rattle.pico_base.specs.declared.call.SemStep.{SemStep}
use Rattle.pico_base.specs.declared.reply.Errno.TheVariants.{Eagain}
use Rattle.pico_base.specs.declared.reply.Reply.TheVariants.{Fail}
use Rattle.kernel_model.specs.SemaphoreSet.{SemaphoreSet, StopsAt, values_of, try_ops}
use Rattle.kernel_model.specs.Waiting.{may_wait}
use Rattle.waiting_model.specs.Waiters.{attempt}
use Rattle.waiting_model.specs.SemaphoreSet.{try_op}

not-more : (n : ℕ) → n ≤ 32 → nat_le n 32 ≡ true
not-more n few = grind arith

not-above : (n : ℕ) → n ≤ 32 → nat_lt 32 n ≡ false
not-above n few = grind arith

module _ (set : SemaphoreSet) (pid : ℕ) (steps : List SemStep) (few : length steps ≤ 32)
    (inside : list_any (λ step. nat_le (length set.semaphores) step.num) steps ≡ false) (place : ℕ) (s : SemStep)
    (there : slice_get steps place ≡ Some s)
    (stops : try_ops (values_of set.semaphores) steps ≡ StopsAt place) where
  -- at an operation without IPC_NOWAIT, it waits
  pub op-waits : may_wait s ≡ true → try_op set pid steps ≡ None
  op-waits waits = rw (not-more (length steps) few, inside, stops, there, waits)

  -- at another it is refused
  pub op-refused : may_wait s ≡ false → try_op set pid steps ≡ Some (attempt set (Fail Eagain))
  op-refused at_once =
      rw (not-more (length steps) few, not-above (length steps) few, inside, stops, there, at_once)
