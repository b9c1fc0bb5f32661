-- What the bodies that a node holds are like, so that frames have room for them.
use Rattle.std.specs.Prelude.{◌≡◌, ◌+◌, ◌≤◌, ℕ, List, length}
use Rattle.std.specs.List.{AllByRecursion}
use Rattle.pico_base.specs.declared.reply.EndedChild.{EndedChild}
use Rattle.frame_bytes.specs.Calls.{call_bytes}
use Rattle.kernel_laws.specs.Queues.{IsQueueWithinLimits}
use Rattle.kernel_laws.specs.Sets.{IsSetWithinLimits}
use Rattle.kernel_model.specs.Queue.{Queue}
use Rattle.kernel_model.specs.Row.{Family}
use Rattle.kernel_model.specs.SemaphoreSet.{SemaphoreSet}
use Rattle.waiting_model.specs.declared.callers.Waiting.{Waiting}
use Rattle.waiting_model.specs.Kernel.{Kernel, Process}
use Rattle.waiting_model.specs.Kernel as kernel
use Rattle.waiting_model.specs.Waiters.{Awaited}
use Rattle.waiter_fields.specs.Waiters.{max_waiters}

-- its children have numbers, and there are at most so many of them
pub record IsFamilyWithin (most : ℕ) (f : Family) : Type 0 where
  pub few : length f.living + length f.ended ≤ most
  pub living : AllByRecursion (λ (child : ℕ). 1 ≤ child) f.living
  pub ended : AllByRecursion (λ (e : EndedChild). 1 ≤ e.pid) f.ended

-- one who waits: under a ticket, with a call that is short
pub record IsWaiterWithin (w : Waiting) : Type 0 where
  pub ticket : 1 ≤ w.ticket
  pub short : length (call_bytes w.call) ≤ 4110

-- those who wait at one queue or set are no more than a body has room for
pub record AreWaitersWithin (ws : List Waiting) : Type 0 where
  pub few : length ws ≤ max_waiters
  pub each : AllByRecursion IsWaiterWithin ws

-- a queue or set that is like this, and those who wait at it
pub record IsAwaitedWithin {T : Type 0} (IsLike : T → Type 0) (object : Awaited T) : Type 0 where
  pub state : IsLike object.state
  pub waiters : AreWaitersWithin object.waiters

-- within the kernel's limits

abbrev pub IsQueueWithin : Awaited Queue → Type 0
IsQueueWithin queue = IsAwaitedWithin IsQueueWithinLimits queue

abbrev pub IsSetWithin : Awaited SemaphoreSet → Type 0
IsSetWithin set = IsAwaitedWithin IsSetWithinLimits set

-- The parts of a kernel that a node has: the only process that lives is this one.

-- a process of this number
abbrev pub IsPersonWithin : ℕ → ℕ → ℕ × Process → Type 0
IsPersonWithin own most (pid, kernel.Living alive) = (pid ≡ own) × IsFamilyWithin most alive.row.family
IsPersonWithin own most (pid, kernel.Ended ending) = Unit {0}
IsPersonWithin own most (pid, kernel.Gone) = Unit {0}

-- with queues and sets within the kernel's limits
pub record IsKernelWithin (own most : ℕ) (k : Kernel) : Type 0 where
  pub processes : AllByRecursion (IsPersonWithin own most) k.processes
  pub queues : AllByRecursion (λ (e : ℕ × Awaited Queue). IsQueueWithin e.1) k.queues
  pub sets : AllByRecursion (λ (e : ℕ × Awaited SemaphoreSet). IsSetWithin e.1) k.sets
