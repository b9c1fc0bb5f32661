-- The bodies that have bytes, by the kind of their name: all that a kernel of a run can have.
use Rattle.std.specs.Prelude.{◌<◌, ◌^◌}
use Rattle.std.specs.List.{AllByRecursion}
use Rattle.pico_base.specs.declared.numbers.Name.{Name}
use Rattle.pico_base.specs.declared.numbers.Name.TheVariants.{Proc, Msg, Sem}
use Rattle.kernel_model.specs.Queue.{Queue}
use Rattle.kernel_model.specs.Row.{Row}
use Rattle.kernel_model.specs.SemaphoreSet.{SemaphoreSet}
use Rattle.signal_state.specs.Spelling.{HasBytes as HasSignalBytes}
use Rattle.fork_wait.specs.Spelling.{HasBytes as HasFamilyBytes}
use Rattle.waiting_model.specs.Queue.{try_queue}
use Rattle.waiting_model.specs.SemaphoreSet.{try_set}
use Rattle.waiting_model.specs.Waiters.{Awaited, IsSettled}
use Rattle.waiter_fields.specs.Ranges.{AreWaiters}
use Rattle.sysv_msg.specs.Body.{IsWaitingCall}
use Rattle.sysv_msg.specs.Limits.{IsWithinLimits as IsQueueWithin}
use Rattle.sysv_sem.specs.Body.{HasProcess, HasWaiterRanges}
use Rattle.sysv_sem.specs.Limits.{IsWithinLimits as IsSetWithin}
use Rattle.sysv_sem.specs.Waiters.{MayWait}
use Rattle.node_model.specs.Bodies.{Body, Living, Ended, Gone, AQueue, ASet, Removed}

pub record HasRowBytes (row : Row) : Type 0 where
  pub signals : HasSignalBytes row.signals
  pub family : HasFamilyBytes row.family

-- those who wait at a queue: few, of different processes, with sends and receives that have bytes and can't go on
pub record HaveQueueBytes (q : Awaited Queue) : Type 0 where
  pub waiters : AreWaiters IsWaitingCall q.waiters
  pub settled : IsSettled try_queue q

pub record HasQueueBytes (q : Awaited Queue) : Type 0 where
  pub limits : IsQueueWithin q.state
  pub sender : q.state.last_sender < 2 ^ 32
  pub receiver : q.state.last_receiver < 2 ^ 32
  pub waiting : HaveQueueBytes q

-- those who wait at a set, with operations on it
pub record HaveSetBytes (s : Awaited SemaphoreSet) : Type 0 where
  pub waiters : MayWait s.waiters
  pub ranges : AllByRecursion HasWaiterRanges s.waiters
  pub settled : IsSettled try_set s

pub record HasSetBytes (s : Awaited SemaphoreSet) : Type 0 where
  pub limits : IsSetWithin s.state
  pub processes : AllByRecursion HasProcess s.state.semaphores
  pub waiting : HaveSetBytes s

-- those who wait, wherever that is
abbrev pub WaitersHaveBytes : Body → Type 0
WaitersHaveBytes (AQueue queue) = HaveQueueBytes queue
WaitersHaveBytes (ASet set) = HaveSetBytes set
WaitersHaveBytes body = Unit {0}

abbrev pub HasBytes : Name → Body → Type 0
HasBytes (Proc pid) (Living row) = HasRowBytes row
HasBytes (Proc pid) (Ended ending) = Unit {0}
HasBytes (Proc pid) Gone = Unit {0}
HasBytes (Msg id) (AQueue queue) = HasQueueBytes queue
HasBytes (Msg id) Removed = Unit {0}
HasBytes (Sem id) (ASet set) = HasSetBytes set
HasBytes (Sem id) Removed = Unit {0}
HasBytes name body = ⊥
