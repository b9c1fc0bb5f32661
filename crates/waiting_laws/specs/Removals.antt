-- What a removal and a withdrawal do to those who wait.
use Rattle.std.specs.Prelude.{◌≡◌, ℕ, nat_eq, if◌then◌else◌, List, map, Some, None}
use Rattle.std.specs.Option.{option_map}
use Rattle.pico_base.specs.declared.call.Call.TheVariants as calls
use Rattle.pico_base.specs.declared.numbers.Name.{Name}
use Rattle.pico_base.specs.declared.numbers.Name.TheVariants.{Msg, Sem}
use Rattle.pico_base.specs.declared.reply.Errno.TheVariants.{Eidrm, Eintr}
use Rattle.pico_base.specs.declared.reply.Outcome.{Outcome}
use Rattle.pico_base.specs.declared.reply.Reply.{Reply}
use Rattle.pico_base.specs.declared.reply.Reply.TheVariants.{Num, Fail}
use Rattle.number_maps.specs.Maps.{get}
use Rattle.kernel_model.specs.Effect.{reply_alone}
use Rattle.kernel_model.specs.Queue.{Queue}
use Rattle.kernel_model.specs.SemaphoreSet.{SemaphoreSet}
use Rattle.waiting_model.specs.declared.callers.Waiting.{Waiting}
use Rattle.waiting_model.specs.Waiters.{Awaited, without_waiter}
use Rattle.waiting_model.specs.Marks.{after_reply}
use Rattle.waiting_model.specs.Kernel.{Kernel, change_living}
use Rattle.waiting_model.specs.Transition.{Successor, transition}

-- each of these in order, with EIDRM
abbrev pub all_removed : List Waiting → List (ℕ × Reply)
all_removed ws = map (λ w. (w.pid, Fail Eidrm)) ws

abbrev pub outcome_of_removal : List Waiting → Outcome
outcome_of_removal ws = record { own = Some (Num 0); woken = all_removed ws }

-- who removes a queue has the reply 0, each who waits there is woken with EIDRM, in order, and the queue is no more
pub record RemovesQueue (id : ℕ) (ws : List Waiting) (s : Successor) : Type 0 where
  pub outcome : s.outcome ≡ outcome_of_removal ws
  pub gone : get s.kernel.queues id ≡ None

abbrev pub QueueRemovalsWakeAll : Type 0
QueueRemovalsWakeAll = (k : Kernel) (pid id n : ℕ) (q : Awaited Queue) (s : Successor) → get k.queues id ≡ Some q
    → transition k pid (calls.MsgRmid id) n ≡ Some s → RemovesQueue id q.waiters s

-- the same for a set
pub record RemovesSet (id : ℕ) (ws : List Waiting) (s : Successor) : Type 0 where
  pub outcome : s.outcome ≡ outcome_of_removal ws
  pub gone : get s.kernel.sets id ≡ None

abbrev pub SetRemovalsWakeAll : Type 0
SetRemovalsWakeAll = (k : Kernel) (pid id n : ℕ) (set : Awaited SemaphoreSet) (s : Successor) → get k.sets id ≡ Some set
    → transition k pid (calls.SemRmid id) n ≡ Some s → RemovesSet id set.waiters s

-- the waiter of a process is taken out at the name where it waits, and nowhere else
abbrev pub queue_without_waiter : ℕ → Name → ℕ → Awaited Queue → Awaited Queue
queue_without_waiter pid (Msg id) other q = if nat_eq other id then without_waiter pid q else q
queue_without_waiter pid name other q = q

abbrev pub set_without_waiter : ℕ → Name → ℕ → Awaited SemaphoreSet → Awaited SemaphoreSet
set_without_waiter pid (Sem id) other s = if nat_eq other id then without_waiter pid s else s
set_without_waiter pid name other s = s

-- A withdrawal has the reply EINTR and wakes nobody. Its queue or set is as it was but for the process's waiter, all
-- others are as they were, and so are the keys, the numbers used, and each process but for the marks of this one.
pub record Withdraws (k : Kernel) (pid : ℕ) (name : Name) (s : Successor) : Type 0 where
  pub outcome : s.outcome ≡ reply_alone (Fail Eintr)
  pub queues : (id : ℕ) → get s.kernel.queues id ≡ option_map (queue_without_waiter pid name id) (get k.queues id)
  pub sets : (id : ℕ) → get s.kernel.sets id ≡ option_map (set_without_waiter pid name id) (get k.sets id)
  pub processes : s.kernel.processes ≡ change_living k.processes pid after_reply
  pub queue_keys : s.kernel.queue_keys ≡ k.queue_keys
  pub set_keys : s.kernel.set_keys ≡ k.set_keys
  pub used_processes : s.kernel.used_processes ≡ k.used_processes
  pub used_queues : s.kernel.used_queues ≡ k.used_queues
  pub used_sets : s.kernel.used_sets ≡ k.used_sets

abbrev pub WithdrawalsLeaveTheRest : Type 0
WithdrawalsLeaveTheRest = (k : Kernel) (pid : ℕ) (name : Name) (n : ℕ) (s : Successor)
    → transition k pid (calls.Withdraw name) n ≡ Some s → Withdraws k pid name s
