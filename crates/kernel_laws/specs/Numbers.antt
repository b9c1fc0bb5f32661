-- A number that was given out is never given out again.
use Rattle.std.specs.Prelude.{◌≡◌, ℕ, List, Some, None, IsTrue, IsSome}
use Rattle.pico_base.specs.declared.call.Call.TheVariants.{MsgRmid, SemRmid}
use Rattle.pico_base.specs.declared.reply.Entry.{Entry}
use Rattle.pico_base.specs.declared.reply.Outcome.{Outcome}
use Rattle.pico_base.specs.declared.reply.Reply.TheVariants.{Num}
use Rattle.number_maps.specs.Maps.{get, is_used}
use Rattle.kernel_model.specs.Kernel.{Kernel, opening}
use Rattle.kernel_model.specs.Transition.{successor, transition}
use Rattle.kernel_model.specs.History.{Replays}
use Rattle.kernel_laws.specs.Reachable.{IsReachableKernel}

-- the used numbers of each kind stay used
pub record StaysUsed (k last : Kernel) (n : ℕ) : Type 0 where
  pub processes : IsTrue (is_used k.used_processes n) → IsTrue (is_used last.used_processes n)
  pub queues : IsTrue (is_used k.used_queues n) → IsTrue (is_used last.used_queues n)
  pub sets : IsTrue (is_used k.used_sets n) → IsTrue (is_used last.used_sets n)

abbrev pub UsedNumbersStay : Type 0
UsedNumbersStay = (k last : Kernel) (entries : List Entry) → Replays k entries last → (n : ℕ) → StaysUsed k last n

-- from the opening kernel to a first one, on to a second, and on to a third
pub record Passes (first second third : Kernel) : Type 0 where
  pub to_first : List Entry
  pub to_second : List Entry
  pub to_third : List Entry
  pub opens : Replays opening to_first first
  pub goes : Replays first to_second second
  pub ends : Replays second to_third third

-- a queue that was there and isn't any more is never there again
abbrev pub RemovedQueuesStayRemoved : Type 0
RemovedQueuesStayRemoved =
    (first second third : Kernel) → Passes first second third → (id : ℕ)
    → IsSome (get first.queues id) → get second.queues id ≡ None → get third.queues id ≡ None

-- and so a semaphore set
abbrev pub RemovedSetsStayRemoved : Type 0
RemovedSetsStayRemoved =
    (first second third : Kernel) → Passes first second third → (id : ℕ)
    → IsSome (get first.sets id) → get second.sets id ≡ None → get third.sets id ≡ None

-- a queue that an entry removes is nowhere in what follows
abbrev pub QueueRemovalsLast : Type 0
QueueRemovalsLast =
    (k next last : Kernel) (pid id n : ℕ) (outcome : Outcome) (entries : List Entry) → IsReachableKernel k
    → transition k pid (MsgRmid id) n ≡ Some (successor next outcome) → outcome.own ≡ Some (Num 0)
    → Replays next entries last
    → get last.queues id ≡ None

abbrev pub SetRemovalsLast : Type 0
SetRemovalsLast =
    (k next last : Kernel) (pid id n : ℕ) (outcome : Outcome) (entries : List Entry) → IsReachableKernel k
    → transition k pid (SemRmid id) n ≡ Some (successor next outcome) → outcome.own ≡ Some (Num 0)
    → Replays next entries last
    → get last.sets id ≡ None
