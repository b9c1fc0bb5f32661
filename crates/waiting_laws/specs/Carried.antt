-- What a call on a queue or a set does to those who wait there.
use Rattle.std.specs.Prelude.{◌≡◌, [], map, Some, None}
use Rattle.kernel_model.specs.Queue.{Queue}
use Rattle.kernel_model.specs.SemaphoreSet.{SemaphoreSet}
use Rattle.waiting_model.specs.declared.callers.Waiting.{Waiting}
use Rattle.waiting_model.specs.Waiters.{Attempt, Awaited, Carried, IsSettled, at_rest, parked_behind, replied, erased_waiter, erased_wake, erased}
use Rattle.waiting_model.specs.Queue.{carry_out_on_queue, try_queue}
use Rattle.waiting_model.specs.SemaphoreSet.{carry_out_on_set, try_set}

pub record SameErased {T : Type 0} (c d : Carried T) : Type 0 where
  pub object : erased c.object ≡ d.object
  pub own : c.own ≡ d.own
  pub wakes : map erased_wake c.wakes ≡ d.wakes

-- A call does the same whether those who wait have nodes and tickets or not.
abbrev pub NodesDontMatter : Type 0
NodesDontMatter =
    ((q : Awaited Queue) (who : Waiting)
    → SameErased (carry_out_on_queue q who) (carry_out_on_queue (erased q) (erased_waiter who)))
    × ((s : Awaited SemaphoreSet) (who : Waiting)
    → SameErased (carry_out_on_set s who) (carry_out_on_set (erased s) (erased_waiter who)))

-- A call without a reply leaves all as it was, with its caller behind those who wait, and wakes nobody.
abbrev pub ParkingAddsOne : Type 0
ParkingAddsOne =
    ((q : Awaited Queue) (who : Waiting) → (carry_out_on_queue q who).own ≡ None
    → carry_out_on_queue q who ≡ parked_behind q who)
    × ((s : Awaited SemaphoreSet) (who : Waiting) → (carry_out_on_set s who).own ≡ None
    → carry_out_on_set s who ≡ parked_behind s who)

-- A call that leaves the queue or the set as it was wakes nobody, where nobody waits whose call could go on.
abbrev pub LooksWakeNobody : Type 0
LooksWakeNobody =
    ((q : Awaited Queue) (who : Waiting) (a : Attempt Queue) → IsSettled try_queue q
    → try_queue q.state who.pid who.call ≡ Some a → a.state ≡ q.state
    → carry_out_on_queue q who ≡ replied a.reply (at_rest q))
    × ((s : Awaited SemaphoreSet) (who : Waiting) (a : Attempt SemaphoreSet) → IsSettled try_set s
    → try_set s.state who.pid who.call ≡ Some a → a.state ≡ s.state
    → (carry_out_on_set s who).wakes ≡ [])
