-- Whom a call on a queue or a set wakes, round by round.
use Rattle.std.specs.Prelude.{◌≡◌, List, [], ◌∷◌, ◌++◌, Some, None}
use Rattle.std.specs.List.{AllByRecursion}
use Rattle.kernel_model.specs.Queue.{Queue}
use Rattle.kernel_model.specs.SemaphoreSet.{SemaphoreSet}
use Rattle.waiting_model.specs.declared.callers.Waiting.{Waiting}
use Rattle.waiting_model.specs.declared.callers.Wake.{Wake}
use Rattle.waiting_model.specs.Waiters.{Attempt, Awaited, Carried, IsSettled, Try, awaited, wake}
use Rattle.waiting_model.specs.Queue.{carry_out_on_queue, try_queue}
use Rattle.waiting_model.specs.SemaphoreSet.{carry_out_on_set, try_set}

-- One round: a call that waits goes on, and those that parked before it can't. It waits no more and has its reply, the
-- others wait on in their order, and the rest goes on from there.
pub record WakesOne {T : Type 0} (try : Try T) (now : Awaited T) (w : Wake) (Rest : Awaited T → Type 0) : Type 0 where
  pub before : List Waiting
  pub waiter : Waiting
  pub behind : List Waiting
  pub attempt : Attempt T
  pub place : now.waiters ≡ before ++ waiter ∷ behind
  pub waits : AllByRecursion (λ v. try now.state v.pid v.call ≡ None) before
  pub goes : try now.state waiter.pid waiter.call ≡ Some attempt
  pub is : w ≡ wake waiter attempt.reply
  pub rest : Rest (awaited attempt.state (before ++ behind))

-- round by round, until nobody there can go on
abbrev pub WakesInOrder : {T : Type 0} → Try T → Awaited T → List Wake → Awaited T → Type 0
WakesInOrder try now [] last = (now ≡ last) × IsSettled try now
WakesInOrder try now (w ∷ ws) last = WakesOne try now w (λ next. WakesInOrder try next ws last)

-- Behind a call that has its reply the wakes are such rounds, from the state that it left. (A call that counts who
-- waits at a set leaves all as it was, so it is asked that nobody there could go on.)
abbrev pub WakesGoInOrder : Type 0
WakesGoInOrder =
    ((q : Awaited Queue) (who : Waiting) (a : Attempt Queue) → try_queue q.state who.pid who.call ≡ Some a
    → (let c : Carried Queue = carry_out_on_queue q who
    in WakesInOrder try_queue (awaited a.state q.waiters) c.wakes c.object))
    × ((s : Awaited SemaphoreSet) (who : Waiting) (a : Attempt SemaphoreSet) → IsSettled try_set s
    → try_set s.state who.pid who.call ≡ Some a
    → (let c : Carried SemaphoreSet = carry_out_on_set s who
    in WakesInOrder try_set (awaited a.state s.waiters) c.wakes c.object))
