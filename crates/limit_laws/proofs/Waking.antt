-- A call is carried out at a queue or a set within the limits, and whoever can go on then is woken: it stays within
-- them, and all replies are short.
use Rattle.std.proofs.Common.{ℕ, zero, suc, ◌+◌, ◌<◌, ◌≤◌, length, List, [], ◌∷◌, map, Option, Some, None, Result, Ok, Err, arith}
use Rattle.std.proofs.lemmas.List.{length-append}
use Rattle.std.specs.List.{AllByRecursion}
use Rattle.kernel_laws.proofs.Lists.{all-both}
use Rattle.kernel_laws.proofs.Plain.{Of}
use Rattle.kernel_laws.specs.Queues.{IsQueueWithinLimits}
use Rattle.kernel_laws.specs.Sets.{IsSetWithinLimits}
use Rattle.kernel_model.specs.Queue.{Queue}
use Rattle.kernel_model.specs.SemaphoreSet.{SemaphoreSet}
use Rattle.limit_laws.proofs.Replies.{fail-is-short, num-is-short}
use Rattle.limit_laws.proofs.Tries.{ComesWithin, IsAttemptWithin, TriesWithin, queue-tries-within, set-tries-within}
use Rattle.limit_laws.specs.Bodies.{AreWaitersWithin, IsAwaitedWithin, IsQueueWithin, IsSetWithin, IsWaiterWithin}
use Rattle.limit_laws.specs.Within.{IsReplyShort, IsWakeWithin}
use Rattle.pico_base.specs.declared.call.Call.TheVariants as calls
use Rattle.pico_base.specs.declared.call.Call.{Call}
use Rattle.pico_base.specs.declared.reply.Errno.TheVariants.{Eidrm}
use Rattle.pico_base.specs.declared.reply.Errno.{Errno}
use Rattle.pico_base.specs.declared.reply.Reply.TheVariants as replies
use Rattle.waiter_fields.specs.Waiters.{max_waiters}
use Rattle.waiting_model.specs.Queue.{carry_out_on_queue, try_queue}
use Rattle.waiting_model.specs.SemaphoreSet.{carry_out_on_set, carry_out_on_set_by, count_reply, try_set}
use Rattle.waiting_model.specs.Waiters.{Attempt, Awaited, Carried, Ready, Settled, Try, awaited, carry_out, carry_out_by, first_ready, ready_or, settle, settle_by, settle_on, unawaited, wake, wakes_at_removal}
use Rattle.waiting_model.specs.declared.callers.Waiting.{Waiting}

-- nobody waits at a new queue or set
pub unawaited-within : {T : Type 0} {IsLike : T → Type 0} {state : T} → IsLike state
    → IsAwaitedWithin IsLike (unawaited state)
unawaited-within like = record { state = like; waiters = record { few = omega arith; each = tt } }

module _ {T : Type 0} (IsLike : T → Type 0) (try : Try T) (tries : TriesWithin IsLike try) where
  -- ---- who can go on

  -- the first who can go on, and the others, who are fewer
  record IsReadyWithin (ws : List Waiting) (r : Ready T) : Type 0 where
    pub waiter : IsWaiterWithin r.waiter
    pub attempt : IsAttemptWithin IsLike r.attempt
    pub fewer : length r.others + 1 ≤ length ws
    pub others : AllByRecursion IsWaiterWithin r.others

  ready-or-within : (w : Waiting) (ws : List Waiting) (o : Option (Attempt T)) (later : Option (Ready T))
      → IsWaiterWithin w → AllByRecursion IsWaiterWithin ws → ComesWithin IsLike w.call o
      → Of (IsReadyWithin ws) later → Of (IsReadyWithin (w ∷ ws)) (ready_or w ws o later)
  ready-or-within w ws (Some a) later first all comes h =
      record { waiter = first; attempt = comes; fewer = omega arith; others = all }
  ready-or-within w ws None None first all comes h = tt
  ready-or-within w ws None (Some r) first all comes h =
      let fewer = h.fewer
      in record {
        waiter = h.waiter;
        attempt = h.attempt;
        fewer = omega (arith, fewer);
        others = (first, h.others);
      }

  ready-within : (state : T) (ws : List Waiting) → IsLike state → AllByRecursion IsWaiterWithin ws
      → Of (IsReadyWithin ws) (first_ready try state ws)
  ready-within state [] like all = tt
  ready-within state (w ∷ ws) like all =
      ready-or-within w ws (try state w.pid w.call) (first_ready try state ws) all.0 all.1
      (tries state w.pid w.call like) (ready-within state ws like all.1)

  -- ---- all who can go on, in turn

  pub record IsSettledWithin (s : Settled T) : Type 0 where
    pub object : IsAwaitedWithin IsLike s.object
    pub wakes : AllByRecursion IsWakeWithin s.wakes

  settled-on-within : (object : Awaited T) (o : Option (Ready T)) (rest : Awaited T → Settled T)
      → IsAwaitedWithin IsLike object → Of (IsReadyWithin object.waiters) o
      → ((next : Awaited T) → IsAwaitedWithin IsLike next → IsSettledWithin (rest next))
      → IsSettledWithin (settle_on object o rest)
  settled-on-within object None rest k h next = record { object = k; wakes = tt }
  settled-on-within object (Some r) rest k h next =
      let few = k.waiters.few
      in let fewer = h.fewer
      in let left = next (awaited r.attempt.state r.others) (record {
        state = h.attempt.state;
        waiters = record { few = omega (arith, few, fewer); each = h.others };
      })
      in record {
        object = left.object;
        wakes = (record { ticket = h.waiter.ticket; reply = h.attempt.reply }, left.wakes);
      }

  settled-by-within : (n : ℕ) (object : Awaited T) → IsAwaitedWithin IsLike object
      → IsSettledWithin (settle_by n try object)
  settled-by-within zero object k = record { object = k; wakes = tt }
  settled-by-within (suc n) object k =
      settled-on-within object (first_ready try object.state object.waiters) (settle_by n try) k
      (ready-within object.state object.waiters k.state k.waiters.each) (settled-by-within n)

  -- ---- a call

  pub record IsCarriedWithin (c : Carried T) : Type 0 where
    pub object : IsAwaitedWithin IsLike c.object
    pub own : Of IsReplyShort c.own
    pub wakes : AllByRecursion IsWakeWithin c.wakes

  carried-by-within : (object : Awaited T) (who : Waiting) (o : Option (Attempt T)) → IsAwaitedWithin IsLike object
      → 1 ≤ who.ticket → length object.waiters < max_waiters → ComesWithin IsLike who.call o
      → IsCarriedWithin (carry_out_by try object who o)
  carried-by-within object who None k ticket room comes =
      let more = length-append object.waiters (who ∷ [])
      in record {
        object = record {
          state = k.state;
          waiters = record {
            few = omega (arith, more, room);
            each = all-both IsWaiterWithin object.waiters (who ∷ []) k.waiters.each
                (record { ticket = ticket; short = comes }, tt);
          };
        };
        own = tt;
        wakes = tt;
      }
  carried-by-within object who (Some a) k ticket room comes =
      let changed : Awaited T = record object { state = a.state }
      in let s : IsSettledWithin (settle try changed) =
      settled-by-within (length object.waiters) changed (record { state = comes.state; waiters = k.waiters })
      in record { object = s.object; own = comes.reply; wakes = s.wakes }

  -- a call where there is room for one more who waits
  pub carried-within : (object : Awaited T) (who : Waiting) → IsAwaitedWithin IsLike object → 1 ≤ who.ticket
      → length object.waiters < max_waiters → IsCarriedWithin (carry_out try object who)
  carried-within object who k ticket room =
      carried-by-within object who (try object.state who.pid who.call) k ticket room
      (tries object.state who.pid who.call k.state)

  carried-by-is-short : (object : Awaited T) (who : Waiting) (o : Option (Attempt T)) → ComesWithin IsLike who.call o
      → Of IsReplyShort (carry_out_by try object who o).own
  carried-by-is-short object who None comes = tt
  carried-by-is-short object who (Some a) comes = comes.reply

  -- its caller's reply, whoever waits
  pub carried-is-short : (object : Awaited T) (who : Waiting) → IsLike object.state
      → Of IsReplyShort (carry_out try object who).own
  carried-is-short object who like =
      carried-by-is-short object who (try object.state who.pid who.call) (tries object.state who.pid who.call like)

-- ---- at a queue, and at a set

-- what is left of a queue, and the replies
abbrev pub IsQueueCarried : Carried Queue → Type 0
IsQueueCarried c = IsCarriedWithin IsQueueWithinLimits try_queue queue-tries-within c

-- of a call where there is room for one more who waits
pub queue-carried-within : (q : Awaited Queue) (who : Waiting) → IsQueueWithin q → 1 ≤ who.ticket
    → length q.waiters < max_waiters → IsQueueCarried (carry_out_on_queue q who)
queue-carried-within q who k ticket room =
    carried-within IsQueueWithinLimits try_queue queue-tries-within q who k ticket room

-- and of any call the caller's reply
pub queue-carried-is-short : (q : Awaited Queue) (who : Waiting) → IsQueueWithin q
    → Of IsReplyShort (carry_out_on_queue q who).own
queue-carried-is-short q who k = carried-is-short IsQueueWithinLimits try_queue queue-tries-within q who k.state

-- the same of a set
abbrev pub IsSetCarried : Carried SemaphoreSet → Type 0
IsSetCarried c = IsCarriedWithin IsSetWithinLimits try_set set-tries-within c

count-is-short : (r : Result ℕ Errno) → IsReplyShort (count_reply r)
count-is-short (Ok n) = num-is-short n
count-is-short (Err e) = fail-is-short e

set-carried-by : (s : Awaited SemaphoreSet) (who : Waiting) (call : Call) → IsSetWithin s
    → IsSetCarried (carry_out try_set s who) → IsSetCarried (carry_out_on_set_by s who call)
set-carried-by s who (calls.SemGetNcnt id num) k c = record { object = k; own = count-is-short _; wakes = tt }
set-carried-by s who (calls.SemGetZcnt id num) k c = record { object = k; own = count-is-short _; wakes = tt }
set-carried-by s who call k c = c

-- of a call where there is room for one more who waits
pub set-carried-within : (s : Awaited SemaphoreSet) (who : Waiting) → IsSetWithin s → 1 ≤ who.ticket
    → length s.waiters < max_waiters → IsSetCarried (carry_out_on_set s who)
set-carried-within s who k ticket room =
    set-carried-by s who who.call k (carried-within IsSetWithinLimits try_set set-tries-within s who k ticket room)

set-short-by : (s : Awaited SemaphoreSet) (who : Waiting) (call : Call)
    → Of IsReplyShort (carry_out try_set s who).own → Of IsReplyShort (carry_out_on_set_by s who call).own
set-short-by s who (calls.SemGetNcnt id num) short = count-is-short _
set-short-by s who (calls.SemGetZcnt id num) short = count-is-short _
set-short-by s who call short = short

-- and of any call the caller's reply
pub set-carried-is-short : (s : Awaited SemaphoreSet) (who : Waiting) → IsSetWithin s
    → Of IsReplyShort (carry_out_on_set s who).own
set-carried-is-short s who k =
    set-short-by s who who.call (carried-is-short IsSetWithinLimits try_set set-tries-within s who k.state)

all-refused : (ws : List Waiting) → AllByRecursion IsWaiterWithin ws
    → AllByRecursion IsWakeWithin (map (λ w. wake w (replies.Fail Eidrm)) ws)
all-refused [] all = tt
all-refused (w ∷ ws) all = (record { ticket = (all.0).ticket; reply = fail-is-short Eidrm }, all-refused ws all.1)

-- whoever waits at what is removed is woken
pub removed-wakes-within : {T : Type 0} (object : Awaited T) → AreWaitersWithin object.waiters
    → AllByRecursion IsWakeWithin (wakes_at_removal object)
removed-wakes-within object k = all-refused object.waiters k.each
