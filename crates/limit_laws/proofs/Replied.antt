-- What the kernel replies to a call that others carry out is short.
use Rattle.std.proofs.Common.{◌≡◌, ℕ, Bool, true, ◌&&◌, ◌||◌, nat_eq, Option, Some, None, Result, Ok, Err, refl}
use Rattle.std.proofs.lemmas.Bool.{false≢true}
use Rattle.std.specs.Prelude.{nat_le}
use Rattle.kernel_laws.proofs.Plain.{Of, by_test}
use Rattle.kernel_model.specs.Effect.{is_fresh}
use Rattle.kernel_model.specs.Queue.{Queue}
use Rattle.kernel_model.specs.SemaphoreSet.{SemaphoreSet, new_set}
use Rattle.limit_laws.proofs.Replies.{fail-is-short, num-is-short}
use Rattle.limit_laws.proofs.Waking.{queue-carried-is-short, set-carried-is-short}
use Rattle.limit_laws.specs.Bodies.{IsQueueWithin, IsSetWithin}
use Rattle.limit_laws.specs.Within.{IsReplyShort}
use Rattle.number_maps.specs.Maps.{Numbered, get, put}
use Rattle.pico_base.specs.Home.{home_of}
use Rattle.pico_base.specs.declared.call.Call.TheVariants as calls
use Rattle.pico_base.specs.declared.call.Call.{Call}
use Rattle.pico_base.specs.declared.reply.Errno.{Errno}
use Rattle.pico_base.specs.declared.signal.SigArg.TheVariants.{Zero, Is, Bad}
use Rattle.pico_base.specs.declared.signal.SigArg.{SigArg}
use Rattle.waiting_model.specs.Effect.{Effect, on_named, refuse, reply_with}
use Rattle.waiting_model.specs.Kernel as kernel
use Rattle.waiting_model.specs.Kernel.{Kernel, Process}
use Rattle.waiting_model.specs.Marks.{Alive}
use Rattle.waiting_model.specs.ProcessCalls.{kill, kill_at, signal_living}
use Rattle.waiting_model.specs.Queue.{carry_out_on_queue}
use Rattle.waiting_model.specs.QueueCalls.{get_queue_at, new_queue, on_queue, queue_effect, remove_queue}
use Rattle.waiting_model.specs.SemaphoreSet.{carry_out_on_set}
use Rattle.waiting_model.specs.SetCalls.{find_set, get_set_at, new_set_of, on_set, remove_set, set_effect, set_size}
use Rattle.waiting_model.specs.Transition.{effect, effect_by}
use Rattle.waiting_model.specs.Waiters.{Awaited}
use Rattle.waiting_model.specs.declared.callers.Waiting.{Waiting}
use Rattle.world_model.specs.Calls.{is_for_others}

-- the caller's reply, where it needn't wait
abbrev pub IsShort : Effect → Type 0
IsShort e = Of IsReplyShort e.own

named-is-short : {V : Type 0} (k : Kernel) (o : Option V) (f : V → Effect) → ((v : V) → o ≡ Some v → IsShort (f v))
    → IsShort (on_named k o f)
named-is-short k None f h = fail-is-short _
named-is-short k (Some v) f h = h v refl

-- ---- signals, and keys

signal-is-short : (k : Kernel) (caller pid : ℕ) (target : Alive) (sig : SigArg)
    → IsShort (signal_living k caller pid target sig)
signal-is-short k caller pid target Zero = num-is-short 0
signal-is-short k caller pid target Bad = fail-is-short _
signal-is-short k caller pid target (Is g) = num-is-short 0

kill-at-is-short : (k : Kernel) (caller pid : ℕ) (sig : SigArg) (o : Option Process)
    → IsShort (kill_at k caller pid sig o)
kill-at-is-short k caller pid sig None = fail-is-short _
kill-at-is-short k caller pid sig (Some kernel.Gone) = fail-is-short _
kill-at-is-short k caller pid sig (Some (kernel.Ended ending)) = num-is-short 0
kill-at-is-short k caller pid sig (Some (kernel.Living target)) = signal-is-short k caller pid target sig

kill-is-short : (k : Kernel) (caller pid : ℕ) (sig : SigArg) → IsShort (kill k caller pid sig)
kill-is-short k caller pid Bad = fail-is-short _
kill-is-short k caller pid Zero = kill-at-is-short k caller pid Zero (get k.processes pid)
kill-is-short k caller pid (Is g) = kill-at-is-short k caller pid (Is g) (get k.processes pid)

new-queue-is-short : (k : Kernel) (keys : Numbered ℕ) (n : ℕ) → Of IsShort (new_queue k keys n)
new-queue-is-short k keys n =
    by_test (Of IsShort) (is_fresh k.used_queues n) _ None (λ _. num-is-short n) (λ _. tt)

get-queue-is-short : (k : Kernel) (key : ℕ) (create excl : Bool) (n : ℕ) (o : Option ℕ)
    → Of IsShort (get_queue_at k key create excl n o)
get-queue-is-short k key create excl n (Some id) =
    by_test IsShort (create && excl) (refuse k _) (reply_with k id) (λ _. fail-is-short _) (λ _. num-is-short id)
get-queue-is-short k key create excl n None =
    by_test (Of IsShort) create (new_queue k (put k.queue_keys key n) n) (Some (refuse k _))
    (λ _. new-queue-is-short k (put k.queue_keys key n) n) (λ _. fail-is-short _)

new-set-is-short : (k : Kernel) (keys : Numbered ℕ) (n : ℕ) (r : Result SemaphoreSet Errno)
    → Of IsShort (new_set_of k keys n r)
new-set-is-short k keys n (Err e) = fail-is-short e
new-set-is-short k keys n (Ok set) =
    by_test (Of IsShort) (is_fresh k.used_sets n) _ None (λ _. num-is-short n) (λ _. tt)

find-set-is-short : (k : Kernel) (id count : ℕ) → IsShort (find_set k id count)
find-set-is-short k id count =
    by_test IsShort (nat_eq count 0 || nat_le count (set_size k id)) (reply_with k id) (refuse k _)
    (λ _. num-is-short id) (λ _. fail-is-short _)

get-set-is-short : (k : Kernel) (key count : ℕ) (create excl : Bool) (n : ℕ) (o : Option ℕ)
    → Of IsShort (get_set_at k key count create excl n o)
get-set-is-short k key count create excl n (Some id) =
    by_test IsShort (create && excl) (refuse k _) (find_set k id count) (λ _. fail-is-short _)
    (λ _. find-set-is-short k id count)
get-set-is-short k key count create excl n None =
    by_test (Of IsShort) create (new_set_of k (put k.set_keys key n) n (new_set count)) (Some (refuse k _))
    (λ _. new-set-is-short k (put k.set_keys key n) n (new_set count)) (λ _. fail-is-short _)

-- ---- an effect

module _ (k : Kernel) (queues : (id : ℕ) (q : Awaited Queue) → get k.queues id ≡ Some q → IsQueueWithin q)
    (sets : (id : ℕ) (s : Awaited SemaphoreSet) → get k.sets id ≡ Some s → IsSetWithin s) where
  on-queue-is-short : (id : ℕ) (who : Waiting) → IsShort (on_queue k id who)
  on-queue-is-short id who =
      named-is-short k (get k.queues id) (λ q. queue_effect k id (carry_out_on_queue q who))
      (λ q is. queue-carried-is-short q who (queues id q is))

  on-set-is-short : (id : ℕ) (who : Waiting) → IsShort (on_set k id who)
  on-set-is-short id who =
      named-is-short k (get k.sets id) (λ s. set_effect k id (carry_out_on_set s who))
      (λ s is. set-carried-is-short s who (sets id s is))

  effect-by-is-short : (who : Waiting) (a : Alive) (call : Call) (n : ℕ)
      → is_for_others (home_of who.pid call) ≡ true → Of IsShort (effect_by k who a call n)
  effect-by-is-short who a (calls.Kill target sig) n h = kill-is-short k who.pid target sig
  effect-by-is-short who a (calls.MsgGet (Some key) create excl) n h =
      get-queue-is-short k key create excl n (get k.queue_keys key)
  effect-by-is-short who a (calls.MsgGet None create excl) n h = absurd (false≢true h)
  effect-by-is-short who a (calls.MsgSnd id class text nowait) n h = on-queue-is-short id who
  effect-by-is-short who a (calls.MsgRcv id class size noerror nowait) n h = on-queue-is-short id who
  effect-by-is-short who a (calls.MsgStat id) n h = on-queue-is-short id who
  effect-by-is-short who a (calls.MsgSet id qbytes) n h = on-queue-is-short id who
  effect-by-is-short who a (calls.MsgRmid id) n h =
      named-is-short k (get k.queues id) (remove_queue k id) (λ q _. num-is-short 0)
  effect-by-is-short who a (calls.SemGet (Some key) count create excl) n h =
      get-set-is-short k key count create excl n (get k.set_keys key)
  effect-by-is-short who a (calls.SemGet None count create excl) n h = absurd (false≢true h)
  effect-by-is-short who a (calls.SemOp id steps) n h = on-set-is-short id who
  effect-by-is-short who a (calls.SemGetVal id num) n h = on-set-is-short id who
  effect-by-is-short who a (calls.SemGetPid id num) n h = on-set-is-short id who
  effect-by-is-short who a (calls.SemGetNcnt id num) n h = on-set-is-short id who
  effect-by-is-short who a (calls.SemGetZcnt id num) n h = on-set-is-short id who
  effect-by-is-short who a (calls.SemSetVal id num value) n h = on-set-is-short id who
  effect-by-is-short who a (calls.SemGetAll id) n h = on-set-is-short id who
  effect-by-is-short who a (calls.SemSetAll id values) n h = on-set-is-short id who
  effect-by-is-short who a (calls.SemRmid id) n h =
      named-is-short k (get k.sets id) (remove_set k id) (λ s _. num-is-short 0)
  effect-by-is-short who a (calls.Withdraw name) n h = tt
  effect-by-is-short who a call n h = absurd (false≢true h)

  -- The reply to a call that others carry out is short.
  pub effect-is-short : (who : Waiting) (a : Alive) (n : ℕ) → is_for_others (home_of who.pid who.call) ≡ true
      → Of IsShort (effect k who a n)
  effect-is-short who a n h = effect-by-is-short who a who.call n h
