-- A call on a queue or a set that needn't wait does in the kernel in which nobody waits what its try comes to.
use Rattle.std.proofs.Common.{◌≡◌, ◌∙◌, ℕ, Bool, true, false, List, map, Option, Some, None, Result, Ok, Err, refl, ap, sym, subst}
use Rattle.std.specs.Prelude.{if◌then◌else◌}
use Rattle.pico_base.specs.declared.call.Call.{Call}
use Rattle.pico_base.specs.declared.call.Call.TheVariants as calls
use Rattle.pico_base.specs.declared.call.SemStep.{SemStep}
use Rattle.pico_base.specs.declared.reply.Errno.{Errno}
use Rattle.pico_base.specs.declared.reply.Errno.TheVariants.{Enomsg, Eagain}
use Rattle.pico_base.specs.declared.reply.Reply.{Reply}
use Rattle.pico_base.specs.declared.reply.Reply.TheVariants as replies
use Rattle.number_maps.specs.Maps.{Numbered, get}
use Rattle.number_maps.specs.Rising.{IsRising}
use Rattle.kernel_model.specs.Effect.{Effect, look_up, on_named}
use Rattle.kernel_model.specs.Kernel.{Kernel}
use Rattle.kernel_model.specs.Queue.{Queue, Received, receive, send, set_qbytes, stat}
use Rattle.kernel_model.specs.QueueCalls.{change_queue, receive_effect, with_queue}
use Rattle.kernel_model.specs.Row.{Alive}
use Rattle.kernel_model.specs.SemaphoreSet.{SemaphoreSet, last_at, op, set_all, set_value, value_at, values_of, waiting_at}
use Rattle.kernel_model.specs.SetCalls.{change_set, with_set}
use Rattle.kernel_model.specs.Transition.{effect}
use Rattle.kernel_laws.proofs.Plain.{from_some, not_some, not_true}
use Rattle.waiting_model.specs.Waiters.{Attempt, attempt, changed, looked_up}
use Rattle.waiting_model.specs.Queue.{try_queue, try_receive, try_send}
use Rattle.waiting_model.specs.SemaphoreSet.{try_set}
use Rattle.waiting_model.specs.Linear.{at_once, counts_waiters, step_at_once}
use Rattle.waiting_laws.proofs.AtOnce.{none-waits, op-at-once, queue-at-once, set-at-once}
use Rattle.waiting_laws.proofs.Maps.{put-same}

-- ---- queues

-- the queue has the state that the try leaves, and the reply is the try's
abbrev pub answers_queue : Kernel → ℕ → Attempt Queue → Effect
answers_queue k id a = record { kernel = with_queue k id a.state; reply = a.reply }

-- the call needn't wait, and its effect is what the try of the queue comes to
abbrev pub DoesOnQueue : Kernel → ℕ → Option (Attempt Queue) → Effect → Type 0
DoesOnQueue k id None p = ⊥
DoesOnQueue k id (Some a) p = p ≡ answers_queue k id a

module _ (k : Kernel) (rising : IsRising k.queues) (id : ℕ) (q : Queue) (there : get k.queues id ≡ Some q) where
  -- a look leaves the queue, and its kernel
  pub looks-at-queue : (reply : Reply)
      → (let e : Effect = record { kernel = k; reply = reply } in e ≡ answers_queue k id (attempt q reply))
  looks-at-queue reply =
      ap (λ (qs : Numbered Queue). (let e : Effect = record { kernel = record k { queues = qs }; reply = reply } in e))
      (sym (put-same k.queues id q rising there))

  -- msgctl with IPC_SET
  pub changes-queue : (r : Result Queue Errno) → change_queue k id r ≡ answers_queue k id (changed q r)
  changes-queue (Ok next) = refl
  changes-queue (Err e) = looks-at-queue (replies.Fail e)

  refused-send : (e : Errno) → DoesOnQueue k id (try_send q true (Err e)) (change_queue k id (Err e))
  refused-send Eagain = looks-at-queue (replies.Fail Eagain)
  refused-send e = looks-at-queue (replies.Fail e)

  -- msgsnd with IPC_NOWAIT
  pub sends-to-queue : (r : Result Queue Errno) → DoesOnQueue k id (try_send q true r) (change_queue k id r)
  sends-to-queue (Ok next) = refl
  sends-to-queue (Err e) = refused-send e

  refused-receive : (e : Errno) → DoesOnQueue k id (try_receive q true (Err e)) (receive_effect k id (Err e))
  refused-receive Enomsg = looks-at-queue (replies.Fail Enomsg)
  refused-receive e = looks-at-queue (replies.Fail e)

  -- msgrcv with IPC_NOWAIT
  pub receives-from-queue : (r : Result Received Errno)
      → DoesOnQueue k id (try_receive q true r) (receive_effect k id r)
  receives-from-queue (Ok r) = refl
  receives-from-queue (Err e) = refused-receive e

-- the queue that a call looks at or changes
abbrev pub at_queue : Call → Option ℕ
at_queue (calls.MsgSnd id class text nowait) = Some id
at_queue (calls.MsgRcv id class size noerror nowait) = Some id
at_queue (calls.MsgStat id) = Some id
at_queue (calls.MsgSet id qbytes) = Some id
at_queue call = None

does-on-queue : (k : Kernel) (id : ℕ) (o : Option (Attempt Queue)) (a : Attempt Queue) (p : Effect) → o ≡ Some a
    → DoesOnQueue k id o p → p ≡ answers_queue k id a
does-on-queue k id None a p is h = absurd h
does-on-queue k id (Some b) a p is h = h ∙ ap (answers_queue k id) (from_some b a is)

-- the effect at a queue that is there
there-on-queue : (k : Kernel) (id : ℕ) (q : Queue) (f : Queue → Effect) (a : Attempt Queue) → get k.queues id ≡ Some q
    → f q ≡ answers_queue k id a → Some (on_named k (get k.queues id) f) ≡ Some (answers_queue k id a)
there-on-queue k id q f a there is =
    ap (λ (o : Option Queue). (let e : Option Effect = Some (on_named k o f) in e)) there
    ∙ ap (λ (p : Effect). (let e : Option Effect = Some p in e)) is

at-this-queue : (k : Kernel) (rising : IsRising k.queues) (pid : ℕ) (alive : Alive) (n : ℕ) (call : Call) (q : Queue)
    → (a : Attempt Queue) → try_queue q pid call ≡ Some a → (id : ℕ) → at_queue call ≡ Some id
    → get k.queues id ≡ Some q → effect k pid alive (at_once call) n ≡ Some (answers_queue k id a)
at-this-queue k rising pid alive n (calls.MsgSnd i class text nowait) q a tried id named there =
    let is : i ≡ id = from_some i id named
    in subst
    (λ (j : ℕ).
    effect k pid alive (calls.MsgSnd j class text true) n ≡ Some (answers_queue k id a))
    (sym is)
    (there-on-queue k id q (λ q. change_queue k id (send q pid class text)) a there
    (does-on-queue k id (try_send q true (send q pid class text)) a _
    (queue-at-once q pid (calls.MsgSnd i class text nowait) a tried)
    (sends-to-queue k rising id q there (send q pid class text))))
at-this-queue k rising pid alive n (calls.MsgRcv i class size noerror nowait) q a tried id named there =
    let is : i ≡ id = from_some i id named
    in subst
    (λ (j : ℕ).
    effect k pid alive (calls.MsgRcv j class size noerror true) n ≡ Some (answers_queue k id a))
    (sym is)
    (there-on-queue k id q (λ q. receive_effect k id (receive q pid class size noerror)) a there
    (does-on-queue k id (try_receive q true (receive q pid class size noerror)) a _
    (queue-at-once q pid (calls.MsgRcv i class size noerror nowait) a tried)
    (receives-from-queue k rising id q there (receive q pid class size noerror))))
at-this-queue k rising pid alive n (calls.MsgStat i) q a tried id named there =
    subst
    (λ (j : ℕ). effect k pid alive (calls.MsgStat j) n ≡ Some (answers_queue k id a))
    (sym (from_some i id named))
    (there-on-queue k id q (λ q. record { kernel = k; reply = stat q }) a there
    (does-on-queue k id (Some (attempt q (stat q))) a _ tried (looks-at-queue k rising id q there (stat q))))
at-this-queue k rising pid alive n (calls.MsgSet i qbytes) q a tried id named there =
    subst
    (λ (j : ℕ). effect k pid alive (calls.MsgSet j qbytes) n ≡ Some (answers_queue k id a))
    (sym (from_some i id named))
    (there-on-queue k id q (λ q. change_queue k id (set_qbytes q qbytes)) a there
    (does-on-queue k id (Some (changed q (set_qbytes q qbytes))) a _ tried
    (changes-queue k rising id q there (set_qbytes q qbytes))))
at-this-queue k rising pid alive n call q a tried id named there = not_some id named

-- whichever call on a queue it is
pub queue-answers : (k : Kernel) → IsRising k.queues → (pid : ℕ) (alive : Alive) (n : ℕ) (call : Call) (id : ℕ)
    → at_queue call ≡ Some id → (q : Queue) → get k.queues id ≡ Some q → (a : Attempt Queue)
    → try_queue q pid call ≡ Some a → effect k pid alive (at_once call) n ≡ Some (answers_queue k id a)
queue-answers k rising pid alive n call id named q there a tried =
    at-this-queue k rising pid alive n call q a tried id named there

-- ---- sets

-- the set has the state that the try leaves, and the reply is the try's
abbrev pub answers_set : Kernel → ℕ → Attempt SemaphoreSet → Effect
answers_set k id a = record { kernel = with_set k id a.state; reply = a.reply }

module _ (k : Kernel) (rising : IsRising k.sets) (id : ℕ) (s : SemaphoreSet) (there : get k.sets id ≡ Some s) where
  -- a look leaves the set, and its kernel
  pub looks-at-set : (reply : Reply)
      → (let e : Effect = record { kernel = k; reply = reply } in e ≡ answers_set k id (attempt s reply))
  looks-at-set reply =
      ap
      (λ (ss : Numbered SemaphoreSet).
      (let e : Effect = record { kernel = record k { sets = ss }; reply = reply } in e))
      (sym (put-same k.sets id s rising there))

  -- semctl with GETVAL and GETPID
  pub reads-set : (r : Result ℕ Errno) → look_up k r ≡ answers_set k id (looked_up s r)
  reads-set (Ok n) = looks-at-set (replies.Num n)
  reads-set (Err e) = looks-at-set (replies.Fail e)

  -- semop, and semctl with SETVAL and SETALL
  pub changes-set : (r : Result SemaphoreSet Errno) → change_set k id r ≡ answers_set k id (changed s r)
  changes-set (Ok next) = refl
  changes-set (Err e) = looks-at-set (replies.Fail e)

-- the set that a call looks at or changes
abbrev pub at_set : Call → Option ℕ
at_set (calls.SemOp id steps) = Some id
at_set (calls.SemGetVal id num) = Some id
at_set (calls.SemGetPid id num) = Some id
at_set (calls.SemGetNcnt id num) = Some id
at_set (calls.SemGetZcnt id num) = Some id
at_set (calls.SemSetVal id num value) = Some id
at_set (calls.SemGetAll id) = Some id
at_set (calls.SemSetAll id values) = Some id
at_set call = None

there-on-set : (k : Kernel) (id : ℕ) (s : SemaphoreSet) (f : SemaphoreSet → Effect) (b a : Attempt SemaphoreSet)
    → get k.sets id ≡ Some s → f s ≡ answers_set k id b → Some b ≡ Some a
    → Some (on_named k (get k.sets id) f) ≡ Some (answers_set k id a)
there-on-set k id s f b a there is same =
    ap (λ (o : Option SemaphoreSet). (let e : Option Effect = Some (on_named k o f) in e)) there
    ∙ ap (λ (p : Effect). (let e : Option Effect = Some p in e)) (is ∙ ap (answers_set k id) (from_some b a same))

-- a semop whose operations have IPC_NOWAIT
operates : (k : Kernel) (rising : IsRising k.sets) (pid : ℕ) (alive : Alive) (n id : ℕ) (steps : List SemStep)
    → (s : SemaphoreSet) → get k.sets id ≡ Some s → (a : Attempt SemaphoreSet)
    → try_set s pid (calls.SemOp id (map step_at_once steps)) ≡ Some a
    → effect k pid alive (calls.SemOp id (map step_at_once steps)) n ≡ Some (answers_set k id a)
operates k rising pid alive n id steps s there a tried =
    let now : List SemStep = map step_at_once steps
    in ap
    (λ (b : Bool).
    (if b then None else Some (on_named k (get k.sets id) (λ set. change_set k id (op set pid now)))))
    (none-waits steps)
    ∙ there-on-set k id s (λ set. change_set k id (op set pid now)) (changed s (op s pid now)) a there
    (changes-set k rising id s there (op s pid now))
    (sym (op-at-once s pid now (none-waits steps)) ∙ tried)

at-this-set : (k : Kernel) (rising : IsRising k.sets) (pid : ℕ) (alive : Alive) (n : ℕ) (call : Call) (s : SemaphoreSet)
    → (a : Attempt SemaphoreSet) → try_set s pid call ≡ Some a → counts_waiters call ≡ false → (id : ℕ)
    → at_set call ≡ Some id → get k.sets id ≡ Some s
    → effect k pid alive (at_once call) n ≡ Some (answers_set k id a)
at-this-set k rising pid alive n (calls.SemOp i steps) s a tried looks id named there =
    subst
    (λ (j : ℕ). effect k pid alive (calls.SemOp j (map step_at_once steps)) n ≡ Some (answers_set k id a))
    (sym (from_some i id named))
    (operates k rising pid alive n id steps s there a (set-at-once s pid (calls.SemOp i steps) a tried))
at-this-set k rising pid alive n (calls.SemGetVal i num) s a tried looks id named there =
    subst
    (λ (j : ℕ). effect k pid alive (calls.SemGetVal j num) n ≡ Some (answers_set k id a))
    (sym (from_some i id named))
    (there-on-set k id s (λ s. look_up k (value_at s num)) (looked_up s (value_at s num)) a there
    (reads-set k rising id s there (value_at s num)) tried)
at-this-set k rising pid alive n (calls.SemGetPid i num) s a tried looks id named there =
    subst
    (λ (j : ℕ). effect k pid alive (calls.SemGetPid j num) n ≡ Some (answers_set k id a))
    (sym (from_some i id named))
    (there-on-set k id s (λ s. look_up k (last_at s num)) (looked_up s (last_at s num)) a there
    (reads-set k rising id s there (last_at s num)) tried)
at-this-set k rising pid alive n (calls.SemSetVal i num value) s a tried looks id named there =
    subst
    (λ (j : ℕ). effect k pid alive (calls.SemSetVal j num value) n ≡ Some (answers_set k id a))
    (sym (from_some i id named))
    (there-on-set k id s (λ s. change_set k id (set_value s num value)) (changed s (set_value s num value)) a there
    (changes-set k rising id s there (set_value s num value)) tried)
at-this-set k rising pid alive n (calls.SemGetAll i) s a tried looks id named there =
    subst
    (λ (j : ℕ). effect k pid alive (calls.SemGetAll j) n ≡ Some (answers_set k id a))
    (sym (from_some i id named))
    (there-on-set k id s (λ s. record { kernel = k; reply = replies.All (values_of s.semaphores) })
    (attempt s (replies.All (values_of s.semaphores))) a there
    (looks-at-set k rising id s there (replies.All (values_of s.semaphores))) tried)
at-this-set k rising pid alive n (calls.SemSetAll i values) s a tried looks id named there =
    subst
    (λ (j : ℕ). effect k pid alive (calls.SemSetAll j values) n ≡ Some (answers_set k id a))
    (sym (from_some i id named))
    (there-on-set k id s (λ s. change_set k id (set_all s values)) (changed s (set_all s values)) a there
    (changes-set k rising id s there (set_all s values)) tried)
at-this-set k rising pid alive n (calls.SemGetNcnt i num) s a tried looks id named there = not_true (sym looks)
at-this-set k rising pid alive n (calls.SemGetZcnt i num) s a tried looks id named there = not_true (sym looks)
at-this-set k rising pid alive n call s a tried looks id named there = not_some id named

-- whichever call on a set it is, but for a count of those who wait
pub set-answers : (k : Kernel) → IsRising k.sets → (pid : ℕ) (alive : Alive) (n : ℕ) (call : Call) (id : ℕ)
    → at_set call ≡ Some id → counts_waiters call ≡ false → (s : SemaphoreSet) → get k.sets id ≡ Some s
    → (a : Attempt SemaphoreSet) → try_set s pid call ≡ Some a
    → effect k pid alive (at_once call) n ≡ Some (answers_set k id a)
set-answers k rising pid alive n call id named looks s there a tried =
    at-this-set k rising pid alive n call s a tried looks id named there

-- and a count, of which the kernel in which nobody waits knows none
count-answers : (k : Kernel) (rising : IsRising k.sets) (id : ℕ) (s : SemaphoreSet) → get k.sets id ≡ Some s
    → (num : ℕ) → Some (on_named k (get k.sets id) (λ s. look_up k (waiting_at s num)))
    ≡ Some (answers_set k id (looked_up s (waiting_at s num)))
count-answers k rising id s there num =
    there-on-set k id s (λ s. look_up k (waiting_at s num)) (looked_up s (waiting_at s num))
    (looked_up s (waiting_at s num)) there (reads-set k rising id s there (waiting_at s num)) refl

-- the semaphore whose waiters are counted
abbrev pub counted_at : Call → ℕ
counted_at (calls.SemGetNcnt id num) = num
counted_at (calls.SemGetZcnt id num) = num
counted_at call = 0

-- a call that counts those who wait is answered by a look at its set
pub counts-answer : (k : Kernel) → IsRising k.sets → (pid : ℕ) (alive : Alive) (n : ℕ) (call : Call) (id : ℕ)
    → at_set call ≡ Some id → counts_waiters call ≡ true → (s : SemaphoreSet) → get k.sets id ≡ Some s
    → effect k pid alive call n ≡ Some (answers_set k id (looked_up s (waiting_at s (counted_at call))))
counts-answer k rising pid alive n (calls.SemGetNcnt i num) id named counts s there =
    subst
    (λ (j : ℕ).
    effect k pid alive (calls.SemGetNcnt j num) n ≡ Some (answers_set k id (looked_up s (waiting_at s num))))
    (sym (from_some i id named)) (count-answers k rising id s there num)
counts-answer k rising pid alive n (calls.SemGetZcnt i num) id named counts s there =
    subst
    (λ (j : ℕ).
    effect k pid alive (calls.SemGetZcnt j num) n ≡ Some (answers_set k id (looked_up s (waiting_at s num))))
    (sym (from_some i id named)) (count-answers k rising id s there num)
counts-answer k rising pid alive n call id named counts s there = not_true counts
