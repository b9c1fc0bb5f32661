-- The law at the calls on message queues.
use Rattle.std.proofs.Common.{◌≡◌, ℕ, ℤ, Bool, true, false, not, ◌&&◌, List, [], ◌∷◌, Option, Some, None, Result, Ok, Err, refl, ap, subst}
use Rattle.std.specs.Prelude.{if◌then◌else◌}
use Rattle.kernel_model.specs.Effect.{reply_with, refuse}
use Rattle.std.proofs.lemmas.Bool.{or_left}
use Rattle.pico_base.specs.declared.call.Call.{Call}
use Rattle.pico_base.specs.declared.call.Call.TheVariants as calls
use Rattle.pico_base.specs.declared.reply.Errno.{Errno}
use Rattle.pico_base.specs.declared.reply.Errno.TheVariants.{Enoent, Eexist}
use Rattle.pico_base.specs.declared.reply.Reply.{Reply}
use Rattle.pico_base.specs.declared.reply.Reply.TheVariants.{Num, Fail, Message}
use Rattle.number_maps.specs.Maps.{Numbered, get, put, without, is_used, used_with}
use Rattle.kernel_model.specs.Queue.{Queue, Received, empty_queue, stat, send, receive, set_qbytes}
use Rattle.kernel_model.specs.Row.{Alive}
use Rattle.kernel_model.specs.Kernel.{Kernel}
use Rattle.kernel_model.specs.QueueCalls.{new_queue, get_queue_at, change_queue, receive_effect, unbind}
use Rattle.kernel_model.specs.Transition.{effect, transition, is_spent, may_make}
use Rattle.kernel_model.specs.Valid.{IsValid}
use Rattle.kernel_model.specs.Footprint.{Part, MayDo, Whole, QueueAt, QueueKeys}
use Rattle.kernel_model.specs.FootprintLaw.{AgreeOn}
use Rattle.number_maps.proofs.Order.{eq-same}
use Rattle.footprint_laws.proofs.Keys.{unbound-same}
use Rattle.footprint_laws.proofs.Change.{Same, Changes, changes-none, changes-put, changes-without, has_queue, has_queue_keys, SameEffect, SameEffects}
use Rattle.footprint_laws.proofs.Effects.{Childless, fresh-alike, made-if, unchanged, named-alike, queues-changed}
use Rattle.footprint_laws.proofs.Stepped.{AlikeSteps}
use Rattle.footprint_laws.proofs.Steps.{whole-steps, away-steps}
use Rattle.footprint_laws.proofs.AtCall.{LawAt}

module _ (parts : List Part) (n : ℕ) (j k : Kernel) (childless : Childless parts) where
  queue-put : (id : ℕ) (q : Queue) (r : Reply) → has_queue parts id ≡ true
      → SameEffect parts j k
      (record { kernel = record j { queues = put j.queues id q }; reply = r })
      (record { kernel = record k { queues = put k.queues id q }; reply = r })
  queue-put id q r t =
      queues-changed parts j k childless (put j.queues id q)
      (put k.queues id q) j.queue_keys k.queue_keys j.used_queues k.used_queues r
      (changes-put (has_queue parts) j.queues k.queues j.queues k.queues id q t
      (changes-none (has_queue parts) j.queues k.queues))
      (changes-none (has_queue_keys parts) j.queue_keys k.queue_keys)

  changed-alike : (id : ℕ) (r : Result Queue Errno) → has_queue parts id ≡ true
      → SameEffect parts j k (change_queue j id r) (change_queue k id r)
  changed-alike id (Ok q) t = queue-put id q (Num 0) t
  changed-alike id (Err e) t = unchanged parts j k childless (Fail e)

  received-alike : (id : ℕ) (r : Result Received Errno) → has_queue parts id ≡ true
      → SameEffect parts j k (receive_effect j id r) (receive_effect k id r)
  received-alike id (Ok r) t = queue-put id r.queue (Message r.message.class r.message.text) t
  received-alike id (Err e) t = unchanged parts j k childless (Fail e)

  new-alike : (keys_j keys_k : Numbered ℕ) → Changes (has_queue_keys parts) j.queue_keys k.queue_keys keys_j keys_k
      → has_queue parts n ≡ true
      → is_used j.used_queues n ≡ false → is_used k.used_queues n ≡ false
      → SameEffects parts j k (new_queue j keys_j n) (new_queue k keys_k n)
  new-alike keys_j keys_k c t uj uk =
      made-if parts j k _ _ _ _ (fresh-alike j.used_queues k.used_queues n uj uk)
      (queues-changed parts j k childless (put j.queues n empty_queue) (put k.queues n empty_queue) keys_j keys_k
      (used_with j.used_queues n) (used_with k.used_queues n) (Num n)
      (changes-put (has_queue parts) j.queues k.queues j.queues k.queues n empty_queue t
      (changes-none (has_queue parts) j.queues k.queues))
      c)

  bound-alike : (id : ℕ) (b : Bool)
      → SameEffect parts j k (if b then refuse j Eexist else reply_with j id)
      (if b then refuse k Eexist else reply_with k id)
  bound-alike id true = unchanged parts j k childless (Fail Eexist)
  bound-alike id false = unchanged parts j k childless (Num id)

  got-alike : (key : ℕ) (create excl : Bool) (o : Option ℕ) → has_queue_keys parts key ≡ true → has_queue parts n ≡ true
      → is_used j.used_queues n ≡ false → is_used k.used_queues n ≡ false
      → SameEffects parts j k (get_queue_at j key create excl n o) (get_queue_at k key create excl n o)
  got-alike key create excl (Some id) s t uj uk = bound-alike id (create && excl)
  got-alike key true excl None s t uj uk =
      new-alike (put j.queue_keys key n) (put k.queue_keys key n)
      (changes-put (has_queue_keys parts) j.queue_keys k.queue_keys j.queue_keys k.queue_keys key n s
      (changes-none (has_queue_keys parts) j.queue_keys k.queue_keys))
      t uj uk
  got-alike key false excl None s t uj uk = unchanged parts j k childless (Fail Enoent)

-- At a queue.

abbrev at_queue : ℕ → ℕ → List Part
at_queue pid id = MayDo pid ∷ QueueAt id ∷ []

queue-here : (pid id : ℕ) → has_queue (at_queue pid id) id ≡ true
queue-here pid id = or_left _ false (eq-same id)

queue-steps : (j k : Kernel) (pid : ℕ) (call : Call) (n id : ℕ) → IsValid j → IsValid k → AgreeOn (at_queue pid id) j k
    → ((a b : Alive) → a.allowance ≡ b.allowance → may_make a call ≡ may_make b call)
    → ((a b : Alive) → SameEffects (at_queue pid id) j k (effect j pid a call n) (effect k pid b call n))
    → AlikeSteps (at_queue pid id) j k (transition j pid call n) (transition k pid call n)
queue-steps j k pid call n id vj vk h m s =
    away-steps (at_queue pid id) n j k pid call h refl (or_left _ _ (eq-same pid)) (λ p. refl) vj vk h.0 m s

send-effects : (j k : Kernel) (pid n id : ℕ) (class : ℤ) (text : List ℕ) (nowait : Bool) → AgreeOn (at_queue pid id) j k
    → (a b : Alive) → SameEffects (at_queue pid id) j k (effect j pid a (calls.MsgSnd id class text nowait) n)
    (effect k pid b (calls.MsgSnd id class text nowait) n)
send-effects j k pid n id class text true h a b =
    named-alike (at_queue pid id) j k (λ p. refl) (get j.queues id) (get k.queues id) _ _ h.1.0
    (λ q. changed-alike (at_queue pid id) n j k (λ p. refl) id (send q pid class text) (queue-here pid id))
send-effects j k pid n id class text false h a b = tt

-- the footprint's law at `msgsnd`
pub send-law : (j k : Kernel) (pid n id : ℕ) (class : ℤ) (text : List ℕ) (nowait : Bool)
    → LawAt j k pid (calls.MsgSnd id class text nowait) n
send-law j k pid n id class text nowait vj vk h uj uk =
    queue-steps j k pid (calls.MsgSnd id class text nowait) n id vj vk h (λ a b e. ap (λ x. not (is_spent x)) e)
    (send-effects j k pid n id class text nowait h)

receive-effects : (j k : Kernel) (pid n id : ℕ) (class : ℤ) (size : ℕ) (noerror nowait : Bool)
    → AgreeOn (at_queue pid id) j k
    → (a b : Alive) → SameEffects (at_queue pid id) j k (effect j pid a (calls.MsgRcv id class size noerror nowait) n)
    (effect k pid b (calls.MsgRcv id class size noerror nowait) n)
receive-effects j k pid n id class size noerror true h a b =
    named-alike (at_queue pid id) j k (λ p. refl) (get j.queues id) (get k.queues id) _ _ h.1.0
    (λ q. received-alike (at_queue pid id) n j k (λ p. refl) id (receive q pid class size noerror) (queue-here pid id))
receive-effects j k pid n id class size noerror false h a b = tt

-- the footprint's law at `msgrcv`
pub receive-law : (j k : Kernel) (pid n id : ℕ) (class : ℤ) (size : ℕ) (noerror nowait : Bool)
    → LawAt j k pid (calls.MsgRcv id class size noerror nowait) n
receive-law j k pid n id class size noerror nowait vj vk h uj uk =
    queue-steps j k pid (calls.MsgRcv id class size noerror nowait) n id vj vk h (λ a b e. ap (λ x. not (is_spent x)) e)
    (receive-effects j k pid n id class size noerror nowait h)

-- the footprint's law at `msgctl` with IPC_STAT
pub stat-law : (j k : Kernel) (pid n id : ℕ) → LawAt j k pid (calls.MsgStat id) n
stat-law j k pid n id vj vk h uj uk =
    queue-steps j k pid (calls.MsgStat id) n id vj vk h (λ a b e. ap (λ x. not (is_spent x)) e)
    (λ a b. named-alike (at_queue pid id) j k (λ p. refl) (get j.queues id) (get k.queues id) _ _ h.1.0
    (λ q. unchanged (at_queue pid id) j k (λ p. refl) (stat q)))

-- the footprint's law at `msgctl` with IPC_SET
pub set_bytes-law : (j k : Kernel) (pid n id qbytes : ℕ) → LawAt j k pid (calls.MsgSet id qbytes) n
set_bytes-law j k pid n id qbytes vj vk h uj uk =
    queue-steps j k pid (calls.MsgSet id qbytes) n id vj vk h (λ a b e. ap (λ x. not (is_spent x)) e)
    (λ a b. named-alike (at_queue pid id) j k (λ p. refl) (get j.queues id) (get k.queues id) _ _ h.1.0
    (λ q. changed-alike (at_queue pid id) n j k (λ p. refl) id (set_qbytes q qbytes) (queue-here pid id)))

-- The removal, at the queue and the keys.

abbrev queue_and_keys : ℕ → ℕ → List Part
queue_and_keys pid id = MayDo pid ∷ QueueAt id ∷ QueueKeys ∷ []

-- the footprint's law at `msgctl` with IPC_RMID
pub remove_queue-law : (j k : Kernel) (pid n id : ℕ) → LawAt j k pid (calls.MsgRmid id) n
remove_queue-law j k pid n id vj vk h uj uk =
    let parts = queue_and_keys pid id
    in away-steps parts n j k pid (calls.MsgRmid id) h refl (or_left _ _ (eq-same pid)) (λ p. refl) vj vk h.0
    (λ a b e. ap (λ x. not (is_spent x)) e)
    (λ a b. named-alike parts j k (λ p. refl) (get j.queues id) (get k.queues id) _ _ h.1.0
    (λ q. queues-changed parts j k (λ p. refl) (without j.queues id) (without k.queues id) (unbind j.queue_keys id)
    (unbind k.queue_keys id)
    j.used_queues k.used_queues (Num 0)
    (changes-without (has_queue parts) j.queues k.queues j.queues k.queues id (or_left _ _ (eq-same id))
    (changes-none (has_queue parts) j.queues k.queues))
    (λ key. Same refl (unbound-same j.queue_keys k.queue_keys id key vj.queue_keys.ordered vk.queue_keys.ordered
    (h.1.1.0 key)))
    ))

-- A get, at the caller or at the keys.

-- the footprint's law at `msgget`
pub get_queue-law : (j k : Kernel) (pid n : ℕ) (key : Option ℕ) (create excl : Bool)
    → LawAt j k pid (calls.MsgGet key create excl) n
get_queue-law j k pid n None create excl vj vk h uj uk =
    let parts = MayDo pid ∷ Whole pid ∷ QueueAt n ∷ []
    in whole-steps parts n j k pid (calls.MsgGet None create excl) h (or_left _ _ (eq-same pid)) h.1.0
    (λ a x y. new-alike parts n j k (λ p. refl) j.queue_keys k.queue_keys
    (changes-none (has_queue_keys parts) j.queue_keys k.queue_keys)
    (or_left _ _ (eq-same n)) uj uk)
get_queue-law j k pid n (Some key) create excl vj vk h uj uk =
    let parts = MayDo pid ∷ QueueKeys ∷ QueueAt n ∷ []
    in away-steps parts n j k pid (calls.MsgGet (Some key) create excl) h refl (or_left _ _ (eq-same pid))
    (λ p. refl) vj vk h.0 (λ a b e. ap (λ x. not (is_spent x)) e)
    (λ a b. subst (λ o. SameEffects parts j k (get_queue_at j key create excl n (get j.queue_keys key))
    (get_queue_at k key create excl n o)) (h.1.0 key)
    (got-alike parts n j k (λ p. refl) key create excl (get j.queue_keys key) refl (or_left _ _ (eq-same n)) uj uk))
