-- The law at the calls on message queues.
use Rattle.std.proofs.Common.{◌≡◌, ℕ, Bool, true, false, ◌&&◌, List, [], ◌∷◌, map, fold, Option, Some, None, refl, sym, subst}
use Rattle.std.specs.Prelude.{if◌then◌else◌}
use Rattle.std.specs.List.{list_any}
use Rattle.std.proofs.lemmas.Bool.{or_left, or_right}
use Rattle.pico_base.specs.declared.call.Call.{Call}
use Rattle.pico_base.specs.declared.call.Call.TheVariants as calls
use Rattle.pico_base.specs.declared.reply.Errno.TheVariants.{Enoent, Eexist, Eidrm}
use Rattle.pico_base.specs.declared.reply.Reply.TheVariants.{Num, Fail}
use Rattle.number_maps.specs.Maps.{Numbered, get, put, without, is_used, used_with}
use Rattle.number_maps.proofs.Order.{eq-same}
use Rattle.kernel_model.specs.Queue.{Queue, empty_queue}
use Rattle.kernel_model.specs.QueueCalls.{unbind}
use Rattle.waiting_model.specs.declared.callers.Waiting.{Waiting}
use Rattle.waiting_model.specs.Calls.{withdrawn_from}
use Rattle.waiting_model.specs.Waiters.{Awaited, unawaited, waiter, wakes_at_removal}
use Rattle.waiting_model.specs.Queue.{carry_out_on_queue, try_queue}
use Rattle.waiting_model.specs.Marks.{Alive}
use Rattle.waiting_model.specs.Kernel.{Kernel, wake_one}
use Rattle.waiting_model.specs.Effect.{reply_with, refuse}
use Rattle.waiting_model.specs.QueueCalls.{get_queue_at, new_queue, on_queue, queue_effect, remove_queue}
use Rattle.waiting_model.specs.Transition.{effect, transition}
use Rattle.footprint_laws.proofs.Keys.{unbound-same}
use Rattle.footprint_laws.proofs.Change.{Same, Changes, changes-none, changes-put, changes-without}
use Rattle.waiting_footprint_laws.specs.Footprint.{Part, MarksOf, Whole, QueueAt, QueueKeys, parts_of_waiters}
use Rattle.waiting_footprint_laws.specs.Law.{AgreeOn, is_marks}
use Rattle.waiting_footprint_laws.specs.Valid.{IsValid}
use Rattle.waiting_footprint_laws.proofs.Effects.{AlikeSteps, Childless, SameEffect, SameEffects, fresh-alike, has_marks, has_queue, has_queue_keys, is_parent, made-if, moved-none, named-alike, queues-changed, unchanged}
use Rattle.waiting_footprint_laws.proofs.Steps.{IsByMarks, LawAt, away-steps, whole-steps}
use Rattle.waiting_footprint_laws.proofs.Wakes.{AllWaiting, carried-all, removed-all, marked-all, woken-moved}

-- Those who wait at an object.

listed-childless : (p : ℕ) (ws : List Waiting)
    → list_any (is_parent p) (map (λ (w : Waiting). MarksOf w.pid) ws) ≡ false
listed-childless p [] = refl
listed-childless p (w ∷ ws) = listed-childless p ws

-- the parts of those who wait name no parent
pub waiters-childless : {T : Type 0} (p : ℕ) (o : Option (Awaited T))
    → list_any (is_parent p) (parts_of_waiters o) ≡ false
waiters-childless p None = refl
waiters-childless p (Some object) = listed-childless p object.waiters

-- where the marks of those who wait are parts
pub waiters-marked : {T : Type 0} (parts : List Part) (o : Option (Awaited T)) (object : Awaited T) → o ≡ Some object
    → ((p : ℕ) → list_any (is_marks p) (parts_of_waiters o) ≡ true → has_marks parts p ≡ true)
    → AllWaiting (has_marks parts) object.waiters
waiters-marked {T} parts o object e among =
    marked-all (has_marks parts) object.waiters
    (subst
    (λ (x : Option (Awaited T)).
    (p : ℕ) → list_any (is_marks p) (parts_of_waiters x) ≡ true → has_marks parts p ≡ true) e among)

module _ (parts : List Part) (n : ℕ) (j k : Kernel) (childless : Childless parts) where
  module _ (h : AgreeOn parts j k) (id : ℕ) (here : has_queue parts id ≡ true) (q : Awaited Queue)
      (marked : AllWaiting (has_marks parts) q.waiters) where
    -- a call is carried out at the same queue
    carried-alike : (who : Waiting)
        → SameEffect parts j k (queue_effect j id (carry_out_on_queue q who))
        (queue_effect k id (carry_out_on_queue q who))
    carried-alike who =
        let c = carry_out_on_queue q who
        in queues-changed parts j k childless (fold wake_one j.processes c.wakes) (fold wake_one k.processes c.wakes)
        (put j.queues id c.object) (put k.queues id c.object)
        j.queue_keys k.queue_keys j.used_queues k.used_queues c.own c.wakes
        (woken-moved parts j k h c.wakes
        (carried-all (has_marks parts) try_queue q who (try_queue q.state who.pid who.call) marked)
        j.processes k.processes (moved-none parts j k))
        (changes-put (has_queue parts) j.queues k.queues j.queues k.queues id c.object here
        (changes-none (has_queue parts) j.queues k.queues))
        (changes-none (has_queue_keys parts) j.queue_keys k.queue_keys)

    -- the same queue is removed
    removed-alike : ((key : ℕ) → get j.queue_keys key ≡ get k.queue_keys key)
        → ((key : ℕ) → has_queue_keys parts key ≡ true)
        → IsValid j → IsValid k
        → SameEffect parts j k (remove_queue j id q) (remove_queue k id q)
    removed-alike keys t vj vk =
        let wakes = wakes_at_removal q
        in queues-changed parts j k childless (fold wake_one j.processes wakes) (fold wake_one k.processes wakes)
        (without j.queues id) (without k.queues id)
        (unbind j.queue_keys id) (unbind k.queue_keys id) j.used_queues k.used_queues (Some (Num 0)) wakes
        (woken-moved parts j k h wakes (removed-all (has_marks parts) q.waiters (Fail Eidrm) marked) j.processes
        k.processes (moved-none parts j k))
        (changes-without (has_queue parts) j.queues k.queues j.queues k.queues id here
        (changes-none (has_queue parts) j.queues k.queues))
        (λ key. Same (t key) (unbound-same j.queue_keys k.queue_keys id key vj.queue_keys vk.queue_keys (keys key)))

  new-alike : (keys_j keys_k : Numbered ℕ) → Changes (has_queue_keys parts) j.queue_keys k.queue_keys keys_j keys_k
      → has_queue parts n ≡ true
      → is_used j.used_queues n ≡ false → is_used k.used_queues n ≡ false
      → SameEffects parts j k (new_queue j keys_j n) (new_queue k keys_k n)
  new-alike keys_j keys_k c t uj uk =
      let new : Awaited Queue = unawaited empty_queue
      in made-if parts j k _ _ _ _ (fresh-alike j.used_queues k.used_queues n uj uk)
      (queues-changed parts j k childless j.processes k.processes (put j.queues n new) (put k.queues n new) keys_j
      keys_k (used_with j.used_queues n) (used_with k.used_queues n) (Some (Num n)) [] (moved-none parts j k)
      (changes-put (has_queue parts) j.queues k.queues j.queues k.queues n new t
      (changes-none (has_queue parts) j.queues k.queues))
      c)

  bound-alike : (id : ℕ) (b : Bool)
      → SameEffect parts j k (if b then refuse j Eexist else reply_with j id)
      (if b then refuse k Eexist else reply_with k id)
  bound-alike id true = unchanged parts j k childless (Some (Fail Eexist))
  bound-alike id false = unchanged parts j k childless (Some (Num id))

  got-alike : (key : ℕ) (create excl : Bool) (o : Option ℕ) → has_queue_keys parts key ≡ true → has_queue parts n ≡ true
      → is_used j.used_queues n ≡ false → is_used k.used_queues n ≡ false
      → SameEffects parts j k (get_queue_at j key create excl n o) (get_queue_at k key create excl n o)
  got-alike key create excl (Some id) s t uj uk = bound-alike id (create && excl)
  got-alike key true excl None s t uj uk =
      new-alike (put j.queue_keys key n) (put k.queue_keys key n)
      (changes-put (has_queue_keys parts) j.queue_keys k.queue_keys j.queue_keys k.queue_keys key n s
      (changes-none (has_queue_keys parts) j.queue_keys k.queue_keys))
      t uj uk
  got-alike key false excl None s t uj uk = unchanged parts j k childless (Some (Fail Enoent))

-- At a queue.

abbrev at_queue : Kernel → ℕ → ℕ → List Part
at_queue j pid id = MarksOf pid ∷ QueueAt id ∷ parts_of_waiters (get j.queues id)

-- the footprint's law at each call that is carried out at a queue
pub queue-law : (j k : Kernel) (pid n id : ℕ) (call : Call) → withdrawn_from call ≡ None → IsByMarks call
    → ((i : Kernel) (a : Alive) → effect i (waiter pid call) a n ≡ Some (on_queue i id (waiter pid call)))
    → IsValid j → IsValid k → AgreeOn (at_queue j pid id) j k
    → AlikeSteps (at_queue j pid id) j k (transition j pid call n) (transition k pid call n)
queue-law j k pid n id call plain by_marks is vj vk h =
    let parts = at_queue j pid id
    in let childless : Childless parts = λ p. waiters-childless p (get j.queues id)
    in let who = waiter pid call
    in away-steps parts n j k pid call h (or_left _ _ (eq-same pid)) vj vk plain by_marks
    (λ a b. subst (λ e. SameEffects parts j k e (effect k who b n)) (sym (is j a))
    (subst (λ e. SameEffects parts j k (Some (on_queue j id who)) e) (sym (is k b))
    (named-alike parts j k childless (get j.queues id) (get k.queues id) _ _ h.1.0
    (λ q e. carried-alike parts n j k childless h id (or_left _ _ (eq-same id)) q
    (waiters-marked parts (get j.queues id) q e (λ p u. or_right _ _ u)) who))))

-- The removal, at the queue and the keys.

abbrev keys_and_queue : Kernel → ℕ → ℕ → List Part
keys_and_queue j pid id = MarksOf pid ∷ QueueKeys ∷ QueueAt id ∷ parts_of_waiters (get j.queues id)

-- the footprint's law at `msgctl` with IPC_RMID
pub remove_queue-law : (j k : Kernel) (pid n id : ℕ) → LawAt j k pid (calls.MsgRmid id) n
remove_queue-law j k pid n id vj vk h uj uk =
    let parts = keys_and_queue j pid id
    in let childless : Childless parts = λ p. waiters-childless p (get j.queues id)
    in away-steps parts n j k pid (calls.MsgRmid id) h (or_left _ _ (eq-same pid)) vj vk refl (λ a. refl)
    (λ a b. named-alike parts j k childless (get j.queues id) (get k.queues id) _ _ h.1.1.0
    (λ q e. removed-alike parts n j k childless h id (or_left _ _ (eq-same id)) q
    (waiters-marked parts (get j.queues id) q e (λ p u. or_right _ _ u)) h.1.0 (λ key. refl) vj vk))

-- A get, at the caller or at the keys.

-- the footprint's law at `msgget`
pub get_queue-law : (j k : Kernel) (pid n : ℕ) (key : Option ℕ) (create excl : Bool)
    → LawAt j k pid (calls.MsgGet key create excl) n
get_queue-law j k pid n None create excl vj vk h uj uk =
    let parts = MarksOf pid ∷ Whole pid ∷ QueueAt n ∷ []
    in whole-steps parts n j k pid (calls.MsgGet None create excl) h (or_left _ _ (eq-same pid)) vj vk refl h.1.0
    (λ a x. new-alike parts n j k (λ p. refl) j.queue_keys k.queue_keys
    (changes-none (has_queue_keys parts) j.queue_keys k.queue_keys)
    (or_left _ _ (eq-same n)) uj uk)
get_queue-law j k pid n (Some key) create excl vj vk h uj uk =
    let parts = MarksOf pid ∷ QueueKeys ∷ QueueAt n ∷ []
    in away-steps parts n j k pid (calls.MsgGet (Some key) create excl) h (or_left _ _ (eq-same pid)) vj vk refl
    (λ a. refl)
    (λ a b. subst (λ o. SameEffects parts j k (get_queue_at j key create excl n (get j.queue_keys key))
    (get_queue_at k key create excl n o)) (h.1.0 key)
    (got-alike parts n j k (λ p. refl) key create excl (get j.queue_keys key) refl (or_left _ _ (eq-same n)) uj uk))
