-- The law at the calls on semaphore sets.
use Rattle.std.proofs.Common.{◌≡◌, ◌∙◌, ℕ, Bool, true, false, ◌&&◌, ◌||◌, cond, nat_eq, List, [], ◌∷◌, fold, Option, Some, None, Result, Ok, Err, refl, ap, sym, subst}
use Rattle.std.specs.Prelude.{nat_le, if◌then◌else◌}
use Rattle.std.proofs.lemmas.Bool.{or_left, or_right}
use Rattle.pico_base.specs.declared.call.Call.{Call}
use Rattle.pico_base.specs.declared.call.Call.TheVariants as calls
use Rattle.pico_base.specs.declared.reply.Errno.{Errno}
use Rattle.pico_base.specs.declared.reply.Errno.TheVariants.{Einval, Enoent, Eexist, Eidrm}
use Rattle.pico_base.specs.declared.reply.Reply.TheVariants.{Num, Fail}
use Rattle.number_maps.specs.Maps.{Numbered, get, put, without, is_used, used_with}
use Rattle.number_maps.proofs.Order.{eq-same}
use Rattle.kernel_model.specs.SemaphoreSet.{SemaphoreSet, new_set}
use Rattle.kernel_model.specs.QueueCalls.{unbind}
use Rattle.waiting_model.specs.declared.callers.Waiting.{Waiting}
use Rattle.waiting_model.specs.Calls.{withdrawn_from}
use Rattle.waiting_model.specs.Waiters.{Awaited, unawaited, waiter, wakes_at_removal}
use Rattle.waiting_model.specs.SemaphoreSet.{carry_out_on_set, carry_out_on_set_by, try_set}
use Rattle.waiting_model.specs.Marks.{Alive}
use Rattle.waiting_model.specs.Kernel.{Kernel, wake_one}
use Rattle.waiting_model.specs.Effect.{reply_with, refuse}
use Rattle.waiting_model.specs.SetCalls.{find_set, get_set_at, new_set_of, on_set, remove_set, set_effect, set_size}
use Rattle.waiting_model.specs.Transition.{effect, transition}
use Rattle.footprint_laws.proofs.Keys.{unbound-same}
use Rattle.footprint_laws.proofs.Change.{Same, Changes, changes-none, changes-put, changes-without}
use Rattle.waiting_footprint_laws.specs.Footprint.{Part, MarksOf, Whole, SetAt, SetKeys, parts_of_waiters, size_parts}
use Rattle.waiting_footprint_laws.specs.Law.{AgreeOn}
use Rattle.waiting_footprint_laws.specs.Valid.{IsValid}
use Rattle.waiting_footprint_laws.proofs.Effects.{AlikeSteps, Childless, SameEffect, SameEffects, fresh-alike, has_marks, has_set, has_set_keys, made-if, moved-none, named-alike, sets-changed, unchanged}
use Rattle.waiting_footprint_laws.proofs.Steps.{IsByMarks, LawAt, away-steps, whole-steps}
use Rattle.waiting_footprint_laws.proofs.Wakes.{AllWaiting, AllWoken, carried-all, removed-all, woken-moved}
use Rattle.waiting_footprint_laws.proofs.Queues.{waiters-childless, waiters-marked}

-- a call that counts who waits wakes nobody
set-carried : (t : ℕ → Bool) (s : Awaited SemaphoreSet) (who : Waiting) (call : Call) → AllWaiting t s.waiters
    → AllWoken t (carry_out_on_set_by s who call).wakes
set-carried t s who (calls.SemGetNcnt id num) h = tt
set-carried t s who (calls.SemGetZcnt id num) h = tt
set-carried t s who call h = carried-all t try_set s who (try_set s.state who.pid who.call) h

module _ (parts : List Part) (n : ℕ) (j k : Kernel) (childless : Childless parts) where
  module _ (h : AgreeOn parts j k) (id : ℕ) (here : has_set parts id ≡ true) (s : Awaited SemaphoreSet)
      (marked : AllWaiting (has_marks parts) s.waiters) where
    -- a call is carried out at the same set
    carried-alike : (who : Waiting)
        → SameEffect parts j k (set_effect j id (carry_out_on_set s who)) (set_effect k id (carry_out_on_set s who))
    carried-alike who =
        let c = carry_out_on_set s who
        in sets-changed parts j k childless (fold wake_one j.processes c.wakes) (fold wake_one k.processes c.wakes)
        (put j.sets id c.object) (put k.sets id c.object) j.set_keys k.set_keys j.used_sets k.used_sets c.own c.wakes
        (woken-moved parts j k h c.wakes (set-carried (has_marks parts) s who who.call marked) j.processes
        k.processes (moved-none parts j k))
        (changes-put (has_set parts) j.sets k.sets j.sets k.sets id c.object here
        (changes-none (has_set parts) j.sets k.sets))
        (changes-none (has_set_keys parts) j.set_keys k.set_keys)

    -- the same set is removed
    removed-alike : ((key : ℕ) → get j.set_keys key ≡ get k.set_keys key) → ((key : ℕ) → has_set_keys parts key ≡ true)
        → IsValid j → IsValid k → SameEffect parts j k (remove_set j id s) (remove_set k id s)
    removed-alike keys t vj vk =
        let wakes = wakes_at_removal s
        in sets-changed parts j k childless (fold wake_one j.processes wakes) (fold wake_one k.processes wakes)
        (without j.sets id) (without k.sets id) (unbind j.set_keys id) (unbind k.set_keys id) j.used_sets k.used_sets
        (Some (Num 0)) wakes
        (woken-moved parts j k h wakes (removed-all (has_marks parts) s.waiters (Fail Eidrm) marked) j.processes
        k.processes (moved-none parts j k))
        (changes-without (has_set parts) j.sets k.sets j.sets k.sets id here
        (changes-none (has_set parts) j.sets k.sets))
        (λ key. Same (t key) (unbound-same j.set_keys k.set_keys id key vj.set_keys vk.set_keys (keys key)))

  new-alike : (keys_j keys_k : Numbered ℕ) (r : Result SemaphoreSet Errno)
      → Changes (has_set_keys parts) j.set_keys k.set_keys keys_j keys_k → has_set parts n ≡ true
      → is_used j.used_sets n ≡ false → is_used k.used_sets n ≡ false
      → SameEffects parts j k (new_set_of j keys_j n r) (new_set_of k keys_k n r)
  new-alike keys_j keys_k (Err e) c t uj uk = unchanged parts j k childless (Some (Fail e))
  new-alike keys_j keys_k (Ok set) c t uj uk =
      let new : Awaited SemaphoreSet = unawaited set
      in made-if parts j k _ _ _ _ (fresh-alike j.used_sets k.used_sets n uj uk)
      (sets-changed parts j k childless j.processes k.processes (put j.sets n new) (put k.sets n new) keys_j keys_k
      (used_with j.used_sets n) (used_with k.used_sets n) (Some (Num n)) [] (moved-none parts j k)
      (changes-put (has_set parts) j.sets k.sets j.sets k.sets n new t (changes-none (has_set parts) j.sets k.sets))
      c)

  found-if : (id : ℕ) (b c : Bool) → b ≡ c
      → SameEffect parts j k (cond b (reply_with j id) (refuse j Einval)) (cond c (reply_with k id) (refuse k Einval))
  found-if id true true e = unchanged parts j k childless (Some (Num id))
  found-if id false false e = unchanged parts j k childless (Some (Fail Einval))
  found-if id true false e = cc
  found-if id false true e = cc

  bound-if : (id count : ℕ) (b : Bool) → set_size j id ≡ set_size k id
      → SameEffect parts j k (if b then refuse j Eexist else find_set j id count)
      (if b then refuse k Eexist else find_set k id count)
  bound-if id count true e = unchanged parts j k childless (Some (Fail Eexist))
  bound-if id count false e = found-if id _ _ (ap (λ m. nat_eq count 0 || nat_le count m) e)

  unbound-alike : (key count : ℕ) (create excl : Bool) → has_set_keys parts key ≡ true → has_set parts n ≡ true
      → is_used j.used_sets n ≡ false → is_used k.used_sets n ≡ false
      → SameEffects parts j k (get_set_at j key count create excl n None) (get_set_at k key count create excl n None)
  unbound-alike key count true excl s t uj uk =
      new-alike (put j.set_keys key n) (put k.set_keys key n) (new_set count)
      (changes-put (has_set_keys parts) j.set_keys k.set_keys j.set_keys k.set_keys key n s
      (changes-none (has_set_keys parts) j.set_keys k.set_keys))
      t uj uk
  unbound-alike key count false excl s t uj uk = unchanged parts j k childless (Some (Fail Enoent))

-- At a set.

abbrev at_set : Kernel → ℕ → ℕ → List Part
at_set j pid id = MarksOf pid ∷ SetAt id ∷ parts_of_waiters (get j.sets id)

-- the footprint's law at each call that is carried out at a set
pub set-law : (j k : Kernel) (pid n id : ℕ) (call : Call) → withdrawn_from call ≡ None → IsByMarks call
    → ((i : Kernel) (a : Alive) → effect i (waiter pid call) a n ≡ Some (on_set i id (waiter pid call)))
    → IsValid j → IsValid k → AgreeOn (at_set j pid id) j k
    → AlikeSteps (at_set j pid id) j k (transition j pid call n) (transition k pid call n)
set-law j k pid n id call plain by_marks is vj vk h =
    let parts = at_set j pid id
    in let childless : Childless parts = λ p. waiters-childless p (get j.sets id)
    in let who = waiter pid call
    in away-steps parts n j k pid call h (or_left _ _ (eq-same pid)) vj vk plain by_marks
    (λ a b. subst (λ e. SameEffects parts j k e (effect k who b n)) (sym (is j a))
    (subst (λ e. SameEffects parts j k (Some (on_set j id who)) e) (sym (is k b))
    (named-alike parts j k childless (get j.sets id) (get k.sets id) _ _ h.1.0
    (λ s e. carried-alike parts n j k childless h id (or_left _ _ (eq-same id)) s
    (waiters-marked parts (get j.sets id) s e (λ p u. or_right _ _ u)) who))))

-- The removal, at the set and the keys.

abbrev keys_and_set : Kernel → ℕ → ℕ → List Part
keys_and_set j pid id = MarksOf pid ∷ SetKeys ∷ SetAt id ∷ parts_of_waiters (get j.sets id)

-- the footprint's law at `semctl` with IPC_RMID
pub remove_set-law : (j k : Kernel) (pid n id : ℕ) → LawAt j k pid (calls.SemRmid id) n
remove_set-law j k pid n id vj vk h uj uk =
    let parts = keys_and_set j pid id
    in let childless : Childless parts = λ p. waiters-childless p (get j.sets id)
    in away-steps parts n j k pid (calls.SemRmid id) h (or_left _ _ (eq-same pid)) vj vk refl (λ a. refl)
    (λ a b. named-alike parts j k childless (get j.sets id) (get k.sets id) _ _ h.1.1.0
    (λ s e. removed-alike parts n j k childless h id (or_left _ _ (eq-same id)) s
    (waiters-marked parts (get j.sets id) s e (λ p u. or_right _ _ u)) h.1.0 (λ key. refl) vj vk))

-- A get, at the caller or at the keys.

-- with the size of the set that the key leads to, if there is one
abbrev keyed_parts : ℕ → ℕ → Option ℕ → List Part
keyed_parts pid n bound = MarksOf pid ∷ SetKeys ∷ SetAt n ∷ size_parts bound

get_bound-law : (j k : Kernel) (pid n key count : ℕ) (create excl : Bool) (bound : Option ℕ) → IsValid j → IsValid k
    → get j.set_keys key ≡ bound → AgreeOn (keyed_parts pid n bound) j k
    → is_used j.used_sets n ≡ false → is_used k.used_sets n ≡ false
    → AlikeSteps (keyed_parts pid n bound) j k (transition j pid (calls.SemGet (Some key) count create excl) n)
    (transition k pid (calls.SemGet (Some key) count create excl) n)
get_bound-law j k pid n key count create excl None vj vk e h uj uk =
    let parts = keyed_parts pid n None
    in away-steps parts n j k pid (calls.SemGet (Some key) count create excl) h (or_left _ _ (eq-same pid)) vj vk refl
    (λ a. refl)
    (λ a b. subst (λ o. SameEffects parts j k (get_set_at j key count create excl n o)
    (get_set_at k key count create excl n (get k.set_keys key))) (sym e)
    (subst (λ o. SameEffects parts j k (get_set_at j key count create excl n None)
    (get_set_at k key count create excl n o)) (sym e ∙ h.1.0 key)
    (unbound-alike parts n j k (λ p. refl) key count create excl refl (or_left _ _ (eq-same n)) uj uk)))
get_bound-law j k pid n key count create excl (Some id) vj vk e h uj uk =
    let parts = keyed_parts pid n (Some id)
    in away-steps parts n j k pid (calls.SemGet (Some key) count create excl) h (or_left _ _ (eq-same pid)) vj vk refl
    (λ a. refl)
    (λ a b. subst (λ o. SameEffects parts j k (get_set_at j key count create excl n o)
    (get_set_at k key count create excl n (get k.set_keys key))) (sym e)
    (subst (λ o. SameEffects parts j k (get_set_at j key count create excl n (Some id))
    (get_set_at k key count create excl n o)) (sym e ∙ h.1.0 key)
    (bound-if parts n j k (λ p. refl) id count (create && excl) h.1.1.1.0)))

-- the footprint's law at `semget`
pub get_set-law : (j k : Kernel) (pid n : ℕ) (key : Option ℕ) (count : ℕ) (create excl : Bool)
    → LawAt j k pid (calls.SemGet key count create excl) n
get_set-law j k pid n None count create excl vj vk h uj uk =
    let parts = MarksOf pid ∷ Whole pid ∷ SetAt n ∷ []
    in whole-steps parts n j k pid (calls.SemGet None count create excl) h (or_left _ _ (eq-same pid)) vj vk refl h.1.0
    (λ a x. new-alike parts n j k (λ p. refl) j.set_keys k.set_keys (new_set count)
    (changes-none (has_set_keys parts) j.set_keys k.set_keys)
    (or_left _ _ (eq-same n)) uj uk)
get_set-law j k pid n (Some key) count create excl vj vk h uj uk =
    get_bound-law j k pid n key count create excl (get j.set_keys key) vj vk refl h uj uk
