-- The law at the calls on semaphore sets.
use Rattle.std.proofs.Common.{◌≡◌, ℕ, Bool, true, false, not, ◌&&◌, ◌||◌, cond, List, [], ◌∷◌, Option, Some, None, Result, Ok, Err, refl, ap, sym, subst, ◌∙◌, nat_eq}
use Rattle.std.specs.Prelude.{nat_le, if◌then◌else◌}
use Rattle.std.specs.List.{list_any}
use Rattle.std.proofs.lemmas.Bool.{or_left}
use Rattle.pico_base.specs.declared.call.Call.{Call}
use Rattle.pico_base.specs.declared.call.Call.TheVariants as calls
use Rattle.pico_base.specs.declared.call.SemStep.{SemStep}
use Rattle.pico_base.specs.declared.reply.Errno.{Errno}
use Rattle.pico_base.specs.declared.reply.Errno.TheVariants.{Einval, Enoent, Eexist}
use Rattle.pico_base.specs.declared.reply.Reply.TheVariants.{Num, Fail, All}
use Rattle.number_maps.specs.Maps.{Numbered, get, put, without, is_used, used_with}
use Rattle.kernel_model.specs.Waiting.{may_wait}
use Rattle.kernel_model.specs.SemaphoreSet.{SemaphoreSet, new_set, values_of, op, value_at, last_at, waiting_at, set_value, set_all}
use Rattle.kernel_model.specs.Row.{Alive}
use Rattle.kernel_model.specs.Kernel.{Kernel}
use Rattle.kernel_model.specs.Effect.{reply_with, refuse, look_up, on_named}
use Rattle.kernel_model.specs.QueueCalls.{unbind}
use Rattle.kernel_model.specs.SetCalls.{new_set_of, set_size, find_set, get_set_at, change_set}
use Rattle.kernel_model.specs.Transition.{effect, transition, is_spent, may_make}
use Rattle.kernel_model.specs.Valid.{IsValid}
use Rattle.kernel_model.specs.Footprint.{Part, MayDo, Whole, SetAt, SetKeys, size_parts}
use Rattle.kernel_model.specs.FootprintLaw.{AgreeOn}
use Rattle.number_maps.proofs.Order.{eq-same}
use Rattle.footprint_laws.proofs.Keys.{unbound-same}
use Rattle.footprint_laws.proofs.Change.{Same, Changes, changes-none, changes-put, changes-without, has_set, has_set_keys, SameEffect, SameEffects}
use Rattle.footprint_laws.proofs.Effects.{Childless, fresh-alike, made-if, unchanged, looked-alike, named-alike, sets-changed}
use Rattle.footprint_laws.proofs.Stepped.{AlikeSteps}
use Rattle.footprint_laws.proofs.Steps.{whole-steps, away-steps}
use Rattle.footprint_laws.proofs.AtCall.{LawAt}

module _ (parts : List Part) (n : ℕ) (j k : Kernel) (childless : Childless parts) where
  changed-alike : (id : ℕ) (r : Result SemaphoreSet Errno) → has_set parts id ≡ true
      → SameEffect parts j k (change_set j id r) (change_set k id r)
  changed-alike id (Ok set) t =
      sets-changed parts j k childless (put j.sets id set)
      (put k.sets id set) j.set_keys k.set_keys j.used_sets k.used_sets (Num 0)
      (changes-put (has_set parts) j.sets k.sets j.sets k.sets id set t (changes-none (has_set parts) j.sets k.sets))
      (changes-none (has_set_keys parts) j.set_keys k.set_keys)
  changed-alike id (Err e) t = unchanged parts j k childless (Fail e)

  new-alike : (keys_j keys_k : Numbered ℕ) (r : Result SemaphoreSet Errno)
      → Changes (has_set_keys parts) j.set_keys k.set_keys keys_j keys_k → has_set parts n ≡ true
      → is_used j.used_sets n ≡ false → is_used k.used_sets n ≡ false
      → SameEffects parts j k (new_set_of j keys_j n r) (new_set_of k keys_k n r)
  new-alike keys_j keys_k (Err e) c t uj uk = unchanged parts j k childless (Fail e)
  new-alike keys_j keys_k (Ok set) c t uj uk =
      made-if parts j k _ _ _ _ (fresh-alike j.used_sets k.used_sets n uj uk)
      (sets-changed parts j k childless (put j.sets n set) (put k.sets n set) keys_j keys_k
      (used_with j.used_sets n) (used_with k.used_sets n) (Num n)
      (changes-put (has_set parts) j.sets k.sets j.sets k.sets n set t (changes-none (has_set parts) j.sets k.sets))
      c)

  found-if : (id : ℕ) (b c : Bool) → b ≡ c
      → SameEffect parts j k (cond b (reply_with j id) (refuse j Einval)) (cond c (reply_with k id) (refuse k Einval))
  found-if id true true e = unchanged parts j k childless (Num id)
  found-if id false false e = unchanged parts j k childless (Fail Einval)
  found-if id true false e = cc
  found-if id false true e = cc

  bound-if : (id count : ℕ) (b : Bool) → set_size j id ≡ set_size k id
      → SameEffect parts j k (if b then refuse j Eexist else find_set j id count)
      (if b then refuse k Eexist else find_set k id count)
  bound-if id count true e = unchanged parts j k childless (Fail Eexist)
  bound-if id count false e = found-if id _ _ (ap (λ m. nat_eq count 0 || nat_le count m) e)

  unbound-alike : (key count : ℕ) (create excl : Bool) → has_set_keys parts key ≡ true → has_set parts n ≡ true
      → is_used j.used_sets n ≡ false → is_used k.used_sets n ≡ false
      → SameEffects parts j k (get_set_at j key count create excl n None) (get_set_at k key count create excl n None)
  unbound-alike key count true excl s t uj uk =
      new-alike (put j.set_keys key n) (put k.set_keys key n) (new_set count)
      (changes-put (has_set_keys parts) j.set_keys k.set_keys j.set_keys k.set_keys key n s
      (changes-none (has_set_keys parts) j.set_keys k.set_keys))
      t uj uk
  unbound-alike key count false excl s t uj uk = unchanged parts j k childless (Fail Enoent)

-- At a set.

abbrev at_set : ℕ → ℕ → List Part
at_set pid id = MayDo pid ∷ SetAt id ∷ []

set-here : (pid id : ℕ) → has_set (at_set pid id) id ≡ true
set-here pid id = or_left _ false (eq-same id)

set-steps : (j k : Kernel) (pid : ℕ) (call : Call) (n id : ℕ) → IsValid j → IsValid k → AgreeOn (at_set pid id) j k
    → ((a b : Alive) → a.allowance ≡ b.allowance → may_make a call ≡ may_make b call)
    → ((a b : Alive) → SameEffects (at_set pid id) j k (effect j pid a call n) (effect k pid b call n))
    → AlikeSteps (at_set pid id) j k (transition j pid call n) (transition k pid call n)
set-steps j k pid call n id vj vk h m s =
    away-steps (at_set pid id) n j k pid call h refl (or_left _ _ (eq-same pid)) (λ p. refl) vj vk h.0 m s

-- a look at the set, and another set
look-alike : (j k : Kernel) (pid n id : ℕ) (look : SemaphoreSet → Result ℕ Errno) → AgreeOn (at_set pid id) j k
    → SameEffect (at_set pid id) j k (on_named j (get j.sets id) (λ s. look_up j (look s)))
    (on_named k (get k.sets id) (λ s. look_up k (look s)))
look-alike j k pid n id look h =
    named-alike (at_set pid id) j k (λ p. refl) (get j.sets id) (get k.sets id) _ _ h.1.0
    (λ s. looked-alike (at_set pid id) j k (λ p. refl) (look s))

set-alike : (j k : Kernel) (pid n id : ℕ) (f : SemaphoreSet → Result SemaphoreSet Errno) → AgreeOn (at_set pid id) j k
    → SameEffect (at_set pid id) j k (on_named j (get j.sets id) (λ s. change_set j id (f s)))
    (on_named k (get k.sets id) (λ s. change_set k id (f s)))
set-alike j k pid n id f h =
    named-alike (at_set pid id) j k (λ p. refl) (get j.sets id) (get k.sets id) _ _ h.1.0
    (λ s. changed-alike (at_set pid id) n j k (λ p. refl) id (f s) (set-here pid id))

operated-if : (j k : Kernel) (pid n id : ℕ) (steps : List SemStep) (b : Bool) → AgreeOn (at_set pid id) j k
    → SameEffects (at_set pid id) j k
    (cond b None (Some (on_named j (get j.sets id) (λ set. change_set j id (op set pid steps)))))
    (cond b None (Some (on_named k (get k.sets id) (λ set. change_set k id (op set pid steps)))))
operated-if j k pid n id steps true h = tt
operated-if j k pid n id steps false h = set-alike j k pid n id (λ set. op set pid steps) h

-- the footprint's law at `semop`
pub operate-law : (j k : Kernel) (pid n id : ℕ) (steps : List SemStep) → LawAt j k pid (calls.SemOp id steps) n
operate-law j k pid n id steps vj vk h uj uk =
    set-steps j k pid (calls.SemOp id steps) n id vj vk h (λ a b e. ap (λ x. not (is_spent x)) e)
    (λ a b. operated-if j k pid n id steps (list_any may_wait steps) h)

-- the footprint's law at `semctl` with GETVAL
pub get_value-law : (j k : Kernel) (pid n id num : ℕ) → LawAt j k pid (calls.SemGetVal id num) n
get_value-law j k pid n id num vj vk h uj uk =
    set-steps j k pid (calls.SemGetVal id num) n id vj vk h (λ a b e. ap (λ x. not (is_spent x)) e)
    (λ a b. look-alike j k pid n id (λ s. value_at s num) h)

-- the footprint's law at `semctl` with GETPID
pub get_last-law : (j k : Kernel) (pid n id num : ℕ) → LawAt j k pid (calls.SemGetPid id num) n
get_last-law j k pid n id num vj vk h uj uk =
    set-steps j k pid (calls.SemGetPid id num) n id vj vk h (λ a b e. ap (λ x. not (is_spent x)) e)
    (λ a b. look-alike j k pid n id (λ s. last_at s num) h)

-- the footprint's law at `semctl` with GETNCNT
pub get_ncnt-law : (j k : Kernel) (pid n id num : ℕ) → LawAt j k pid (calls.SemGetNcnt id num) n
get_ncnt-law j k pid n id num vj vk h uj uk =
    set-steps j k pid (calls.SemGetNcnt id num) n id vj vk h (λ a b e. ap (λ x. not (is_spent x)) e)
    (λ a b. look-alike j k pid n id (λ s. waiting_at s num) h)

-- the footprint's law at `semctl` with GETZCNT
pub get_zcnt-law : (j k : Kernel) (pid n id num : ℕ) → LawAt j k pid (calls.SemGetZcnt id num) n
get_zcnt-law j k pid n id num vj vk h uj uk =
    set-steps j k pid (calls.SemGetZcnt id num) n id vj vk h (λ a b e. ap (λ x. not (is_spent x)) e)
    (λ a b. look-alike j k pid n id (λ s. waiting_at s num) h)

-- the footprint's law at `semctl` with SETVAL
pub set_value-law : (j k : Kernel) (pid n id num value : ℕ) → LawAt j k pid (calls.SemSetVal id num value) n
set_value-law j k pid n id num value vj vk h uj uk =
    set-steps j k pid (calls.SemSetVal id num value) n id vj vk h (λ a b e. ap (λ x. not (is_spent x)) e)
    (λ a b. set-alike j k pid n id (λ s. set_value s num value) h)

-- the footprint's law at `semctl` with GETALL
pub get_all-law : (j k : Kernel) (pid n id : ℕ) → LawAt j k pid (calls.SemGetAll id) n
get_all-law j k pid n id vj vk h uj uk =
    set-steps j k pid (calls.SemGetAll id) n id vj vk h (λ a b e. ap (λ x. not (is_spent x)) e)
    (λ a b. named-alike (at_set pid id) j k (λ p. refl) (get j.sets id) (get k.sets id) _ _ h.1.0
    (λ s. unchanged (at_set pid id) j k (λ p. refl) (All (values_of s.semaphores))))

-- the footprint's law at `semctl` with SETALL
pub set_all-law : (j k : Kernel) (pid n id : ℕ) (values : List ℕ) → LawAt j k pid (calls.SemSetAll id values) n
set_all-law j k pid n id values vj vk h uj uk =
    set-steps j k pid (calls.SemSetAll id values) n id vj vk h (λ a b e. ap (λ x. not (is_spent x)) e)
    (λ a b. set-alike j k pid n id (λ s. set_all s values) h)

-- The removal, at the set and the keys.

abbrev set_and_keys : ℕ → ℕ → List Part
set_and_keys pid id = MayDo pid ∷ SetAt id ∷ SetKeys ∷ []

-- the footprint's law at `semctl` with IPC_RMID
pub remove_set-law : (j k : Kernel) (pid n id : ℕ) → LawAt j k pid (calls.SemRmid id) n
remove_set-law j k pid n id vj vk h uj uk =
    let parts = set_and_keys pid id
    in away-steps parts n j k pid (calls.SemRmid id) h refl (or_left _ _ (eq-same pid)) (λ p. refl) vj vk h.0
    (λ a b e. ap (λ x. not (is_spent x)) e)
    (λ a b. named-alike parts j k (λ p. refl) (get j.sets id) (get k.sets id) _ _ h.1.0
    (λ q. sets-changed parts j k (λ p. refl) (without j.sets id) (without k.sets id) (unbind j.set_keys id)
    (unbind k.set_keys id)
    j.used_sets k.used_sets (Num 0)
    (changes-without (has_set parts) j.sets k.sets j.sets k.sets id (or_left _ _ (eq-same id))
    (changes-none (has_set parts) j.sets k.sets))
    (λ key. Same refl (unbound-same j.set_keys k.set_keys id key vj.set_keys.ordered vk.set_keys.ordered (h.1.1.0 key)))
    ))

-- A get, at the caller or at the keys.

-- with the size of the set that the key leads to, if there is one
abbrev keyed_parts : ℕ → ℕ → Option ℕ → List Part
keyed_parts pid n bound = MayDo pid ∷ SetKeys ∷ SetAt n ∷ size_parts bound

get_bound-law : (j k : Kernel) (pid n key count : ℕ) (create excl : Bool) (bound : Option ℕ) → IsValid j → IsValid k
    → get j.set_keys key ≡ bound → AgreeOn (keyed_parts pid n bound) j k
    → is_used j.used_sets n ≡ false → is_used k.used_sets n ≡ false
    → AlikeSteps (keyed_parts pid n bound) j k (transition j pid (calls.SemGet (Some key) count create excl) n)
    (transition k pid (calls.SemGet (Some key) count create excl) n)
get_bound-law j k pid n key count create excl None vj vk e h uj uk =
    let parts = keyed_parts pid n None
    in away-steps parts n j k pid (calls.SemGet (Some key) count create excl) h refl (or_left _ _ (eq-same pid))
    (λ p. refl) vj vk h.0 (λ a b e. ap (λ x. not (is_spent x)) e)
    (λ a b. subst (λ o. SameEffects parts j k (get_set_at j key count create excl n o)
    (get_set_at k key count create excl n (get k.set_keys key))) (sym e)
    (subst (λ o. SameEffects parts j k (get_set_at j key count create excl n None)
    (get_set_at k key count create excl n o)) (sym e ∙ h.1.0 key)
    (unbound-alike parts n j k (λ p. refl) key count create excl refl (or_left _ _ (eq-same n)) uj uk)))
get_bound-law j k pid n key count create excl (Some id) vj vk e h uj uk =
    let parts = keyed_parts pid n (Some id)
    in away-steps parts n j k pid (calls.SemGet (Some key) count create excl) h refl (or_left _ _ (eq-same pid))
    (λ p. refl) vj vk h.0 (λ a b e. ap (λ x. not (is_spent x)) e)
    (λ a b. subst (λ o. SameEffects parts j k (get_set_at j key count create excl n o)
    (get_set_at k key count create excl n (get k.set_keys key))) (sym e)
    (subst (λ o. SameEffects parts j k (get_set_at j key count create excl n (Some id))
    (get_set_at k key count create excl n o)) (sym e ∙ h.1.0 key)
    (bound-if parts n j k (λ p. refl) id count (create && excl) h.1.1.1.0)))

-- the footprint's law at `semget`
pub get_set-law : (j k : Kernel) (pid n : ℕ) (key : Option ℕ) (count : ℕ) (create excl : Bool)
    → LawAt j k pid (calls.SemGet key count create excl) n
get_set-law j k pid n None count create excl vj vk h uj uk =
    let parts = MayDo pid ∷ Whole pid ∷ SetAt n ∷ []
    in whole-steps parts n j k pid (calls.SemGet None count create excl) h (or_left _ _ (eq-same pid)) h.1.0
    (λ a x y. new-alike parts n j k (λ p. refl) j.set_keys k.set_keys (new_set count)
    (changes-none (has_set_keys parts) j.set_keys k.set_keys)
    (or_left _ _ (eq-same n)) uj uk)
get_set-law j k pid n (Some key) count create excl vj vk h uj uk =
    get_bound-law j k pid n key count create excl (get j.set_keys key) vj vk refl h uj uk
