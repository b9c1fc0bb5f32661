-- The leader removes a queue or a set that it holds, whoever asked for it: which calls do that, and what its keys are
-- afterwards.
use Rattle.std.proofs.Common.{◌≡◌, ℕ, Bool, true, false, Option, Some, None, refl, ap, sym, subst, ◌∙◌}
use Rattle.std.proofs.lemmas.Bool.{false≢true}
use Rattle.pico_base.specs.declared.call.Call.{Call}
use Rattle.pico_base.specs.declared.call.Call.TheVariants as calls
use Rattle.pico_base.specs.declared.call.Home.{Home}
use Rattle.pico_base.specs.declared.call.Home.TheVariants as homes
use Rattle.pico_base.specs.declared.numbers.Name.{Name}
use Rattle.pico_base.specs.declared.numbers.Name.TheVariants.{Proc, Msg, Sem}
use Rattle.pico_base.specs.declared.signal.SigArg.TheVariants.{Zero, Is, Bad}
use Rattle.pico_base.specs.Home.{home_of, home_of_get}
use Rattle.number_maps.specs.Maps.{get}
use Rattle.number_maps.specs.Rising.{IsRising}
use Rattle.kernel_model.specs.Kernel.{Kernel}
use Rattle.kernel_model.specs.Queue.{Queue}
use Rattle.kernel_model.specs.SemaphoreSet.{SemaphoreSet}
use Rattle.kernel_model.specs.Valid.{IsValid}
use Rattle.waiting_model.specs.declared.callers.Waiting.{Waiting}
use Rattle.entry_laws.specs.Entering.{HasKeys, removed_queue, removed_set, unless_removed, without_keys_of}
use Rattle.entry_laws.proofs.Keys.{keys-kept, keys-unbound}
use Rattle.entry_laws.proofs.Served.{absent-other}
use Rattle.node_model.specs.Awaiting.{on_whole}
use Rattle.node_model.specs.Bodies.{AQueue, ASet, Body, Ended, Gone, Living, Removed, bare, body_in, queue_body, set_body}
use Rattle.node_model.specs.Carrying.{is_removal}
use Rattle.world_model.specs.Keys.{without_key}
use Rattle.world_model.specs.Node.{Leader}
use Rattle.world_model.specs.Routes.{keys_after, was_removed}
use Rattle.world_laws.specs.Ranges.{KeysHold}
use Rattle.route_laws.proofs.keys.NumberKinds.{kill-is, withdrawal-is}
use Rattle.route_laws.proofs.served.Lines.{KeysFollow}

-- ---- which calls these are

-- the call removes the queue, or the set, of this name
pub data Removes (call : Call) (name : Name) : Type 0 where
  RemovesQueue : (id : ℕ) → call ≡ calls.MsgRmid id → name ≡ Msg id → Removes call name
  RemovesSet : (id : ℕ) → call ≡ calls.SemRmid id → name ≡ Sem id → Removes call name

abbrev removed_in : Home → Option Name
removed_in (homes.Removal name) = Some name
removed_in home = None

not-removed : (name : Name) → None ≡ Some name → ⊥
not-removed name h = cc

name-is : (a c : Name) → Some a ≡ Some c → c ≡ a
name-is a c h = cc

get-not : (key : Option ℕ) → removed_in (home_of_get key) ≡ None
get-not None = refl
get-not (Some key) = refl

by-home : (pid : ℕ) (call : Call) (name : Name) → removed_in (home_of pid call) ≡ Some name → Removes call name
by-home pid (calls.MsgRmid id) name h = RemovesQueue id refl (name-is (Msg id) name h)
by-home pid (calls.SemRmid id) name h = RemovesSet id refl (name-is (Sem id) name h)
by-home pid (calls.MsgGet key create excl) name h = absurd (not-removed name (sym (get-not key) ∙ h))
by-home pid (calls.SemGet key count create excl) name h = absurd (not-removed name (sym (get-not key) ∙ h))
by-home pid (calls.Kill other Bad) name h = absurd (not-removed name h)
by-home pid (calls.Kill other Zero) name h =
    absurd (not-removed name (sym (kill-is removed_in None pid other refl refl) ∙ h))
by-home pid (calls.Kill other (Is sig)) name h =
    absurd (not-removed name (sym (kill-is removed_in None pid other refl refl) ∙ h))
by-home pid (calls.Withdraw place) name h =
    absurd (not-removed name (sym (withdrawal-is removed_in None pid place refl (λ other. refl)) ∙ h))
by-home pid call name h = absurd (not-removed name h)

-- a removal is of a queue or of a set
pub removal : (pid : ℕ) (call : Call) (name : Name) → home_of pid call ≡ homes.Removal name → Removes call name
removal pid call name h = by-home pid call name (ap removed_in h)

-- it is a removal
pub is-removal : (call : Call) (name : Name) → Removes call name → is_removal call ≡ true
is-removal call name (RemovesQueue id e is) = ap is_removal e
is-removal call name (RemovesSet id e is) = ap is_removal e

replies-by : (name : Name) (body : Body) (caller ticket pid : ℕ) (call : Call) → Removes call name
    → (let d = on_whole name body (record { caller = caller; ticket = ticket; pid = pid; call = call }) in d.own) ≡ None
    → ⊥
replies-by name body caller ticket pid call (RemovesQueue id e is) none =
    queue body
    (subst (λ m. (let d = on_whole m body (record {
      caller = caller;
      ticket = ticket;
      pid = pid;
      call = calls.MsgRmid
          id;
    })
    in d.own) ≡ None) is
    (subst (λ c. (let d = on_whole name body (record { caller = caller; ticket = ticket; pid = pid; call = c })
    in d.own) ≡ None) e none))
  where
    queue : (v : Body)
        → (let d = on_whole (Msg id) v (record { caller = caller; ticket = ticket; pid = pid; call = calls.MsgRmid id })
        in d.own) ≡ None → ⊥
    queue (AQueue q) h = cc
    queue (ASet s) h = cc
    queue (Living row) h = cc
    queue (Ended ending) h = cc
    queue Gone h = cc
    queue Removed h = cc
replies-by name body caller ticket pid call (RemovesSet id e is) none =
    set body
    (subst (λ m. (let d = on_whole m body (record {
      caller = caller;
      ticket = ticket;
      pid = pid;
      call = calls.SemRmid
          id;
    })
    in d.own) ≡ None) is
    (subst (λ c. (let d = on_whole name body (record { caller = caller; ticket = ticket; pid = pid; call = c })
    in d.own) ≡ None) e none))
  where
    set : (v : Body)
        → (let d = on_whole (Sem id) v (record { caller = caller; ticket = ticket; pid = pid; call = calls.SemRmid id })
        in d.own) ≡ None → ⊥
    set (AQueue q) h = cc
    set (ASet s) h = cc
    set (Living row) h = cc
    set (Ended ending) h = cc
    set Gone h = cc
    set Removed h = cc

-- so it never waits
pub removal-replies : (name : Name) (body : Body) (who : Waiting) → Removes who.call name
    → (let d = on_whole name body who in d.own) ≡ None → ⊥
removal-replies name body who removes none =
    replies-by name body who.caller who.ticket who.pid who.call removes none

-- ---- the keys

-- the leader's directory is the same once a name is removed
pub same-directory-after : (refused : Bool) (l : Leader) (name : Name)
    → (keys_after refused l name).directory ≡ l.directory
same-directory-after true l name = refl
same-directory-after false l (Proc pid) = refl
same-directory-after false l (Msg id) = refl
same-directory-after false l (Sem id) = refl

-- its tables are those without the keys of what the call removes
unbound-tables : (l : Leader) (k : Kernel) (call : Call) (name : Name) → Removes call name
    → HasKeys (without_keys_of (removed_queue call) l.queue_keys) (without_keys_of (removed_set call) l.set_keys) k
    → HasKeys (without_key l name).queue_keys (without_key l name).set_keys k
unbound-tables l k call name (RemovesQueue id e is) h =
    subst (λ m. HasKeys (without_key l m).queue_keys (without_key l m).set_keys k) (sym is)
    (subst (λ c. HasKeys (without_keys_of (removed_queue c) l.queue_keys) (without_keys_of (removed_set c) l.set_keys)
    k) e h)
unbound-tables l k call name (RemovesSet id e is) h =
    subst (λ m. HasKeys (without_key l m).queue_keys (without_key l m).set_keys k) (sym is)
    (subst (λ c. HasKeys (without_keys_of (removed_queue c) l.queue_keys) (without_keys_of (removed_set c) l.set_keys)
    k) e h)

no-queue : (o : Option Queue) → was_removed (Some (queue_body o)) ≡ true → o ≡ None
no-queue None h = refl
no-queue (Some queue) h = absurd (false≢true h)

no-set : (o : Option SemaphoreSet) → was_removed (Some (set_body o)) ≡ true → o ≡ None
no-set None h = refl
no-set (Some set) h = absurd (false≢true h)

removed-bare : (body : Body) → was_removed (Some body) ≡ true → was_removed (Some (bare body)) ≡ true
removed-bare Removed h = refl
removed-bare (AQueue q) h = absurd (false≢true h)
removed-bare (ASet s) h = absurd (false≢true h)
removed-bare (Living row) h = absurd (false≢true h)
removed-bare (Ended ending) h = absurd (false≢true h)
removed-bare Gone h = absurd (false≢true h)

-- no key led to what was removed already, so that the keys are as before
refused-keys : (l : Leader) (k : Kernel) (call : Call) (name : Name) → IsValid k → Removes call name
    → was_removed (Some (body_in k name)) ≡ true → KeysHold l k → KeysFollow call k l
refused-keys l k call name valid (RemovesQueue id e is) gone h = λ next queues sets sizes.
    (let none : get k.queues id ≡ None =
    no-queue (get k.queues id) (ap (λ m. was_removed (Some (body_in k m))) (sym is) ∙ gone)
    in let sets_are : (key : ℕ) → get next.set_keys key ≡ get k.set_keys key =
    λ key. sets key ∙ ap (λ (x : Call). unless_removed (removed_set x) (get k.set_keys key)) e
    in keys-kept l.queue_keys l.set_keys k next
    (record {
      queues = λ key.
          queues key ∙ ap (λ (x : Call). unless_removed (removed_queue x) (get k.queue_keys key)) e
          ∙ sym (absent-other k.queue_keys k.queues id key valid.queue_keys none);
      sets = sets_are;
      sizes = λ key other bound. sizes key other (sets_are key ∙ bound);
    }) h)
refused-keys l k call name valid (RemovesSet id e is) gone h = λ next queues sets sizes.
    (let none : get k.sets id ≡ None =
    no-set (get k.sets id) (ap (λ m. was_removed (Some (body_in k m))) (sym is) ∙ gone)
    in let sets_are : (key : ℕ) → get next.set_keys key ≡ get k.set_keys key =
    λ key.
    sets key ∙ ap (λ (x : Call). unless_removed (removed_set x) (get k.set_keys key)) e
    ∙ sym (absent-other k.set_keys k.sets id key valid.set_keys none)
    in keys-kept l.queue_keys l.set_keys k next
    (record {
      queues = λ key. queues key ∙ ap (λ (x : Call). unless_removed (removed_queue x) (get k.queue_keys key)) e;
      sets = sets_are;
      sizes = λ key other bound. sizes key other (sets_are key ∙ bound);
    }) h)

-- the leader's tables of keys are by rising number
pub record AreRising (l : Leader) : Type 0 where
  pub queues : IsRising l.queue_keys
  pub sets : IsRising l.set_keys

-- The leader's keys are the kernel's, whether the name was removed already or is removed by the call.
pub keys-removed : (l : Leader) (k : Kernel) (call : Call) (name : Name) (body : Body) → IsValid k → Removes call name
    → AreRising l → KeysHold l k → bare body ≡ body_in k name → (refused : Bool) → was_removed (Some body) ≡ refused
    → KeysFollow call k (keys_after refused l name)
keys-removed l k call name body valid removes rising h is true gone =
    refused-keys l k call name valid removes
    (ap (λ v. was_removed (Some v)) (sym is) ∙ removed-bare body gone) h
keys-removed l k call name body valid removes rising h is false there = λ next queues sets sizes.
    unbound-tables l next call name removes
    (keys-unbound l.queue_keys l.set_keys (removed_queue call) (removed_set call) k next rising.queues rising.sets h
    queues sets sizes)
