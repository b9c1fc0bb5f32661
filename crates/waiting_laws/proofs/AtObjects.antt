-- A call on a queue or a set, by its body with nodes and tickets: that there is such a step, and what it leaves.
use Rattle.std.proofs.Common.{◌≡◌, ◌≢◌, ◌∙◌, ℕ, Bool, true, false, List, [], ◌∷◌, map, Option, Some, None, refl, ap, sym, subst, inl, inr}
use Rattle.std.specs.Prelude.{◌⊎◌, if◌then◌else◌, ◌==◌}
use Rattle.std.proofs.lemmas.Bool.{true≢false}
use Rattle.pico_base.specs.declared.call.Call.{Call}
use Rattle.pico_base.specs.declared.call.Call.TheVariants as calls
use Rattle.pico_base.specs.declared.call.Home.{Home}
use Rattle.pico_base.specs.declared.call.Home.TheVariants as homes
use Rattle.pico_base.specs.Home.{home_of, home_of_get}
use Rattle.pico_base.specs.declared.numbers.Name.{Name}
use Rattle.pico_base.specs.declared.numbers.Name.TheVariants.{Proc, Msg, Sem}
use Rattle.pico_base.specs.declared.reply.Errno.TheVariants.{Eidrm, Einval}
use Rattle.pico_base.specs.declared.reply.Outcome.{Outcome}
use Rattle.pico_base.specs.declared.reply.Reply.{Reply}
use Rattle.pico_base.specs.declared.reply.Reply.TheVariants as replies
use Rattle.pico_base.specs.declared.signal.SigArg.TheVariants.{Zero, Is, Bad}
use Rattle.number_maps.specs.Maps.{Numbered, get}
use Rattle.number_maps.proofs.LookUps.{get-put-same, get-put-other, get-without-same, get-without-other}
use Rattle.kernel_model.specs.Effect.{reply_alone}
use Rattle.kernel_model.specs.Queue.{Queue}
use Rattle.kernel_model.specs.SemaphoreSet.{SemaphoreSet}
use Rattle.kernel_laws.proofs.Plain.{from_some, not_some}
use Rattle.waiting_model.specs.declared.callers.Waiting.{Waiting}
use Rattle.waiting_model.specs.declared.callers.Wake.{Wake}
use Rattle.waiting_model.specs.Calls.{is_withdrawal, withdrawn_from}
use Rattle.waiting_model.specs.Waiters.{Awaited, Carried, erased, erased_wake, erased_waiter, waiter, wake}
use Rattle.waiting_model.specs.Queue.{carry_out_on_queue}
use Rattle.waiting_model.specs.SemaphoreSet.{carry_out_on_set}
use Rattle.waiting_model.specs.Marks.{Alive}
use Rattle.waiting_model.specs.Kernel.{Kernel, living_at}
use Rattle.waiting_model.specs.Effect.{Effect, on_named, outcome_of_effect, refuse, woken_pair}
use Rattle.waiting_model.specs.QueueCalls.{on_queue, queue_effect, remove_queue}
use Rattle.waiting_model.specs.SetCalls.{on_set, remove_set, set_effect}
use Rattle.waiting_model.specs.Transition.{effect, finish_call, may_make, successor, transition}
use Rattle.waiting_laws.specs.Carried.{SameErased}
use Rattle.waiting_laws.specs.Removals.{all_removed, outcome_of_removal}
use Rattle.waiting_laws.proofs.Carrying.{nodes-dont-matter}
use Rattle.waiting_laws.proofs.Rows.{whole-finished}
use Rattle.waiting_laws.proofs.Steps.{step-is}
use Rattle.waiting_laws.proofs.Tries.{at_queue, at_set}

abbrev pub outcome_of_carried : {T : Type 0} → Carried T → Outcome
outcome_of_carried c = record { own = c.own; woken = map woken_pair c.wakes }

-- it has this queue at the number, and all others and all sets are as before
pub record HasOtherQueue (k next : Kernel) (id : ℕ) (o : Option (Awaited Queue)) : Type 0 where
  pub here : get next.queues id ≡ o
  pub others : (i : ℕ) → i ≢ id → get next.queues i ≡ get k.queues i
  pub sets : (i : ℕ) → get next.sets i ≡ get k.sets i

-- the same for a set
pub record HasOtherSet (k next : Kernel) (id : ℕ) (o : Option (Awaited SemaphoreSet)) : Type 0 where
  pub here : get next.sets id ≡ o
  pub others : (i : ℕ) → i ≢ id → get next.sets i ≡ get k.sets i
  pub queues : (i : ℕ) → get next.queues i ≡ get k.queues i

-- the call has this outcome, and leaves this queue
pub record DoesAtQueue (k : Kernel) (pid : ℕ) (call : Call) (id : ℕ) (outcome : Outcome)
    (o : Option (Awaited Queue)) : Type 0 where
  pub next : Kernel
  pub step : (n : ℕ) → transition k pid call n ≡ Some (successor next outcome)
  pub leaves : HasOtherQueue k next id o

-- or this set
pub record DoesAtSet (k : Kernel) (pid : ℕ) (call : Call) (id : ℕ) (outcome : Outcome)
    (o : Option (Awaited SemaphoreSet)) : Type 0 where
  pub next : Kernel
  pub step : (n : ℕ) → transition k pid call n ≡ Some (successor next outcome)
  pub leaves : HasOtherSet k next id o

-- ---- which calls these are

-- the call is at this name, also as a removal
abbrev pub is_at : Name → Home → Type 0
is_at name (homes.At other) = name ≡ other
is_at name (homes.Removal other) = name ≡ other
is_at name home = ⊥

same-queue : (i id : ℕ) → Msg id ≡ Msg i → Some i ≡ Some id
same-queue i id h = ap Some (let same : i ≡ id = cc in same)

same-set : (i id : ℕ) → Sem id ≡ Sem i → Some i ≡ Some id
same-set i id h = ap Some (let same : i ≡ id = cc in same)

process-isnt : {B : Type 0} (b : Bool) (pid : ℕ) (name : Name) → (Proc pid ≡ name → B)
    → is_at name (if b then homes.Own else homes.At (Proc pid)) → B
process-isnt true pid name f h = absurd h
process-isnt false pid name f h = f (sym h)

isnt-msg : {B : Type 0} (pid id : ℕ) → Proc pid ≡ Msg id → B
isnt-msg pid id h = cc

isnt-sem : {B : Type 0} (pid id : ℕ) → Proc pid ≡ Sem id → B
isnt-sem pid id h = cc

get-isnt : {B : Type 0} (key : Option ℕ) (name : Name) → is_at name (home_of_get key) → B
get-isnt None name h = absurd h
get-isnt (Some key) name h = absurd h

removes-queue : (i id : ℕ) → Msg id ≡ Msg i → i ≡ id
removes-queue i id h = cc

removes-set : (i id : ℕ) → Sem id ≡ Sem i → i ≡ id
removes-set i id h = cc

-- the call is on this queue, and no removal
pub named-queue : (pid id : ℕ) (call : Call) → is_withdrawal call ≡ false → is_at (Msg id) (home_of pid call)
    → (at_queue call ≡ Some id) ⊎ (call ≡ calls.MsgRmid id)
named-queue pid id (calls.MsgSnd i class text nowait) plain h = inl (same-queue i id h)
named-queue pid id (calls.MsgRcv i class size noerror nowait) plain h = inl (same-queue i id h)
named-queue pid id (calls.MsgStat i) plain h = inl (same-queue i id h)
named-queue pid id (calls.MsgSet i qbytes) plain h = inl (same-queue i id h)
named-queue pid id (calls.MsgRmid i) plain h = inr (ap (λ n. calls.MsgRmid n) (removes-queue i id h))
named-queue pid id (calls.Kill target Bad) plain h = absurd h
named-queue pid id (calls.Kill target Zero) plain h =
    process-isnt (target == pid) target (Msg id) (isnt-msg target id) h
named-queue pid id (calls.Kill target (Is sig)) plain h =
    process-isnt (target == pid) target (Msg id) (isnt-msg target id) h
named-queue pid id (calls.MsgGet key create excl) plain h = get-isnt key (Msg id) h
named-queue pid id (calls.SemGet key count create excl) plain h = get-isnt key (Msg id) h
named-queue pid id (calls.Withdraw name) plain h = absurd (true≢false plain)
named-queue pid id (calls.SemOp i steps) plain h = absurd (cc)
named-queue pid id (calls.SemGetVal i num) plain h = absurd (cc)
named-queue pid id (calls.SemGetPid i num) plain h = absurd (cc)
named-queue pid id (calls.SemGetNcnt i num) plain h = absurd (cc)
named-queue pid id (calls.SemGetZcnt i num) plain h = absurd (cc)
named-queue pid id (calls.SemSetVal i num value) plain h = absurd (cc)
named-queue pid id (calls.SemGetAll i) plain h = absurd (cc)
named-queue pid id (calls.SemSetAll i values) plain h = absurd (cc)
named-queue pid id (calls.SemRmid i) plain h = absurd (cc)
named-queue pid id call plain h = absurd h

-- the call is on this set, and no removal
pub named-set : (pid id : ℕ) (call : Call) → is_withdrawal call ≡ false → is_at (Sem id) (home_of pid call)
    → (at_set call ≡ Some id) ⊎ (call ≡ calls.SemRmid id)
named-set pid id (calls.SemOp i steps) plain h = inl (same-set i id h)
named-set pid id (calls.SemGetVal i num) plain h = inl (same-set i id h)
named-set pid id (calls.SemGetPid i num) plain h = inl (same-set i id h)
named-set pid id (calls.SemGetNcnt i num) plain h = inl (same-set i id h)
named-set pid id (calls.SemGetZcnt i num) plain h = inl (same-set i id h)
named-set pid id (calls.SemSetVal i num value) plain h = inl (same-set i id h)
named-set pid id (calls.SemGetAll i) plain h = inl (same-set i id h)
named-set pid id (calls.SemSetAll i values) plain h = inl (same-set i id h)
named-set pid id (calls.SemRmid i) plain h = inr (ap (λ n. calls.SemRmid n) (removes-set i id h))
named-set pid id (calls.Kill target Bad) plain h = absurd h
named-set pid id (calls.Kill target Zero) plain h =
    process-isnt (target == pid) target (Sem id) (isnt-sem target id) h
named-set pid id (calls.Kill target (Is sig)) plain h =
    process-isnt (target == pid) target (Sem id) (isnt-sem target id) h
named-set pid id (calls.MsgGet key create excl) plain h = get-isnt key (Sem id) h
named-set pid id (calls.SemGet key count create excl) plain h = get-isnt key (Sem id) h
named-set pid id (calls.Withdraw name) plain h = absurd (true≢false plain)
named-set pid id (calls.MsgSnd i class text nowait) plain h = absurd (cc)
named-set pid id (calls.MsgRcv i class size noerror nowait) plain h = absurd (cc)
named-set pid id (calls.MsgStat i) plain h = absurd (cc)
named-set pid id (calls.MsgSet i qbytes) plain h = absurd (cc)
named-set pid id (calls.MsgRmid i) plain h = absurd (cc)
named-set pid id call plain h = absurd h

-- ---- their effects

queue-effect : (k : Kernel) (pid : ℕ) (a : Alive) (call : Call) (n id : ℕ) → at_queue call ≡ Some id
    → effect k (waiter pid call) a n ≡ Some (on_queue k id (waiter pid call))
queue-effect k pid a (calls.MsgSnd i class text nowait) n id named =
    ap (λ (j : ℕ). (let e : Option Effect = Some (on_queue k j (waiter pid (calls.MsgSnd i class text nowait))) in e))
    (from_some i id named)
queue-effect k pid a (calls.MsgRcv i class size noerror nowait) n id named =
    ap (λ (j : ℕ). (let e : Option Effect =
    Some (on_queue k j (waiter pid (calls.MsgRcv i class size noerror nowait))) in e)) (from_some i id named)
queue-effect k pid a (calls.MsgStat i) n id named =
    ap (λ (j : ℕ). (let e : Option Effect = Some (on_queue k j (waiter pid (calls.MsgStat i))) in e))
    (from_some i id named)
queue-effect k pid a (calls.MsgSet i qbytes) n id named =
    ap (λ (j : ℕ). (let e : Option Effect = Some (on_queue k j (waiter pid (calls.MsgSet i qbytes))) in e))
    (from_some i id named)
queue-effect k pid a call n id named = not_some id named

queue-stays : (call : Call) (id : ℕ) → at_queue call ≡ Some id → withdrawn_from call ≡ None
queue-stays (calls.Withdraw name) id named = not_some id named
queue-stays call id named = refl

set-effect : (k : Kernel) (pid : ℕ) (a : Alive) (call : Call) (n id : ℕ) → at_set call ≡ Some id
    → effect k (waiter pid call) a n ≡ Some (on_set k id (waiter pid call))
set-effect k pid a (calls.SemOp i steps) n id named =
    ap (λ (j : ℕ). (let e : Option Effect = Some (on_set k j (waiter pid (calls.SemOp i steps))) in e))
    (from_some i id named)
set-effect k pid a (calls.SemGetVal i num) n id named =
    ap (λ (j : ℕ). (let e : Option Effect = Some (on_set k j (waiter pid (calls.SemGetVal i num))) in e))
    (from_some i id named)
set-effect k pid a (calls.SemGetPid i num) n id named =
    ap (λ (j : ℕ). (let e : Option Effect = Some (on_set k j (waiter pid (calls.SemGetPid i num))) in e))
    (from_some i id named)
set-effect k pid a (calls.SemGetNcnt i num) n id named =
    ap (λ (j : ℕ). (let e : Option Effect = Some (on_set k j (waiter pid (calls.SemGetNcnt i num))) in e))
    (from_some i id named)
set-effect k pid a (calls.SemGetZcnt i num) n id named =
    ap (λ (j : ℕ). (let e : Option Effect = Some (on_set k j (waiter pid (calls.SemGetZcnt i num))) in e))
    (from_some i id named)
set-effect k pid a (calls.SemSetVal i num value) n id named =
    ap (λ (j : ℕ). (let e : Option Effect = Some (on_set k j (waiter pid (calls.SemSetVal i num value))) in e))
    (from_some i id named)
set-effect k pid a (calls.SemGetAll i) n id named =
    ap (λ (j : ℕ). (let e : Option Effect = Some (on_set k j (waiter pid (calls.SemGetAll i))) in e))
    (from_some i id named)
set-effect k pid a (calls.SemSetAll i values) n id named =
    ap (λ (j : ℕ). (let e : Option Effect = Some (on_set k j (waiter pid (calls.SemSetAll i values))) in e))
    (from_some i id named)
set-effect k pid a call n id named = not_some id named

set-stays : (call : Call) (id : ℕ) → at_set call ≡ Some id → withdrawn_from call ≡ None
set-stays (calls.Withdraw name) id named = not_some id named
set-stays call id named = refl

-- nodes and tickets are set aside in a history
pairs-erased : (wakes : List Wake) → map woken_pair (map erased_wake wakes) ≡ map woken_pair wakes
pairs-erased [] = refl
pairs-erased (w ∷ wakes) = ap (λ (xs : List (ℕ × Reply)). woken_pair w ∷ xs) (pairs-erased wakes)

same-outcome : {T : Type 0} (c d : Carried T) → SameErased c d → outcome_of_carried d ≡ outcome_of_carried c
same-outcome c d h =
    ap (λ (o : Option Reply). (let x : Outcome = record { own = o; woken = map woken_pair d.wakes } in x)) (sym h.own)
    ∙ ap (λ (ws : List (ℕ × Reply)). (let x : Outcome = record { own = c.own; woken = ws } in x))
    (ap (map woken_pair) (sym h.wakes) ∙ pairs-erased c.wakes)

-- the caller's own marks change no queue and no set
pub finished-queues : (k : Kernel) (pid : ℕ) (call : Call) (own : Option Reply)
    → (finish_call k pid call own).queues ≡ k.queues
finished-queues k pid call own = ap (λ (j : Kernel). j.queues) (sym (whole-finished k pid call own))

-- nor any set
pub finished-sets : (k : Kernel) (pid : ℕ) (call : Call) (own : Option Reply)
    → (finish_call k pid call own).sets ≡ k.sets
finished-sets k pid call own = ap (λ (j : Kernel). j.sets) (sym (whole-finished k pid call own))

module _ (k : Kernel) (pid : ℕ) (a : Alive) (call : Call) (lives : living_at k pid ≡ Some a)
    (may : may_make a call ≡ true) (plain : withdrawn_from call ≡ None) where
  -- an effect that leaves this queue
  queue-by : (id : ℕ) (e : Effect) (o : Option (Awaited Queue)) → ((n : ℕ) → effect k (waiter pid call) a n ≡ Some e)
      → get e.kernel.queues id ≡ o → ((i : ℕ) → i ≢ id → get e.kernel.queues i ≡ get k.queues i)
      → e.kernel.sets ≡ k.sets → DoesAtQueue k pid call id (outcome_of_effect e) o
  queue-by id e o does here others sets =
      record {
        next = finish_call e.kernel pid call e.own;
        step = λ n. step-is k pid call n a e plain lives may (does n);
        leaves = record {
          here = ap (λ (m : Numbered (Awaited Queue)). get m id) (finished-queues e.kernel pid call e.own) ∙ here;
          others = λ i ne.
              ap (λ (m : Numbered (Awaited Queue)). get m i) (finished-queues e.kernel pid call e.own) ∙ others i ne;
          sets = λ i.
              ap (λ (m : Numbered (Awaited SemaphoreSet)). get m i) (finished-sets e.kernel pid call e.own ∙ sets);
        };
      }

  -- or this set
  set-by : (id : ℕ) (e : Effect) (o : Option (Awaited SemaphoreSet))
      → ((n : ℕ) → effect k (waiter pid call) a n ≡ Some e) → get e.kernel.sets id ≡ o
      → ((i : ℕ) → i ≢ id → get e.kernel.sets i ≡ get k.sets i) → e.kernel.queues ≡ k.queues
      → DoesAtSet k pid call id (outcome_of_effect e) o
  set-by id e o does here others queues =
      record {
        next = finish_call e.kernel pid call e.own;
        step = λ n. step-is k pid call n a e plain lives may (does n);
        leaves = record {
          here = ap (λ (m : Numbered (Awaited SemaphoreSet)). get m id) (finished-sets e.kernel pid call e.own) ∙ here;
          others = λ i ne.
              ap (λ (m : Numbered (Awaited SemaphoreSet)). get m i) (finished-sets e.kernel pid call e.own)
              ∙ others i ne;
          queues = λ i.
              ap (λ (m : Numbered (Awaited Queue)). get m i) (finished-queues e.kernel pid call e.own ∙ queues);
        };
      }

-- ---- calls that aren't removals

queue-served : (k : Kernel) (a : Alive) (who : Waiting) (id : ℕ) (q : Awaited Queue)
    → living_at k who.pid ≡ Some a → may_make a who.call ≡ true → at_queue who.call ≡ Some id
    → get k.queues id ≡ Some (erased q)
    → (let c : Carried Queue = carry_out_on_queue q who
    in DoesAtQueue k who.pid who.call id (outcome_of_carried c) (Some (erased c.object)))
queue-served k a who id q lives may named there =
    let c : Carried Queue = carry_out_on_queue q who
    in let d : Carried Queue = carry_out_on_queue (erased q) (erased_waiter who)
    in let same : SameErased c d = nodes-dont-matter.0 q who
    in let h : DoesAtQueue k who.pid who.call id (outcome_of_carried d) (Some d.object) =
    queue-by k who.pid a who.call lives may (queue-stays who.call id named) id (queue_effect k id d) (Some d.object)
    (λ n.
    queue-effect k who.pid a who.call n id named
    ∙ ap
    (λ (o : Option (Awaited Queue)).
    (let e : Option Effect =
    Some (on_named k o (λ x. queue_effect k id (carry_out_on_queue x (erased_waiter who))))
    in e))
    there)
    (get-put-same k.queues id d.object) (λ i ne. get-put-other k.queues id d.object i ne) refl
    in subst (λ (o : Outcome). DoesAtQueue k who.pid who.call id o (Some (erased c.object))) (same-outcome c d same)
    (subst (λ (x : Awaited Queue). DoesAtQueue k who.pid who.call id (outcome_of_carried d) (Some x))
    (sym same.object) h)

set-served : (k : Kernel) (a : Alive) (who : Waiting) (id : ℕ) (s : Awaited SemaphoreSet)
    → living_at k who.pid ≡ Some a → may_make a who.call ≡ true → at_set who.call ≡ Some id
    → get k.sets id ≡ Some (erased s)
    → (let c : Carried SemaphoreSet = carry_out_on_set s who
    in DoesAtSet k who.pid who.call id (outcome_of_carried c) (Some (erased c.object)))
set-served k a who id s lives may named there =
    let c : Carried SemaphoreSet = carry_out_on_set s who
    in let d : Carried SemaphoreSet = carry_out_on_set (erased s) (erased_waiter who)
    in let same : SameErased c d = nodes-dont-matter.1 s who
    in let h : DoesAtSet k who.pid who.call id (outcome_of_carried d) (Some d.object) =
    set-by k who.pid a who.call lives may (set-stays who.call id named) id (set_effect k id d) (Some d.object)
    (λ n.
    set-effect k who.pid a who.call n id named
    ∙ ap
    (λ (o : Option (Awaited SemaphoreSet)).
    (let e : Option Effect =
    Some (on_named k o (λ x. set_effect k id (carry_out_on_set x (erased_waiter who))))
    in e))
    there)
    (get-put-same k.sets id d.object) (λ i ne. get-put-other k.sets id d.object i ne) refl
    in subst (λ (o : Outcome). DoesAtSet k who.pid who.call id o (Some (erased c.object))) (same-outcome c d same)
    (subst (λ (x : Awaited SemaphoreSet). DoesAtSet k who.pid who.call id (outcome_of_carried d) (Some x))
    (sym same.object) h)

at-queue : (pid id : ℕ) (call : Call) → is_withdrawal call ≡ false → home_of pid call ≡ homes.At (Msg id)
    → at_queue call ≡ Some id
at-queue pid id call plain home =
    elim (named-queue pid id call plain (subst (is_at (Msg id)) (sym home) refl)) [
      | inl named ↦ named
      | inr removal ↦
          absurd
          (let both : homes.At (Msg id) ≡ homes.Removal (Msg id) = sym home ∙ ap (home_of pid) removal in cc)
    ]

at-set : (pid id : ℕ) (call : Call) → is_withdrawal call ≡ false → home_of pid call ≡ homes.At (Sem id)
    → at_set call ≡ Some id
at-set pid id call plain home =
    elim (named-set pid id call plain (subst (is_at (Sem id)) (sym home) refl)) [
      | inl named ↦ named
      | inr removal ↦
          absurd
          (let both : homes.At (Sem id) ≡ homes.Removal (Sem id) = sym home ∙ ap (home_of pid) removal in cc)
    ]

-- A call on a queue that is there, by its body: its outcome is the body's, and the queue is what the body is then.
pub queue-serves : (k : Kernel) (a : Alive) (who : Waiting) (id : ℕ) (q : Awaited Queue)
    → living_at k who.pid ≡ Some a → may_make a who.call ≡ true → is_withdrawal who.call ≡ false
    → home_of who.pid who.call ≡ homes.At (Msg id) → get k.queues id ≡ Some (erased q)
    → (let c : Carried Queue = carry_out_on_queue q who
    in DoesAtQueue k who.pid who.call id (outcome_of_carried c) (Some (erased c.object)))
queue-serves k a who id q lives may plain home there =
    queue-served k a who id q lives may (at-queue who.pid id who.call plain home) there

-- and on a set
pub set-serves : (k : Kernel) (a : Alive) (who : Waiting) (id : ℕ) (s : Awaited SemaphoreSet)
    → living_at k who.pid ≡ Some a → may_make a who.call ≡ true → is_withdrawal who.call ≡ false
    → home_of who.pid who.call ≡ homes.At (Sem id) → get k.sets id ≡ Some (erased s)
    → (let c : Carried SemaphoreSet = carry_out_on_set s who
    in DoesAtSet k who.pid who.call id (outcome_of_carried c) (Some (erased c.object)))
set-serves k a who id s lives may plain home there =
    set-served k a who id s lives may (at-set who.pid id who.call plain home) there

-- ---- removals

pairs-removed : (ws : List Waiting)
    → map woken_pair (map (λ w. wake w (replies.Fail Eidrm)) (map erased_waiter ws)) ≡ all_removed ws
pairs-removed [] = refl
pairs-removed (w ∷ ws) =
    ap (λ (xs : List (ℕ × Reply)). (let x : ℕ × Reply = (w.pid, replies.Fail Eidrm) in x ∷ xs)) (pairs-removed ws)

removal-outcome : (ws : List Waiting)
    → (let o : Outcome = record {
      own = Some (replies.Num 0);
      woken = map woken_pair (map (λ w. wake w (replies.Fail Eidrm)) (map erased_waiter ws));
    } in o ≡ outcome_of_removal ws)
removal-outcome ws =
    ap (λ (ps : List (ℕ × Reply)). (let o : Outcome = record { own = Some (replies.Num 0); woken = ps } in o))
    (pairs-removed ws)

-- of a queue
pub queue-removes : (k : Kernel) (pid : ℕ) (a : Alive) (id : ℕ) (q : Awaited Queue) → living_at k pid ≡ Some a
    → may_make a (calls.MsgRmid id) ≡ true → get k.queues id ≡ Some (erased q)
    → DoesAtQueue k pid (calls.MsgRmid id) id (outcome_of_removal q.waiters) None
queue-removes k pid a id q lives may there =
    subst (λ (o : Outcome). DoesAtQueue k pid (calls.MsgRmid id) id o None) (removal-outcome q.waiters)
    (queue-by k pid a (calls.MsgRmid id) lives may refl id (remove_queue k id (erased q)) None
    (λ n.
    ap
    (λ (o : Option (Awaited Queue)). (let e : Option Effect = Some (on_named k o (remove_queue k id)) in e))
    there)
    (get-without-same k.queues id) (λ i ne. get-without-other k.queues id i ne) refl)

-- and of a set
pub set-removes : (k : Kernel) (pid : ℕ) (a : Alive) (id : ℕ) (s : Awaited SemaphoreSet) → living_at k pid ≡ Some a
    → may_make a (calls.SemRmid id) ≡ true → get k.sets id ≡ Some (erased s)
    → DoesAtSet k pid (calls.SemRmid id) id (outcome_of_removal s.waiters) None
set-removes k pid a id s lives may there =
    subst (λ (o : Outcome). DoesAtSet k pid (calls.SemRmid id) id o None) (removal-outcome s.waiters)
    (set-by k pid a (calls.SemRmid id) lives may refl id (remove_set k id (erased s)) None
    (λ n.
    ap
    (λ (o : Option (Awaited SemaphoreSet)). (let e : Option Effect = Some (on_named k o (remove_set k id)) in e))
    there)
    (get-without-same k.sets id) (λ i ne. get-without-other k.sets id i ne) refl)

-- ---- where there is none of that number

queue-absent : (k : Kernel) (pid : ℕ) (a : Alive) (call : Call) (id : ℕ)
    → (at_queue call ≡ Some id) ⊎ (call ≡ calls.MsgRmid id) → get k.queues id ≡ None → (n : ℕ)
    → effect k (waiter pid call) a n ≡ Some (refuse k Einval)
queue-absent k pid a call id (inl named) none n =
    queue-effect k pid a call n id named
    ∙ ap
    (λ (o : Option (Awaited Queue)).
    (let e : Option Effect =
    Some (on_named k o (λ x. queue_effect k id (carry_out_on_queue x (waiter pid call)))) in e))
    none
queue-absent k pid a call id (inr removal) none n =
    subst (λ (c : Call). effect k (waiter pid c) a n ≡ Some (refuse k Einval)) (sym removal)
    (ap (λ (o : Option (Awaited Queue)). (let e : Option Effect = Some (on_named k o (remove_queue k id)) in e)) none)

set-absent : (k : Kernel) (pid : ℕ) (a : Alive) (call : Call) (id : ℕ)
    → (at_set call ≡ Some id) ⊎ (call ≡ calls.SemRmid id) → get k.sets id ≡ None → (n : ℕ)
    → effect k (waiter pid call) a n ≡ Some (refuse k Einval)
set-absent k pid a call id (inl named) none n =
    set-effect k pid a call n id named
    ∙ ap
    (λ (o : Option (Awaited SemaphoreSet)).
    (let e : Option Effect = Some (on_named k o (λ x. set_effect k id (carry_out_on_set x (waiter pid call)))) in e))
    none
set-absent k pid a call id (inr removal) none n =
    subst (λ (c : Call). effect k (waiter pid c) a n ≡ Some (refuse k Einval)) (sym removal)
    (ap
    (λ (o : Option (Awaited SemaphoreSet)). (let e : Option Effect = Some (on_named k o (remove_set k id)) in e)) none)

ends-none : (call : Call) → is_withdrawal call ≡ false → withdrawn_from call ≡ None
ends-none (calls.Withdraw name) h = absurd (true≢false h)
ends-none call h = refl

-- the call, also a removal, is refused
pub queue-lacks : (k : Kernel) (pid : ℕ) (a : Alive) (call : Call) (id : ℕ) → living_at k pid ≡ Some a
    → may_make a call ≡ true → is_withdrawal call ≡ false → is_at (Msg id) (home_of pid call)
    → get k.queues id ≡ None → DoesAtQueue k pid call id (reply_alone (replies.Fail Einval)) None
queue-lacks k pid a call id lives may plain home none =
    queue-by k pid a call lives may (ends-none call plain) id (refuse k Einval) None
    (queue-absent k pid a call id (named-queue pid id call plain home) none) none (λ i ne. refl) refl

-- and at a set
pub set-lacks : (k : Kernel) (pid : ℕ) (a : Alive) (call : Call) (id : ℕ) → living_at k pid ≡ Some a
    → may_make a call ≡ true → is_withdrawal call ≡ false → is_at (Sem id) (home_of pid call) → get k.sets id ≡ None
    → DoesAtSet k pid call id (reply_alone (replies.Fail Einval)) None
set-lacks k pid a call id lives may plain home none =
    set-by k pid a call lives may (ends-none call plain) id (refuse k Einval) None
    (set-absent k pid a call id (named-set pid id call plain home) none) none (λ i ne. refl) refl
