-- A served call's step in the kernel in which callers wait: on a process that is the step in the other kernel, and on a
-- queue or a set what the call does to its body.
use Rattle.std.proofs.Common.{◌≡◌, ◌≢◌, ℕ, Bool, true, false, if◌then◌else◌, List, [], ◌∷◌, ◌++◌, map, Option, Some, None, refl, ap, sym, subst, ◌∙◌, inl, inr}
use Rattle.std.proofs.lemmas.Bool.{cases_eq, false≢true, cases_Bool, eqb-true}
use Rattle.pico_base.specs.declared.call.Call.{Call}
use Rattle.pico_base.specs.declared.call.Call.TheVariants as calls
use Rattle.pico_base.specs.declared.call.Home.TheVariants as homes
use Rattle.pico_base.specs.declared.numbers.Name.{Name}
use Rattle.pico_base.specs.declared.numbers.Name.TheVariants.{Proc, Msg, Sem}
use Rattle.pico_base.specs.declared.reply.Entry.{Entry}
use Rattle.pico_base.specs.declared.reply.Errno.TheVariants.{Eidrm, Einval}
use Rattle.pico_base.specs.declared.reply.Outcome.{Outcome}
use Rattle.pico_base.specs.declared.reply.Reply.{Reply}
use Rattle.pico_base.specs.declared.reply.Reply.TheVariants as replies
use Rattle.pico_base.specs.Home.{home_of}
use Rattle.number_maps.specs.Maps.{get}
use Rattle.kernel_model.specs.Effect.{reply_alone}
use Rattle.kernel_model.specs.History.{number_in}
use Rattle.kernel_model.specs.Kernel as plain
use Rattle.kernel_model.specs.Queue.{Queue}
use Rattle.kernel_model.specs.SemaphoreSet.{SemaphoreSet}
use Rattle.kernel_model.specs.Transition as plain_steps
use Rattle.waiting_model.specs.declared.callers.Waiting.{Waiting}
use Rattle.waiting_model.specs.Calls.{is_withdrawal, may_park}
use Rattle.waiting_model.specs.Effect.{woken_pair}
use Rattle.waiting_model.specs.Kernel.{Kernel, living_at}
use Rattle.waiting_model.specs.Linear.{BreaksOff, Counts, Does, LeadInLine, LeadsTo, at_once, counts_waiters, line_of}
use Rattle.waiting_model.specs.Marks.{Alive}
use Rattle.waiting_model.specs.Queue.{carry_out_on_queue}
use Rattle.waiting_model.specs.SemaphoreSet.{carry_out_on_set}
use Rattle.waiting_model.specs.Transition.{may_make}
use Rattle.waiting_model.specs.Waiters.{Awaited, erased, wake, wakes_at_removal}
use Rattle.waiting_laws.specs.InLine.{IsAlike}
use Rattle.waiting_laws.specs.Removals.{all_removed, outcome_of_removal}
use Rattle.waiting_laws.specs.Sound.{IsSound}
use Rattle.waiting_laws.proofs.AtObjects.{DoesAtQueue, DoesAtSet, HasOtherQueue, HasOtherSet, is_at, queue-lacks, queue-removes, queue-serves, set-lacks, set-removes, set-serves}
use Rattle.waiting_laws.proofs.Leads.{StepsAlike, own-leads, is_of_process, waits_for_child}
use Rattle.waiting_laws.proofs.OneEnd.{lines-have-one-end}
use Rattle.node_model.specs.Awaiting.{Applied, on_object, on_whole, removed}
use Rattle.node_model.specs.Bodies.{AQueue, ASet, Body, Ended, Gone, Living, Removed, bare, body_in, erase, process_body, waiters_of, whole_in, whole_queue, whole_set}
use Rattle.node_model.specs.Carrying.{is_removal}
use Rattle.node_model.specs.Entries.{outcome_with}
use Rattle.world_laws.specs.Callers.{is_on}
use Rattle.world_laws.proofs.Named.{name-cases}
use Rattle.rule_laws.proofs.own.Bodies.{alike-body, bodies-kept, erased-process}
use Rattle.route_laws.proofs.served.Whole.{WholeStep}
use Rattle.std.specs.Prelude.{◌==◌}
use Rattle.pico_base.specs.declared.signal.SigArg.TheVariants.{Zero, Is, Bad}
use Rattle.node_model.specs.Kinds.{is_object}

-- ---- lines that lead on

-- lines in two parts
pub record LeadsBetween (k : plain.Kernel) (xs ys : List Entry) (last : plain.Kernel) : Type 0 where
  pub mid : plain.Kernel
  pub first : LeadInLine k xs mid
  pub then_on : LeadInLine mid ys last

leads-between : (k : plain.Kernel) (xs ys : List Entry) (last : plain.Kernel) → LeadInLine k (xs ++ ys) last
    → LeadsBetween k xs ys last
leads-between k [] ys last h = record { mid = k; first = refl; then_on = h }
leads-between k (x ∷ xs) ys last h =
    let r : LeadsBetween h.next xs ys last = leads-between h.next xs ys last h.rest
    in record {
      mid = r.mid;
      first = record { next = h.next; leads = h.leads; rest = r.first };
      then_on = r.then_on;
    }

-- the line that comes behind lines
pub line-behind : (opening k last : plain.Kernel) (lines : List Entry) (e : Entry) → LeadInLine opening lines k
    → LeadInLine opening (lines ++ e ∷ []) last → LeadsTo k e last
line-behind opening k last lines e before after =
    let r : LeadsBetween opening lines (e ∷ []) last = leads-between opening lines (e ∷ []) last after
    in let one : LeadInLine r.mid (e ∷ []) last = r.then_on
    in subst (λ z. LeadsTo z e last) (lines-have-one-end opening r.mid k lines r.first before)
    (subst (λ z. LeadsTo r.mid e z) one.rest one.leads)

-- ---- calls on a process

-- such a call counts nobody, never waits, and has this home
pub record IsOnProcess (pid : ℕ) (call : Call) : Type 0 where
  pub counts : counts_waiters call ≡ false
  pub parks : may_park call ≡ false
  pub home : is_of_process (home_of pid call) ≡ true

process-home : (b : Bool) (pid : ℕ) → is_of_process (if b then homes.Own else homes.At (Proc pid)) ≡ true
process-home true pid = refl
process-home false pid = refl

not-process : (name : Name) (target : ℕ) (b : Bool) → is_object name ≡ true
    → is_on name (if b then homes.Own else homes.At (Proc target)) ≡ true → ⊥
not-process (Proc q) target b object h = false≢true object
not-process (Msg id) target true object h = false≢true h
not-process (Msg id) target false object h = false≢true h
not-process (Sem id) target true object h = false≢true h
not-process (Sem id) target false object h = false≢true h

on-process : (q pid : ℕ) (call : Call) → is_on (Proc q) (home_of pid call) ≡ true → is_withdrawal call ≡ false
    → IsOnProcess pid call
on-process q pid (calls.Kill target Bad) h is_call = record { counts = refl; parks = refl; home = refl }
on-process q pid (calls.Kill target Zero) h is_call =
    record { counts = refl; parks = refl; home = process-home (target == pid) target }
on-process q pid (calls.Kill target (Is sig)) h is_call =
    record { counts = refl; parks = refl; home = process-home (target == pid) target }
on-process q pid (calls.Withdraw name) h is_call = absurd (false≢true (sym is_call))
on-process q pid (calls.MsgGet None create excl) h is_call = absurd (false≢true h)
on-process q pid (calls.MsgGet (Some key) create excl) h is_call = absurd (false≢true h)
on-process q pid (calls.SemGet None count create excl) h is_call = absurd (false≢true h)
on-process q pid (calls.SemGet (Some key) count create excl) h is_call = absurd (false≢true h)
on-process q pid call h is_call = absurd (false≢true h)

-- it waits for no child
pub no-child : (a : Alive) (call : Call) → may_park call ≡ false → waits_for_child a call ≡ false
no-child a (calls.WaitPid child false) h = absurd (false≢true (sym h))
no-child a (calls.WaitPid child true) h = refl
no-child a call h = refl

-- so its line does what it does at once
pub does-at-once : (k last : plain.Kernel) (node pid : ℕ) (call : Call) (reply : Reply) → counts_waiters call ≡ false
    → may_park call ≡ false → LeadsTo k (line_of node pid call reply) last
    → plain_steps.transition k pid (at_once call) (number_in (Some reply))
    ≡ Some (plain_steps.successor last (reply_alone reply))
does-at-once k last node pid call reply counts parks (Does does) = does
does-at-once k last node pid call reply counts parks (Counts n counts_so is does) =
    absurd (false≢true (sym counts ∙ counts_so))
does-at-once k last node pid call reply counts parks (BreaksOff error parks_so off is same) =
    absurd (false≢true (sym parks ∙ parks_so))

-- nobody waits at a process's body
process-waits-not : (v : Body) (o : Option plain.Process) → bare v ≡ process_body o → waiters_of v ≡ []
process-waits-not (Living row) o h = refl
process-waits-not (Ended ending) o h = refl
process-waits-not Gone o h = refl
process-waits-not Removed o h = refl
process-waits-not (AQueue q) None h = absurd (cc)
process-waits-not (AQueue q) (Some (plain.Living a)) h = absurd (cc)
process-waits-not (AQueue q) (Some (plain.Ended ending)) h = absurd (cc)
process-waits-not (AQueue q) (Some plain.Gone) h = absurd (cc)
process-waits-not (ASet s) None h = absurd (cc)
process-waits-not (ASet s) (Some (plain.Living a)) h = absurd (cc)
process-waits-not (ASet s) (Some (plain.Ended ending)) h = absurd (cc)
process-waits-not (ASet s) (Some plain.Gone) h = absurd (cc)

-- ---- calls on a queue, or on a set

queue-home : (id pid : ℕ) (call : Call) → is_on (Msg id) (home_of pid call) ≡ true → is_withdrawal call ≡ false
    → is_removal call ≡ false → home_of pid call ≡ homes.At (Msg id)
queue-home id pid (calls.MsgSnd other class text nowait) h is_call stays = ap (λ i. homes.At (Msg i))
    (sym (eqb-true id other h))
queue-home id pid (calls.MsgRcv other class size noerror nowait) h is_call stays =
    ap (λ i. homes.At (Msg i)) (sym (eqb-true id other h))
queue-home id pid (calls.MsgStat other) h is_call stays = ap (λ i. homes.At (Msg i)) (sym (eqb-true id other h))
queue-home id pid (calls.MsgSet other qbytes) h is_call stays = ap (λ i. homes.At (Msg i)) (sym (eqb-true id other h))
queue-home id pid (calls.MsgRmid other) h is_call stays = absurd (false≢true (sym stays))
queue-home id pid (calls.Withdraw name) h is_call stays = absurd (false≢true (sym is_call))
queue-home id pid (calls.Kill target Bad) h is_call stays = absurd (false≢true h)
queue-home id pid (calls.Kill target Zero) h is_call stays = absurd (not-process (Msg id) target (target == pid) refl h)
queue-home id pid (calls.Kill target (Is sig)) h is_call stays = absurd
    (not-process (Msg id) target (target == pid) refl h)
queue-home id pid (calls.MsgGet None create excl) h is_call stays = absurd (false≢true h)
queue-home id pid (calls.MsgGet (Some key) create excl) h is_call stays = absurd (false≢true h)
queue-home id pid (calls.SemGet None count create excl) h is_call stays = absurd (false≢true h)
queue-home id pid (calls.SemGet (Some key) count create excl) h is_call stays = absurd (false≢true h)
queue-home id pid call h is_call stays = absurd (false≢true h)

queue-removal : (id pid : ℕ) (call : Call) → is_on (Msg id) (home_of pid call) ≡ true → is_removal call ≡ true
    → call ≡ calls.MsgRmid id
queue-removal id pid (calls.MsgRmid other) h removes = ap calls.MsgRmid (sym (eqb-true id other h))
queue-removal id pid (calls.SemRmid other) h removes = absurd (false≢true h)
queue-removal id pid call h removes = absurd (false≢true removes)

set-home : (id pid : ℕ) (call : Call) → is_on (Sem id) (home_of pid call) ≡ true → is_withdrawal call ≡ false
    → is_removal call ≡ false → home_of pid call ≡ homes.At (Sem id)
set-home id pid (calls.SemOp other steps) h is_call stays = ap (λ i. homes.At (Sem i)) (sym (eqb-true id other h))
set-home id pid (calls.SemGetVal other num) h is_call stays = ap (λ i. homes.At (Sem i)) (sym (eqb-true id other h))
set-home id pid (calls.SemGetPid other num) h is_call stays = ap (λ i. homes.At (Sem i)) (sym (eqb-true id other h))
set-home id pid (calls.SemGetNcnt other num) h is_call stays = ap (λ i. homes.At (Sem i)) (sym (eqb-true id other h))
set-home id pid (calls.SemGetZcnt other num) h is_call stays = ap (λ i. homes.At (Sem i)) (sym (eqb-true id other h))
set-home id pid (calls.SemSetVal other num value) h is_call stays =
    ap (λ i. homes.At (Sem i)) (sym (eqb-true id other h))
set-home id pid (calls.SemGetAll other) h is_call stays = ap (λ i. homes.At (Sem i)) (sym (eqb-true id other h))
set-home id pid (calls.SemSetAll other values) h is_call stays = ap (λ i. homes.At (Sem i)) (sym (eqb-true id other h))
set-home id pid (calls.SemRmid other) h is_call stays = absurd (false≢true (sym stays))
set-home id pid (calls.Withdraw name) h is_call stays = absurd (false≢true (sym is_call))
set-home id pid (calls.Kill target Bad) h is_call stays = absurd (false≢true h)
set-home id pid (calls.Kill target Zero) h is_call stays = absurd (not-process (Sem id) target (target == pid) refl h)
set-home id pid (calls.Kill target (Is sig)) h is_call stays = absurd
    (not-process (Sem id) target (target == pid) refl h)
set-home id pid (calls.MsgGet None create excl) h is_call stays = absurd (false≢true h)
set-home id pid (calls.MsgGet (Some key) create excl) h is_call stays = absurd (false≢true h)
set-home id pid (calls.SemGet None count create excl) h is_call stays = absurd (false≢true h)
set-home id pid (calls.SemGet (Some key) count create excl) h is_call stays = absurd (false≢true h)
set-home id pid call h is_call stays = absurd (false≢true h)

set-removal : (id pid : ℕ) (call : Call) → is_on (Sem id) (home_of pid call) ≡ true → is_removal call ≡ true
    → call ≡ calls.SemRmid id
set-removal id pid (calls.SemRmid other) h removes = ap calls.SemRmid (sym (eqb-true id other h))
set-removal id pid (calls.MsgRmid other) h removes = absurd (false≢true h)
set-removal id pid call h removes = absurd (false≢true removes)

-- where there is none of that number, it is there
queue-there : (id pid : ℕ) (call : Call) → is_on (Msg id) (home_of pid call) ≡ true → is_withdrawal call ≡ false
    → is_at (Msg id) (home_of pid call)
queue-there id pid call h is_call =
    elim (cases_Bool (is_removal call)) [
      | inl removes ↦ subst (λ c. is_at (Msg id) (home_of pid c)) (sym (queue-removal id pid call h removes)) refl
      | inr stays ↦ subst (is_at (Msg id)) (sym (queue-home id pid call h is_call stays)) refl
    ]

set-there : (id pid : ℕ) (call : Call) → is_on (Sem id) (home_of pid call) ≡ true → is_withdrawal call ≡ false
    → is_at (Sem id) (home_of pid call)
set-there id pid call h is_call =
    elim (cases_Bool (is_removal call)) [
      | inl removes ↦ subst (λ c. is_at (Sem id) (home_of pid c)) (sym (set-removal id pid call h removes)) refl
      | inr stays ↦ subst (is_at (Sem id)) (sym (set-home id pid call h is_call stays)) refl
    ]

-- ---- bodies

whole-queue-is : (o : Option (Awaited Queue)) (q : Awaited Queue) → AQueue q ≡ whole_queue o → o ≡ Some q
whole-queue-is (Some r) q h = cc
whole-queue-is None q h = absurd (cc)

whole-queue-none : (o : Option (Awaited Queue)) → Removed ≡ whole_queue o → o ≡ None
whole-queue-none (Some r) h = absurd (cc)
whole-queue-none None h = refl

whole-set-is : (o : Option (Awaited SemaphoreSet)) (s : Awaited SemaphoreSet) → ASet s ≡ whole_set o → o ≡ Some s
whole-set-is (Some r) s h = cc
whole-set-is None s h = absurd (cc)

whole-set-none : (o : Option (Awaited SemaphoreSet)) → Removed ≡ whole_set o → o ≡ None
whole-set-none (Some r) h = absurd (cc)
whole-set-none None h = refl

same-removed : (ws : List Waiting) → all_removed ws ≡ map woken_pair (map (λ w. wake w (replies.Fail Eidrm)) ws)
same-removed [] = refl
same-removed (w ∷ ws) = ap (λ more. (w.pid, replies.Fail Eidrm) ∷ more) (same-removed ws)

removal-outcome : (ws : List Waiting)
    → outcome_of_removal ws ≡ outcome_with (Some (replies.Num 0)) (map (λ w. wake w (replies.Fail Eidrm)) ws)
removal-outcome ws = ap (λ woken. (let o : Outcome = record { own = Some (replies.Num 0); woken = woken } in o))
    (same-removed ws)

-- the bodies of names, before and afterwards, where one name's body is another one
module _ (k : Kernel) (last : plain.Kernel) (before after : Name → Body)
    (were : (m : Name) → erase (before m) ≡ whole_in k m) (parts : (m : Name) → bare (after m) ≡ body_in last m)
    (name : Name) (others : (m : Name) → m ≢ name → after m ≡ before m) where
  process-bodies : (next : Kernel) → IsAlike next last → (q : ℕ) → erase (after (Proc q)) ≡ whole_in next (Proc q)
  process-bodies next alike q =
      erased-process (after (Proc q)) (get last.processes q) (parts (Proc q)) ∙ sym (alike-body next last alike q)

  elsewhere : (next : Kernel) (m : Name) → m ≢ name → whole_in next m ≡ whole_in k m
      → erase (after m) ≡ whole_in next m
  elsewhere next m other same = ap erase (others m other) ∙ were m ∙ sym same

  queue-bodies : (next : Kernel) (id : ℕ) (o : Option (Awaited Queue)) → name ≡ Msg id → HasOtherQueue k next id o
      → erase (after (Msg id)) ≡ whole_queue o → IsAlike next last → (m : Name) → erase (after m) ≡ whole_in next m
  queue-bodies next id o is h here alike (Proc q) = process-bodies next alike q
  queue-bodies next id o is h here alike (Sem i) =
      elsewhere next (Sem i) (λ e. not-msg (e ∙ is)) (ap whole_set (h.sets i))
    where
      not-msg : Sem i ≡ Msg id → ⊥
      not-msg e = cc
  queue-bodies next id o is h here alike (Msg i) =
      elim (cases_eq i id) [
        | inl e ↦
            ap (λ j. erase (after (Msg j))) e ∙ here ∙ ap whole_queue (sym h.here)
            ∙ ap (λ j. whole_queue (get next.queues j)) (sym e)
        | inr d ↦
            elsewhere next (Msg i) (λ e. d (same-number (e ∙ is))) (ap whole_queue (h.others i d))
      ]
    where
      same-number : Msg i ≡ Msg id → i ≡ id
      same-number e = cc

  set-bodies : (next : Kernel) (id : ℕ) (o : Option (Awaited SemaphoreSet)) → name ≡ Sem id → HasOtherSet k next id o
      → erase (after (Sem id)) ≡ whole_set o → IsAlike next last → (m : Name) → erase (after m) ≡ whole_in next m
  set-bodies next id o is h here alike (Proc q) = process-bodies next alike q
  set-bodies next id o is h here alike (Msg i) =
      elsewhere next (Msg i) (λ e. not-sem (e ∙ is)) (ap whole_queue (h.queues i))
    where
      not-sem : Msg i ≡ Sem id → ⊥
      not-sem e = cc
  set-bodies next id o is h here alike (Sem i) =
      elim (cases_eq i id) [
        | inl e ↦
            ap (λ j. erase (after (Sem j))) e ∙ here ∙ ap whole_set (sym h.here)
            ∙ ap (λ j. whole_set (get next.sets j)) (sym e)
        | inr d ↦
            elsewhere next (Sem i) (λ e. d (same-number (e ∙ is))) (ap whole_set (h.others i d))
      ]
    where
      same-number : Sem i ≡ Sem id → i ≡ id
      same-number e = cc

  -- ---- the step

  module _ (who : Waiting) (a : Alive) (lives : living_at k who.pid ≡ Some a) (may : may_make a who.call ≡ true)
      (is_call : is_withdrawal who.call ≡ false) where
    abbrev Steps : Applied Body → Type 0
    Steps d = WholeStep k who.pid who.call (outcome_with d.own d.wakes) last after

    queue-step : (id : ℕ) (outcome : Outcome) (o : Option (Awaited Queue)) → name ≡ Msg id
        → DoesAtQueue k who.pid who.call id outcome o → erase (after (Msg id)) ≡ whole_queue o
        → WholeStep k who.pid who.call outcome last after
    queue-step id outcome o is does here =
        record {
          next = does.next;
          step = does.step (number_in outcome.own);
          bodies_are = queue-bodies does.next id o is does.leaves here;
        }

    set-step : (id : ℕ) (outcome : Outcome) (o : Option (Awaited SemaphoreSet)) → name ≡ Sem id
        → DoesAtSet k who.pid who.call id outcome o → erase (after (Sem id)) ≡ whole_set o
        → WholeStep k who.pid who.call outcome last after
    set-step id outcome o is does here =
        record {
          next = does.next;
          step = does.step (number_in outcome.own);
          bodies_are = set-bodies does.next id o is does.leaves here;
        }

    -- at a queue

    pub queue-whole : (id : ℕ) (body : Body) → name ≡ Msg id → erase body ≡ whole_in k (Msg id)
        → is_on (Msg id) (home_of who.pid who.call) ≡ true
        → erase (after (Msg id)) ≡ (let d : Applied Body = on_whole (Msg id) body who in erase d.left)
        → Steps (on_whole (Msg id) body who)
    queue-whole id (AQueue q) is was on here = by (is_removal who.call) refl here
      where
        there : get k.queues id ≡ Some (erased q)
        there = whole-queue-is (get k.queues id) (erased q) was

        by : (t : Bool) → is_removal who.call ≡ t
            → erase (after (Msg id))
            ≡ (let d : Applied Body = (if t then removed (wakes_at_removal q) else on_object AQueue
            (carry_out_on_queue q who))
            in erase d.left)
            → Steps (if t then removed (wakes_at_removal q) else on_object AQueue (carry_out_on_queue q who))
        by true removes here =
            let call_is : who.call ≡ calls.MsgRmid id = queue-removal id who.pid who.call on removes
            in subst (λ outcome. WholeStep k who.pid who.call outcome last after) (removal-outcome q.waiters)
            (queue-step id (outcome_of_removal q.waiters) None is
            (subst (λ call. DoesAtQueue k who.pid call id (outcome_of_removal q.waiters) None) (sym call_is)
            (queue-removes k who.pid a id q lives (ap (may_make a) (sym call_is) ∙ may) there)) here)
        by false stays here =
            queue-step id (outcome_with (carry_out_on_queue q who).own (carry_out_on_queue q who).wakes)
            (Some (erased (carry_out_on_queue q who).object)) is
            (queue-serves k a who id q lives may is_call (queue-home id who.pid who.call on is_call stays) there) here
    queue-whole id Removed is was on here =
        queue-step id (reply_alone (replies.Fail Einval)) None is
        (queue-lacks k who.pid a who.call id lives may is_call (queue-there id who.pid who.call on is_call)
        (whole-queue-none (get k.queues id) was)) here
    queue-whole id (ASet s) is was on here = absurd (other-body (get k.queues id) was)
      where
        other-body : (o : Option (Awaited Queue)) → ASet (erased s) ≡ whole_queue o → ⊥
        other-body None h = cc
        other-body (Some q) h = cc
    queue-whole id (Living row) is was on here = absurd (other-body (get k.queues id) was)
      where
        other-body : (o : Option (Awaited Queue)) → Living row ≡ whole_queue o → ⊥
        other-body None h = cc
        other-body (Some q) h = cc
    queue-whole id (Ended ending) is was on here = absurd (other-body (get k.queues id) was)
      where
        other-body : (o : Option (Awaited Queue)) → Ended ending ≡ whole_queue o → ⊥
        other-body None h = cc
        other-body (Some q) h = cc
    queue-whole id Gone is was on here = absurd (other-body (get k.queues id) was)
      where
        other-body : (o : Option (Awaited Queue)) → Gone ≡ whole_queue o → ⊥
        other-body None h = cc
        other-body (Some q) h = cc

    -- at a set

    pub set-whole : (id : ℕ) (body : Body) → name ≡ Sem id → erase body ≡ whole_in k (Sem id)
        → is_on (Sem id) (home_of who.pid who.call) ≡ true
        → erase (after (Sem id)) ≡ (let d : Applied Body = on_whole (Sem id) body who in erase d.left)
        → Steps (on_whole (Sem id) body who)
    set-whole id (ASet s) is was on here = by (is_removal who.call) refl here
      where
        there : get k.sets id ≡ Some (erased s)
        there = whole-set-is (get k.sets id) (erased s) was

        by : (t : Bool) → is_removal who.call ≡ t
            → erase (after (Sem id))
            ≡ (let d : Applied Body = (if t then removed (wakes_at_removal s) else on_object ASet
            (carry_out_on_set s who))
            in erase d.left)
            → Steps (if t then removed (wakes_at_removal s) else on_object ASet (carry_out_on_set s who))
        by true removes here =
            let call_is : who.call ≡ calls.SemRmid id = set-removal id who.pid who.call on removes
            in subst (λ outcome. WholeStep k who.pid who.call outcome last after) (removal-outcome s.waiters)
            (set-step id (outcome_of_removal s.waiters) None is
            (subst (λ call. DoesAtSet k who.pid call id (outcome_of_removal s.waiters) None) (sym call_is)
            (set-removes k who.pid a id s lives (ap (may_make a) (sym call_is) ∙ may) there)) here)
        by false stays here =
            set-step id (outcome_with (carry_out_on_set s who).own (carry_out_on_set s who).wakes)
            (Some (erased (carry_out_on_set s who).object)) is
            (set-serves k a who id s lives may is_call (set-home id who.pid who.call on is_call stays) there) here
    set-whole id Removed is was on here =
        set-step id (reply_alone (replies.Fail Einval)) None is
        (set-lacks k who.pid a who.call id lives may is_call (set-there id who.pid who.call on is_call)
        (whole-set-none (get k.sets id) was)) here
    set-whole id (AQueue q) is was on here = absurd (other-body (get k.sets id) was)
      where
        other-body : (o : Option (Awaited SemaphoreSet)) → AQueue (erased q) ≡ whole_set o → ⊥
        other-body None h = cc
        other-body (Some s) h = cc
    set-whole id (Living row) is was on here = absurd (other-body (get k.sets id) was)
      where
        other-body : (o : Option (Awaited SemaphoreSet)) → Living row ≡ whole_set o → ⊥
        other-body None h = cc
        other-body (Some s) h = cc
    set-whole id (Ended ending) is was on here = absurd (other-body (get k.sets id) was)
      where
        other-body : (o : Option (Awaited SemaphoreSet)) → Ended ending ≡ whole_set o → ⊥
        other-body None h = cc
        other-body (Some s) h = cc
    set-whole id Gone is was on here = absurd (other-body (get k.sets id) was)
      where
        other-body : (o : Option (Awaited SemaphoreSet)) → Gone ≡ whole_set o → ⊥
        other-body None h = cc
        other-body (Some s) h = cc

    -- on a process

    module _ (plain_before : plain.Kernel) (sound : IsSound k) (alike : IsAlike k plain_before) (opening : plain.Kernel)
        (lines : List Entry) (node : ℕ) (led : LeadInLine opening lines plain_before)
        (were_parts : (m : Name) → bare (before m) ≡ body_in plain_before m) where
      pub process-whole : (q : ℕ) (d : Applied Body) (reply : Reply) → name ≡ Proc q
          → is_on (Proc q) (home_of who.pid who.call) ≡ true → d.own ≡ Some reply → d.wakes ≡ []
          → LeadInLine opening (lines ++ line_of node who.pid who.call reply ∷ []) last → Steps d
      process-whole q d reply is on own none leads =
          let on_it : IsOnProcess who.pid who.call = on-process q who.pid who.call on is_call
          in let s : StepsAlike k who.pid who.call reply last =
          own-leads k plain_before last who.pid a who.call reply sound alike on_it.home lives may
          (no-child a who.call on_it.parks)
          (does-at-once plain_before last node who.pid who.call reply on_it.counts on_it.parks
          (line-behind opening plain_before last lines (line_of node who.pid who.call reply) led leads))
          in subst (λ o. WholeStep k who.pid who.call (outcome_with o d.wakes) last after) (sym own)
          (subst (λ ws. WholeStep k who.pid who.call (outcome_with (Some reply) ws) last after) (sym none)
          (record {
            next = s.next;
            step = s.step;
            bodies_are = λ same. bodies-kept k s.next last s.alike s.keeps before after were parts same-waiters;
          }))
        where
          same-waiters : (m : Name) → waiters_of (after m) ≡ waiters_of (before m)
          same-waiters m =
              elim (name-cases m name) [
                | inr other ↦ ap waiters_of (others m other)
                | inl e ↦
                    subst (λ z. waiters_of (after z) ≡ waiters_of (before z)) (sym (e ∙ is))
                    (process-waits-not (after (Proc q)) (get last.processes q) (parts (Proc q))
                    ∙ sym (process-waits-not (before (Proc q)) (get plain_before.processes q) (were_parts (Proc q))))
              ]
