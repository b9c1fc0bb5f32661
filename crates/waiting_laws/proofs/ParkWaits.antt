-- Behind each legal history the kernel is sound, and nobody is parked but with a call that may have to wait.
use Rattle.std.proofs.Common.{◌≡◌, ◌∙◌, ℕ, Bool, true, false, nat_eq, List, [], ◌∷◌, Option, Some, None, refl, ap, sym, subst}
use Rattle.std.specs.Prelude.{if◌then◌else◌}
use Rattle.std.specs.Option.{option_map}
use Rattle.pico_base.specs.declared.call.Call.{Call}
use Rattle.pico_base.specs.declared.call.Call.TheVariants as calls
use Rattle.pico_base.specs.Home.{home_of}
use Rattle.pico_base.specs.declared.reply.Entry.{Entry}
use Rattle.pico_base.specs.declared.reply.Errno.TheVariants.{Einval}
use Rattle.pico_base.specs.declared.reply.Reply.{Reply}
use Rattle.pico_base.specs.declared.reply.Reply.TheVariants as replies
use Rattle.number_maps.specs.Maps.{Numbered, get}
use Rattle.number_maps.proofs.Rising.{rising-nothing}
use Rattle.kernel_model.specs.Kernel as plain
use Rattle.kernel_model.specs.History.{number_in}
use Rattle.kernel_model.specs.Queue.{Queue}
use Rattle.kernel_model.specs.SemaphoreSet.{SemaphoreSet}
use Rattle.kernel_laws.specs.Reachable.{IsReachableKernel}
use Rattle.kernel_laws.proofs.Plain.{from_some, not_some}
use Rattle.kernel_laws.proofs.ValidLaws.{children_have_one_parent_lemma, reachable_kernels_are_valid_lemma}
use Rattle.waiting_model.specs.Calls.{may_park}
use Rattle.waiting_model.specs.Waiters.{Attempt, Awaited, Carried, Try, carry_out_by, waiter}
use Rattle.waiting_model.specs.Queue.{carry_out_on_queue, try_queue}
use Rattle.waiting_model.specs.SemaphoreSet.{carry_out_on_set, carry_out_on_set_by, try_set}
use Rattle.waiting_model.specs.Marks.{Alive}
use Rattle.waiting_model.specs.Kernel.{Kernel, Process, Living, Ended, Gone, opening}
use Rattle.waiting_model.specs.Effect.{Effect, on_named}
use Rattle.waiting_model.specs.Plain.{each, plain_process}
use Rattle.waiting_model.specs.QueueCalls.{queue_effect, remove_queue}
use Rattle.waiting_model.specs.SetCalls.{remove_set, set_effect}
use Rattle.waiting_model.specs.Transition.{Successor, effect, successor, transition}
use Rattle.waiting_model.specs.History.{Replays}
use Rattle.waiting_laws.specs.InLine.{AlikeAt, IsAlike}
use Rattle.waiting_laws.specs.Lines.{OnlyWaitsPark, ReachableKernelsParkWaits}
use Rattle.waiting_laws.specs.MarkMoves.{own_mark}
use Rattle.waiting_laws.specs.Parked.{mark_in}
use Rattle.waiting_laws.specs.Sound.{IsSound}
use Rattle.waiting_laws.specs.Woken.{woken_in}
use Rattle.waiting_laws.proofs.Entries.{opening-fine, opening-unmarked}
use Rattle.waiting_laws.proofs.LinesLead.{BothHave, both-have, get-home, kill-home}
use Rattle.waiting_laws.proofs.Maps.{get-each}
use Rattle.waiting_laws.proofs.MarkMoves.{entry-moves}
use Rattle.waiting_laws.proofs.Options.{not-none, some-isnt-none}
use Rattle.waiting_laws.proofs.OwnLines.{Stands, is_of_process, own-effects, waits_for_child}
use Rattle.waiting_laws.proofs.RemovalLines.{queue-waits, set-waits}
use Rattle.waiting_laws.proofs.Rows.{RowsAlike, form-alike}
use Rattle.waiting_laws.proofs.SoundFine.{sound-fair, sound-fine}
use Rattle.waiting_laws.proofs.Soundness.{entries-keep-soundness}
use Rattle.waiting_laws.proofs.Steps.{Makes, makes, leaves}

-- ---- histories

-- the opening kernel is sound
pub opening-sound : IsSound opening
opening-sound =
    let reachable : IsReachableKernel plain.opening = ([], refl)
    in record {
      valid = reachable_kernels_are_valid_lemma plain.opening reachable;
      alone = λ pid a lives. (children_have_one_parent_lemma plain.opening reachable pid).not_itself a lives;
      processes = opening-fine.people.rising;
      queues = rising-nothing (Awaited Queue);
      sets = rising-nothing (Awaited SemaphoreSet);
      marks = opening-fine.marks;
      waits = λ pid a child nohang lives parked. opening-fine.people.patient pid a lives child nohang parked;
      settled = record { queues = tt; sets = tt };
    }

rows-self : (ps : Numbered Process) → RowsAlike ps (each plain_process ps)
rows-self ps pid =
    subst (λ (o : Option plain.Process). AlikeAt (get ps pid) o) (sym (get-each plain_process ps pid))
    (at_process (get ps pid))
  where
    at_process : (o : Option Process) → AlikeAt o (option_map plain_process o)
    at_process None = tt
    at_process (Some (Living a)) = (refl, λ none. refl)
    at_process (Some (Ended ending)) = refl
    at_process (Some Gone) = tt

-- and alike
pub opening-alike : IsAlike opening plain.opening
opening-alike = form-alike opening plain.opening.processes (rows-self opening.processes)

-- ---- a call without a reply may have to wait

no-attempt : {T : Type 0} (try : Try T) (o : Awaited T) (pid : ℕ) (call : Call) (x : Option (Attempt T))
    → (let c : Carried T = carry_out_by try o (waiter pid call) x in c.own ≡ None) → x ≡ None
no-attempt try o pid call None h = refl
no-attempt try o pid call (Some a) h = not-none a.reply h

queue-parks : (k : Kernel) (id pid : ℕ) (call : Call) (o : Option (Awaited Queue)) (e : Effect)
    → on_named k o (λ q. queue_effect k id (carry_out_on_queue q (waiter pid call))) ≡ e → e.own ≡ None
    → may_park call ≡ true
queue-parks k id pid call None e is none =
    some-isnt-none (replies.Fail Einval) e.own (ap (λ (x : Effect). x.own) (sym is)) none
queue-parks k id pid call (Some q) e is none =
    queue-waits q.state pid call
    (no-attempt try_queue q pid call (try_queue q.state pid call) (ap (λ (x : Effect). x.own) is ∙ none))

set-by : (s : Awaited SemaphoreSet) (pid : ℕ) (call made : Call) → call ≡ made
    → (carry_out_on_set_by s (waiter pid call) made).own ≡ None → may_park call ≡ true
set-by s pid call (calls.SemGetNcnt id num) same none = not-none _ none
set-by s pid call (calls.SemGetZcnt id num) same none = not-none _ none
set-by s pid call made same none =
    set-waits s.state pid call (no-attempt try_set s pid call (try_set s.state pid call) none)

set-parks : (k : Kernel) (id pid : ℕ) (call : Call) (o : Option (Awaited SemaphoreSet)) (e : Effect)
    → on_named k o (λ s. set_effect k id (carry_out_on_set s (waiter pid call))) ≡ e → e.own ≡ None
    → may_park call ≡ true
set-parks k id pid call None e is none =
    some-isnt-none (replies.Fail Einval) e.own (ap (λ (x : Effect). x.own) (sym is)) none
set-parks k id pid call (Some s) e is none = set-by s pid call call refl (ap (λ (x : Effect). x.own) is ∙ none)

queue-goes : {B : Type 0} (k : Kernel) (id : ℕ) (o : Option (Awaited Queue)) (e : Effect)
    → on_named k o (remove_queue k id) ≡ e → e.own ≡ None → B
queue-goes k id None e is none = some-isnt-none (replies.Fail Einval) e.own (ap (λ (x : Effect). x.own) (sym is)) none
queue-goes k id (Some q) e is none = some-isnt-none (replies.Num 0) e.own (ap (λ (x : Effect). x.own) (sym is)) none

set-goes : {B : Type 0} (k : Kernel) (id : ℕ) (o : Option (Awaited SemaphoreSet)) (e : Effect)
    → on_named k o (remove_set k id) ≡ e → e.own ≡ None → B
set-goes k id None e is none = some-isnt-none (replies.Fail Einval) e.own (ap (λ (x : Effect). x.own) (sym is)) none
set-goes k id (Some s) e is none = some-isnt-none (replies.Num 0) e.own (ap (λ (x : Effect). x.own) (sym is)) none

module _ (k : Kernel) (sound : IsSound k) (pid : ℕ) (a : Alive) where
  stands-self : Stands k (each plain_process k.processes) pid
  stands-self =
      let fine = sound-fine k sound
      in record {
        alike = rows-self k.processes;
        fair = λ q ne. sound-fair k sound q;
        queues = fine.unused_queues;
        sets = fine.unused_sets;
      }

  -- a call that is on no queue and no set, and finds something, has its reply
  own-replies : {B : Type 0} (call : Call) (n : ℕ) (e : Effect) → is_of_process (home_of pid call) ≡ true
      → waits_for_child a call ≡ false → effect k (waiter pid call) a n ≡ Some e → e.own ≡ None → B
  own-replies call n e home found does none =
      let h : BothHave k pid e _ =
      both-have k pid (effect k (waiter pid call) a n) _
      (own-effects k (each plain_process k.processes) pid stands-self a a.marks.allowance (λ d. refl) call n home found)
      e does
      in some-isnt-none h.other.reply e.own h.same.own none

  effect-parks : (call : Call) (n : ℕ) (e : Effect) → effect k (waiter pid call) a n ≡ Some e → e.own ≡ None
      → may_park call ≡ true
  effect-parks (calls.Fork block) n e does none = own-replies (calls.Fork block) n e refl refl does none
  effect-parks (calls.Exit status) n e does none =
      some-isnt-none replies.Ended e.own (ap (λ (x : Effect). x.own) (sym (from_some _ e does))) none
  effect-parks (calls.Killed sig) n e does none =
      some-isnt-none replies.Ended e.own (ap (λ (x : Effect). x.own) (sym (from_some _ e does))) none
  effect-parks calls.GetPid n e does none = own-replies calls.GetPid n e refl refl does none
  effect-parks (calls.Kill target sig) n e does none =
      own-replies (calls.Kill target sig) n e (kill-home pid target sig) refl does none
  effect-parks (calls.SigAction sig act) n e does none =
      own-replies (calls.SigAction sig act) n e refl refl does none
  effect-parks (calls.SigProcMask how set) n e does none =
      own-replies (calls.SigProcMask how set) n e refl refl does none
  effect-parks calls.SigPending n e does none = own-replies calls.SigPending n e refl refl does none
  effect-parks (calls.Handled sig) n e does none = own-replies (calls.Handled sig) n e refl refl does none
  effect-parks (calls.WaitPid child true) n e does none =
      own-replies (calls.WaitPid child true) n e refl refl does none
  effect-parks (calls.WaitPid child false) n e does none = refl
  effect-parks (calls.MsgGet key create excl) n e does none =
      own-replies (calls.MsgGet key create excl) n e (get-home key) refl does none
  effect-parks (calls.MsgSnd id class text nowait) n e does none =
      queue-parks k id pid (calls.MsgSnd id class text nowait) (get k.queues id) e (from_some _ e does) none
  effect-parks (calls.MsgRcv id class size noerror nowait) n e does none =
      queue-parks k id pid (calls.MsgRcv id class size noerror nowait) (get k.queues id) e (from_some _ e does) none
  effect-parks (calls.MsgStat id) n e does none =
      queue-parks k id pid (calls.MsgStat id) (get k.queues id) e (from_some _ e does) none
  effect-parks (calls.MsgSet id qbytes) n e does none =
      queue-parks k id pid (calls.MsgSet id qbytes) (get k.queues id) e (from_some _ e does) none
  effect-parks (calls.MsgRmid id) n e does none = queue-goes k id (get k.queues id) e (from_some _ e does) none
  effect-parks (calls.SemGet key count create excl) n e does none =
      own-replies (calls.SemGet key count create excl) n e (get-home key) refl does none
  effect-parks (calls.SemOp id steps) n e does none =
      set-parks k id pid (calls.SemOp id steps) (get k.sets id) e (from_some _ e does) none
  effect-parks (calls.SemGetVal id num) n e does none =
      set-parks k id pid (calls.SemGetVal id num) (get k.sets id) e (from_some _ e does) none
  effect-parks (calls.SemGetPid id num) n e does none =
      set-parks k id pid (calls.SemGetPid id num) (get k.sets id) e (from_some _ e does) none
  effect-parks (calls.SemGetNcnt id num) n e does none =
      set-parks k id pid (calls.SemGetNcnt id num) (get k.sets id) e (from_some _ e does) none
  effect-parks (calls.SemGetZcnt id num) n e does none =
      set-parks k id pid (calls.SemGetZcnt id num) (get k.sets id) e (from_some _ e does) none
  effect-parks (calls.SemSetVal id num value) n e does none =
      set-parks k id pid (calls.SemSetVal id num value) (get k.sets id) e (from_some _ e does) none
  effect-parks (calls.SemGetAll id) n e does none =
      set-parks k id pid (calls.SemGetAll id) (get k.sets id) e (from_some _ e does) none
  effect-parks (calls.SemSetAll id values) n e does none =
      set-parks k id pid (calls.SemSetAll id values) (get k.sets id) e (from_some _ e does) none
  effect-parks (calls.SemRmid id) n e does none = set-goes k id (get k.sets id) e (from_some _ e does) none
  effect-parks (calls.Withdraw name) n e does none = not_some e does

-- so an entry without a reply is of such a call
pub entry-parks : (k : Kernel) → IsSound k → (pid : ℕ) (call : Call) (n : ℕ) (s : Successor)
    → transition k pid call n ≡ Some s → s.outcome.own ≡ None → may_park call ≡ true
entry-parks k sound pid (calls.Withdraw name) n s step none =
    let l = leaves k pid name n s step
    in some-isnt-none _ s.outcome.own (ap (λ (t : Successor). t.outcome.own) (sym l.is)) none
entry-parks k sound pid call n s step none =
    let m : Makes k pid call n s = makes k pid call n s refl step
    in effect-parks k sound pid m.alive call n m.step m.does
    (ap (λ (t : Successor). t.outcome.own) m.is ∙ none)

-- ---- marks

own-waits : (call c : Call) (own : Option Reply) → (own ≡ None → may_park call ≡ true) → own_mark call own ≡ Some c
    → may_park c ≡ true
own-waits call c None may is = subst (λ (x : Call). may_park x ≡ true) (from_some call c is) (may refl)
own-waits call c (Some reply) may is = not_some c is

-- each entry leaves nobody parked with another call
pub entry-waits : (k : Kernel) → IsSound k → OnlyWaitsPark k → (pid : ℕ) (call : Call) (n : ℕ) (s : Successor)
    → transition k pid call n ≡ Some s → OnlyWaitsPark s.kernel
entry-waits k sound parks pid call n s step q c marked =
    by_tests (nat_eq pid q) (woken_in q s.outcome.woken)
    (sym (entry-moves k (sound-fine k sound) pid call n s step q) ∙ marked)
  where
    by_tests : (x y : Bool)
        → (if x then own_mark call s.outcome.own else if y then None else mark_in k.processes q) ≡ Some c
        → may_park c ≡ true
    by_tests true y is =
        own-waits call c s.outcome.own (entry-parks k sound pid call n s step) is
    by_tests false true is = not_some c is
    by_tests false false is = parks q c is

-- behind each legal history
pub record IsReached (k : Kernel) : Type 0 where
  pub sound : IsSound k
  pub parks : OnlyWaitsPark k

reached-along : (h : List Entry) (k last : Kernel) → IsReached k → Replays k h last → IsReached last
reached-along [] k last reached r = subst IsReached r reached
reached-along (e ∷ es) k last reached r =
    let s : Successor = successor r.next e.outcome
    in let n : ℕ = number_in e.outcome.own
    in reached-along es r.next last
    (record {
      sound = entries-keep-soundness k e.pid e.call n s reached.sound r.step;
      parks = entry-waits k reached.sound reached.parks e.pid e.call n s r.step;
    })
    r.rest

-- the opening is sound, and nobody is parked in it
pub opening-reached : IsReached opening
opening-reached = record { sound = opening-sound; parks = λ q c is. not_some c (sym (opening-unmarked q) ∙ is) }

-- whatever a legal history leads to is sound, and only waits are parked there
pub reached : (h : List Entry) (k : Kernel) → Replays opening h k → IsReached k
reached h k r = reached-along h opening k opening-reached r

-- only waits are parked
pub reachable-park-waits : ReachableKernelsParkWaits
reachable-park-waits h k r =
    let x : IsReached k = reached h k r in x.parks
