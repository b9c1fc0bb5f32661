-- Which used numbers a step adds: the call's own, where it created something, and no other.
use Rattle.std.proofs.Common.{◌≡◌, ◌∙◌, ◌&&◌, ℕ, Bool, true, false, List, Option, Some, None, Result, Ok, Err, is_some, refl, ap, sym, subst, inl, inr}
use Rattle.std.specs.Prelude.{if◌then◌else◌, IsTrue}
use Rattle.std.proofs.lemmas.Bool.{cases_eq, false≢true}
use Rattle.pico_base.specs.declared.call.Call.{Call}
use Rattle.pico_base.specs.declared.call.Call.TheVariants as calls
use Rattle.pico_base.specs.declared.numbers.Kind.{Kind}
use Rattle.pico_base.specs.declared.numbers.Kind.TheVariants as kinds
use Rattle.pico_base.specs.declared.numbers.Name.{Name}
use Rattle.pico_base.specs.declared.numbers.Name.TheVariants.{Proc, Msg, Sem}
use Rattle.pico_base.specs.declared.reply.Errno.{Errno}
use Rattle.pico_base.specs.declared.reply.Errno.TheVariants.{Eexist}
use Rattle.pico_base.specs.declared.reply.Reply.{Reply}
use Rattle.pico_base.specs.declared.reply.Reply.TheVariants.{Num}
use Rattle.pico_base.specs.declared.signal.SigArg.{SigArg}
use Rattle.pico_base.specs.declared.signal.SigArg.TheVariants.{Zero, Is, Bad}
use Rattle.number_maps.specs.Maps.{Numbered, get, put, is_used, used_with}
use Rattle.number_maps.proofs.LookUps.{get-put-same, get-put-other}
use Rattle.kernel_model.specs.Effect.{is_fresh}
use Rattle.kernel_model.specs.Footprint.{created_kind, grown_by, is_same_kind}
use Rattle.kernel_model.specs.Queue.{Queue, empty_queue}
use Rattle.kernel_model.specs.Row.{Waited, Found, NotYet, NoChild, wait}
use Rattle.kernel_model.specs.SemaphoreSet.{SemaphoreSet, new_set}
use Rattle.kernel_model.specs.Signals.{Signals, act_on}
use Rattle.waiting_model.specs.Calls.{withdrawn_from}
use Rattle.waiting_model.specs.Waiters.{Awaited, unawaited, waiter}
use Rattle.waiting_model.specs.Marks.{Alive, Marks}
use Rattle.waiting_model.specs.Kernel.{Kernel, Process, Living, Ended, Gone, living_at, with_alive}
use Rattle.waiting_model.specs.Effect.{Effect, on_named, outcome_of_effect, park, refuse, replying, reply_with}
use Rattle.waiting_model.specs.ProcessCalls.{parent_after_fork, new_child, processes_after_fork, reap_child, action_effect, kill_at, signal_living, kill}
use Rattle.waiting_model.specs.QueueCalls.{get_queue_at, new_queue}
use Rattle.waiting_model.specs.SetCalls.{find_set, get_set_at, new_set_of}
use Rattle.waiting_model.specs.Transition.{Successor, successor, effect, finish_call, may_make, may_withdraw, outcome_of, queue_without, set_without, step_by, transition, transition_by, withdraw, withdrawn}
use Rattle.waiting_footprint_laws.specs.Footprint.{has_created, is_there, used_for, used_of}
use Rattle.waiting_footprint_laws.specs.Law.{GrowsBy}
use Rattle.waiting_footprint_laws.specs.Valid.{IsValid}
use Rattle.waiting_footprint_laws.proofs.Moved.{remarked}
use Rattle.waiting_footprint_laws.proofs.Finish.{Kept, kept-allowance, finished-at, finished-other}

-- the numbers used after an effect
pub record Grew (own : Option Kind) (n : ℕ) (k : Kernel) (e : Effect) (kind : Kind) : Type 0 where
  pub used : used_of e.kernel kind ≡ grown_by (has_created own e.kernel kind n) (used_of k kind) n
  pub says : has_created own e.kernel kind n ≡ true → e.own ≡ Some (Num n)

abbrev AllGrew : Option Kind → ℕ → Kernel → Option Effect → Type 0
AllGrew own n k None = Unit {0}
AllGrew own n k (Some e) = (kind : Kind) → Grew own n k e kind

-- Calls that create nothing.

abbrev Keeps : Kernel → Effect → Type 0
Keeps k e = (kind : Kind) → used_of e.kernel kind ≡ used_of k kind

from-keeps : (n : ℕ) (k : Kernel) (e : Effect) → Keeps k e → (kind : Kind) → Grew None n k e kind
from-keeps n k e h kind = record { used = h kind; says = λ t. absurd (false≢true t) }

module _ (k : Kernel) where
  keeps-named : {V : Type 0} (o : Option V) (f : V → Effect) → ((v : V) → Keeps k (f v)) → Keeps k (on_named k o f)
  keeps-named None f h = λ kind. refl
  keeps-named (Some v) f h = h v

  keeps-action : (pid : ℕ) (a : Alive) (r : Result Signals Errno) → Keeps k (action_effect k pid a r)
  keeps-action pid a (Ok s) = λ kind. refl
  keeps-action pid a (Err e) = λ kind. refl

  keeps-waited : (nohang : Bool) → Keeps k (if nohang then reply_with k 0 else park k)
  keeps-waited true = λ kind. refl
  keeps-waited false = λ kind. refl

  keeps-wait : (pid : ℕ) (a : Alive) (nohang : Bool) (w : Waited) → Keeps k (reap_child k pid a nohang w)
  keeps-wait pid a nohang (Found child ending) = λ kind. refl
  keeps-wait pid a nohang NotYet = keeps-waited nohang
  keeps-wait pid a nohang NoChild = λ kind. refl

  keeps-raise : (pid : ℕ) (b : Bool) (one other : Alive)
      → Keeps k (reply_with (if b then with_alive k pid one else with_alive k pid other) 0)
  keeps-raise pid true one other = λ kind. refl
  keeps-raise pid false one other = λ kind. refl

  keeps-signal : (caller pid : ℕ) (target : Alive) (sig : SigArg) → Keeps k (signal_living k caller pid target sig)
  keeps-signal caller pid target Zero = λ kind. refl
  keeps-signal caller pid target Bad = λ kind. refl
  keeps-signal caller pid target (Is g) = keeps-raise pid _ _ _

  keeps-kill_at : (caller pid : ℕ) (sig : SigArg) (o : Option Process) → Keeps k (kill_at k caller pid sig o)
  keeps-kill_at caller pid sig None = λ kind. refl
  keeps-kill_at caller pid sig (Some Gone) = λ kind. refl
  keeps-kill_at caller pid sig (Some (Ended ending)) = λ kind. refl
  keeps-kill_at caller pid sig (Some (Living target)) = keeps-signal caller pid target sig

  keeps-kill : (caller pid : ℕ) (sig : SigArg) → Keeps k (kill k caller pid sig)
  keeps-kill caller pid Bad = λ kind. refl
  keeps-kill caller pid Zero = keeps-kill_at caller pid Zero (get k.processes pid)
  keeps-kill caller pid (Is g) = keeps-kill_at caller pid (Is g) (get k.processes pid)

-- Calls that may create something, where they change nothing: nothing of the number was there.

abbrev IsQuiet : Option Kind → ℕ → Kernel → Type 0
IsQuiet own n k = (kind : Kind) → has_created own k kind n ≡ false

unchanged-grew : (own : Option Kind) (n : ℕ) (k : Kernel) (r : Reply) → IsQuiet own n k → (kind : Kind)
    → Grew own n k (replying k r) kind
unchanged-grew own n k r quiet kind =
    record {
      used = ap (λ b. grown_by b (used_of k kind) n) (sym (quiet kind));
      says =
          λ t. absurd (false≢true (sym (quiet kind) ∙ t));
    }

unused-absent : (b used : Bool) → (IsTrue b → IsTrue used) → used ≡ false → b ≡ false
unused-absent false used h u = refl
unused-absent true used h u = absurd (false≢true (sym u ∙ h refl))

quiet-queues : (k : Kernel) (n : ℕ) → IsValid k → is_used k.used_queues n ≡ false → IsQuiet (Some kinds.Msg) n k
quiet-queues k n v u kinds.Proc = refl
quiet-queues k n v u kinds.Msg = unused-absent _ _ (v.used_queues n) u
quiet-queues k n v u kinds.Sem = refl

quiet-sets : (k : Kernel) (n : ℕ) → IsValid k → is_used k.used_sets n ≡ false → IsQuiet (Some kinds.Sem) n k
quiet-sets k n v u kinds.Proc = refl
quiet-sets k n v u kinds.Msg = refl
quiet-sets k n v u kinds.Sem = unused-absent _ _ (v.used_sets n) u

-- Calls that create something.

put-there : {V : Type 0} (m : Numbered V) (n : ℕ) (v : V) → is_some (get (put m n v) n) ≡ true
put-there m n v = ap is_some (get-put-same m n v)

still-there : {V : Type 0} (m : Numbered V) (p : ℕ) (v : V) (n : ℕ) → is_some (get m n) ≡ true
    → is_some (get (put m p v) n) ≡ true
still-there m p v n h =
    elim (cases_eq n p) [
      | inl e ↦ subst (λ (q : ℕ). is_some (get (put m p v) q) ≡ true) (sym e) (put-there m p v)
      | inr ne ↦ ap is_some (get-put-other m p v n ne) ∙ h
    ]

grown-there : (b : Bool) (used : List ℕ) (n : ℕ) → b ≡ true → used_with used n ≡ grown_by b used n
grown-there b used n h = ap (λ c. grown_by c used n) (sym h)

module _ (k : Kernel) (n : ℕ) where
  grew-process : (ps : Numbered Process) → is_some (get ps n) ≡ true
      → (kind : Kind) → Grew (Some kinds.Proc) n k
      (reply_with (record k { processes = ps; used_processes = used_with k.used_processes n }) n) kind
  grew-process ps h kinds.Proc =
      record { used = grown-there (is_some (get ps n)) k.used_processes n h; says = λ t. refl }
  grew-process ps h kinds.Msg = record { used = refl; says = λ t. refl }
  grew-process ps h kinds.Sem = record { used = refl; says = λ t. refl }

  abbrev new : Awaited Queue
  new = unawaited empty_queue

  grew-queue : (keys : Numbered ℕ) (kind : Kind)
      → Grew (Some kinds.Msg) n k
      (reply_with (record k {
        queues = put k.queues n new;
        queue_keys = keys;
        used_queues =
            used_with k.used_queues n;
      }) n) kind
  grew-queue keys kinds.Proc = record { used = refl; says = λ t. refl }
  grew-queue keys kinds.Msg =
      record {
        used = grown-there (is_some (get (put k.queues n new) n)) k.used_queues n (put-there k.queues n new);
        says = λ t. refl;
      }
  grew-queue keys kinds.Sem = record { used = refl; says = λ t. refl }

  grew-set : (keys : Numbered ℕ) (s : Awaited SemaphoreSet) (kind : Kind)
      → Grew (Some kinds.Sem) n k
      (reply_with (record k { sets = put k.sets n s; set_keys = keys; used_sets = used_with k.used_sets n }) n) kind
  grew-set keys s kinds.Proc = record { used = refl; says = λ t. refl }
  grew-set keys s kinds.Msg = record { used = refl; says = λ t. refl }
  grew-set keys s kinds.Sem =
      record {
        used = grown-there (is_some (get (put k.sets n s) n)) k.used_sets n (put-there k.sets n s);
        says =
            λ t. refl;
      }

  grew-if : (own : Option Kind) (b : Bool) (e : Effect) → ((kind : Kind) → Grew own n k e kind)
      → AllGrew own n k (if b then Some e else None)
  grew-if own true e h = h
  grew-if own false e h = tt

  grew-fork : (pid : ℕ) (a : Alive) → AllGrew (Some kinds.Proc) n k
      (if is_fresh k.used_processes n
      then Some (reply_with
      (record k {
        processes = processes_after_fork k.processes pid a n;
        used_processes =
            used_with k.used_processes n;
      }) n)
      else None)
  grew-fork pid a =
      grew-if (Some kinds.Proc) (is_fresh k.used_processes n) _
      (grew-process (processes_after_fork k.processes pid a n)
      (still-there (put k.processes n (Living (new_child a))) pid (Living (parent_after_fork a n)) n
      (put-there k.processes n (Living (new_child a)))))

  grew-new_queue : (keys : Numbered ℕ) → AllGrew (Some kinds.Msg) n k (new_queue k keys n)
  grew-new_queue keys = grew-if (Some kinds.Msg) (is_fresh k.used_queues n) _ (grew-queue keys)

  grew-new_set : (keys : Numbered ℕ) (r : Result SemaphoreSet Errno) → IsQuiet (Some kinds.Sem) n k
      → AllGrew (Some kinds.Sem) n k (new_set_of k keys n r)
  grew-new_set keys (Err e) quiet = unchanged-grew (Some kinds.Sem) n k _ quiet
  grew-new_set keys (Ok s) quiet =
      grew-if (Some kinds.Sem) (is_fresh k.used_sets n) _ (grew-set keys (unawaited s))

  unchanged-if : (own : Option Kind) (b : Bool) (r s : Reply) → IsQuiet own n k
      → (kind : Kind) → Grew own n k (if b then replying k r else replying k s) kind
  unchanged-if own true r s quiet = unchanged-grew own n k r quiet
  unchanged-if own false r s quiet = unchanged-grew own n k s quiet

  grew-get_queue_at : (key : ℕ) (create excl : Bool) (o : Option ℕ) → IsQuiet (Some kinds.Msg) n k
      → AllGrew (Some kinds.Msg) n k (get_queue_at k key create excl n o)
  grew-get_queue_at key create excl (Some id) quiet = unchanged-if (Some kinds.Msg) (create && excl) _ _ quiet
  grew-get_queue_at key true excl None quiet = grew-new_queue (put k.queue_keys key n)
  grew-get_queue_at key false excl None quiet = unchanged-grew (Some kinds.Msg) n k _ quiet

  found-grew : (id count : ℕ) → IsQuiet (Some kinds.Sem) n k → (b : Bool) (kind : Kind)
      → Grew (Some kinds.Sem) n k (if b then refuse k Eexist else find_set k id count) kind
  found-grew id count quiet true = unchanged-grew (Some kinds.Sem) n k _ quiet
  found-grew id count quiet false = unchanged-if (Some kinds.Sem) _ _ _ quiet

  grew-get_set_at : (key count : ℕ) (create excl : Bool) (o : Option ℕ) → IsQuiet (Some kinds.Sem) n k
      → AllGrew (Some kinds.Sem) n k (get_set_at k key count create excl n o)
  grew-get_set_at key count create excl (Some id) quiet = found-grew id count quiet (create && excl)
  grew-get_set_at key count true excl None quiet = grew-new_set (put k.set_keys key n) (new_set count) quiet
  grew-get_set_at key count false excl None quiet = unchanged-grew (Some kinds.Sem) n k _ quiet

-- Each call's effect.

module _ (k : Kernel) (pid : ℕ) (a : Alive) (n : ℕ) (v : IsValid k) where
  grew-effect : (call : Call) → is_used (used_for k call) n ≡ false
      → AllGrew (created_kind call) n k (effect k (waiter pid call) a n)
  grew-effect (calls.Fork block) u = grew-fork k n pid a
  grew-effect (calls.Exit status) u = from-keeps n k _ (λ kind. refl)
  grew-effect (calls.Killed sig) u = from-keeps n k _ (λ kind. refl)
  grew-effect calls.GetPid u = from-keeps n k _ (λ kind. refl)
  grew-effect (calls.Kill target sig) u = from-keeps n k _ (keeps-kill k pid target sig)
  grew-effect (calls.SigAction sig act) u = from-keeps n k _ (keeps-action k pid a (act_on a.row.signals sig act))
  grew-effect (calls.SigProcMask how set) u = from-keeps n k _ (λ kind. refl)
  grew-effect calls.SigPending u = from-keeps n k _ (λ kind. refl)
  grew-effect (calls.Handled sig) u = from-keeps n k _ (λ kind. refl)
  grew-effect (calls.WaitPid child nohang) u =
      from-keeps n k _ (keeps-wait k pid a nohang (wait a.row.family child))
  grew-effect (calls.MsgGet None create excl) u = grew-new_queue k n k.queue_keys
  grew-effect (calls.MsgGet (Some key) create excl) u =
      grew-get_queue_at k n key create excl (get k.queue_keys key) (quiet-queues k n v u)
  grew-effect (calls.MsgSnd id class text nowait) u =
      from-keeps n k _ (keeps-named k (get k.queues id) _ (λ q kind. refl))
  grew-effect (calls.MsgRcv id class size noerror nowait) u =
      from-keeps n k _ (keeps-named k (get k.queues id) _ (λ q kind. refl))
  grew-effect (calls.MsgStat id) u =
      from-keeps n k _ (keeps-named k (get k.queues id) _ (λ q kind. refl))
  grew-effect (calls.MsgSet id qbytes) u =
      from-keeps n k _ (keeps-named k (get k.queues id) _ (λ q kind. refl))
  grew-effect (calls.MsgRmid id) u = from-keeps n k _ (keeps-named k (get k.queues id) _ (λ q kind. refl))
  grew-effect (calls.SemGet None count create excl) u = grew-new_set k n k.set_keys (new_set count) (quiet-sets k n v u)
  grew-effect (calls.SemGet (Some key) count create excl) u =
      grew-get_set_at k n key count create excl (get k.set_keys key) (quiet-sets k n v u)
  grew-effect (calls.SemOp id steps) u =
      from-keeps n k _ (keeps-named k (get k.sets id) _ (λ s kind. refl))
  grew-effect (calls.SemGetVal id num) u =
      from-keeps n k _ (keeps-named k (get k.sets id) _ (λ s kind. refl))
  grew-effect (calls.SemGetPid id num) u =
      from-keeps n k _ (keeps-named k (get k.sets id) _ (λ s kind. refl))
  grew-effect (calls.SemGetNcnt id num) u =
      from-keeps n k _ (keeps-named k (get k.sets id) _ (λ s kind. refl))
  grew-effect (calls.SemGetZcnt id num) u =
      from-keeps n k _ (keeps-named k (get k.sets id) _ (λ s kind. refl))
  grew-effect (calls.SemSetVal id num value) u =
      from-keeps n k _ (keeps-named k (get k.sets id) _ (λ s kind. refl))
  grew-effect (calls.SemGetAll id) u =
      from-keeps n k _ (keeps-named k (get k.sets id) _ (λ s kind. refl))
  grew-effect (calls.SemSetAll id values) u =
      from-keeps n k _ (keeps-named k (get k.sets id) _ (λ s kind. refl))
  grew-effect (calls.SemRmid id) u = from-keeps n k _ (keeps-named k (get k.sets id) _ (λ s kind. refl))
  grew-effect (calls.Withdraw name) u = tt

-- What follows an effect leaves the used numbers, and what is there.

pub record SameNumbers (n : ℕ) (before after : Kernel) (kind : Kind) : Type 0 where
  pub used : used_of after kind ≡ used_of before kind
  pub there : is_there after kind n ≡ is_there before kind n

remarked-there : (f : Marks → Marks) (o : Option Process) → is_some (remarked f o) ≡ is_some o
remarked-there f None = refl
remarked-there f (Some p) = refl

there-finished : (n : ℕ) (k : Kernel) (pid : ℕ) (call : Call) (own : Option Reply)
    → is_some (get (finish_call k pid call own).processes n) ≡ is_some (get k.processes n)
there-finished n k pid call own =
    elim (cases_eq n pid) [
      | inl e ↦
          subst
          (λ (q : ℕ). is_some (get (finish_call k pid call own).processes q) ≡ is_some (get k.processes q)) (sym e)
          (ap is_some (finished-at k pid call own) ∙ remarked-there _ (get k.processes pid))
      | inr ne ↦ ap is_some (finished-other k pid call own n ne)
    ]

finish-numbers : (n : ℕ) (k : Kernel) (pid : ℕ) (call : Call) (own : Option Reply) (kind : Kind)
    → SameNumbers n k (finish_call k pid call own) kind
finish-numbers n k pid call own kinds.Proc =
    let x : Kept _ k = kept-allowance k pid (living_at k pid)
    in record { used = x.used_processes; there = there-finished n k pid call own }
finish-numbers n k pid call own kinds.Msg =
    let x : Kept _ k = kept-allowance k pid (living_at k pid)
    in record { used = x.used_queues; there = ap (λ (m : Numbered (Awaited Queue)). is_some (get m n)) x.queues }
finish-numbers n k pid call own kinds.Sem =
    let x : Kept _ k = kept-allowance k pid (living_at k pid)
    in record { used = x.used_sets; there = ap (λ (m : Numbered (Awaited SemaphoreSet)). is_some (get m n)) x.sets }

created-same : (own : Option Kind) (n : ℕ) (before after : Kernel) (kind : Kind)
    → is_there after kind n ≡ is_there before kind n
    → has_created own after kind n ≡ has_created own before kind n
created-same None n before after kind h = refl
created-same (Some own) n before after kind h = ap (λ t. is_same_kind own kind && t) h

-- A withdrawal creates nothing.

withdrawal-creates : (call : Call) (name : Name) → withdrawn_from call ≡ Some name → created_kind call ≡ None
withdrawal-creates (calls.Withdraw own) name h = refl
withdrawal-creates call name h = cc

queue-used : (k : Kernel) (id pid : ℕ) (o : Option (Awaited Queue)) (kind : Kind)
    → used_of (queue_without k id pid o) kind ≡ used_of k kind
queue-used k id pid None kind = refl
queue-used k id pid (Some q) kind = refl

set-used : (k : Kernel) (id pid : ℕ) (o : Option (Awaited SemaphoreSet)) (kind : Kind)
    → used_of (set_without k id pid o) kind ≡ used_of k kind
set-used k id pid None kind = refl
set-used k id pid (Some s) kind = refl

withdrawn-used : (k : Kernel) (pid : ℕ) (name : Name) (kind : Kind)
    → used_of (withdrawn k pid name) kind ≡ used_of k kind
withdrawn-used k pid (Proc own) kind = refl
withdrawn-used k pid (Msg id) kind = queue-used k id pid (get k.queues id) kind
withdrawn-used k pid (Sem id) kind = set-used k id pid (get k.sets id) kind

-- Each call's step.

module _ (k : Kernel) (pid : ℕ) (call : Call) (n : ℕ) where
  abbrev Growth : Successor → Type 0
  Growth s = (kind : Kind) → GrowsBy call n s.outcome k s.kernel kind

  grows-after : (e : Effect) → ((kind : Kind) → Grew (created_kind call) n k e kind)
      → Growth (successor (finish_call e.kernel pid call e.own) (outcome_of_effect e))
  grows-after e g kind =
      let same = finish-numbers n e.kernel pid call e.own kind
      in let created = created-same (created_kind call) n e.kernel (finish_call e.kernel pid call e.own) kind same.there
      in record {
        used = same.used ∙ (g kind).used ∙ ap (λ b. grown_by b (used_of k kind) n) (sym created);
        reply = λ t. (g kind).says (sym created ∙ t);
      }

  grows-outcome : (o : Option Effect) → AllGrew (created_kind call) n k o → (s : Successor)
      → outcome_of pid call o ≡ Some s → Growth s
  grows-outcome None g s h = cc
  grows-outcome (Some e) g s h =
      let same : successor (finish_call e.kernel pid call e.own) (outcome_of_effect e) ≡ s = cc
      in subst (λ (t : Successor). Growth t) same (grows-after e g)

  grows-if : (b : Bool) (o : Option Effect) → AllGrew (created_kind call) n k o → (s : Successor)
      → (if b then outcome_of pid call o else None) ≡ Some s → Growth s
  grows-if true o g s h = grows-outcome o g s h
  grows-if false o g s h = cc

  grows-withdrawn : (name : Name) → created_kind call ≡ None → Growth (withdraw k pid name)
  grows-withdrawn name none kind =
      let nothing : has_created (created_kind call) (withdrawn k pid name) kind n ≡ false =
      ap (λ (own : Option Kind). has_created own (withdrawn k pid name) kind n) none
      in record {
        used = withdrawn-used k pid name kind ∙ ap (λ b. grown_by b (used_of k kind) n) (sym nothing);
        reply = λ t. absurd (false≢true (sym nothing ∙ t));
      }

  grows-left : (name : Name) → created_kind call ≡ None → (b : Bool) (s : Successor)
      → (if b then Some (withdraw k pid name) else None) ≡ Some s → Growth s
  grows-left name none true s h =
      let same : withdraw k pid name ≡ s = cc
      in subst (λ (t : Successor). Growth t) same (grows-withdrawn name none)
  grows-left name none false s h = cc

  module _ (v : IsValid k) (u : is_used (used_for k call) n ≡ false) where
    grows-step : (a : Alive) (o : Option Name) → withdrawn_from call ≡ o → (s : Successor)
        → step_by k pid call n a o ≡ Some s → Growth s
    grows-step a None plain s h =
        grows-if (may_make a call) (effect k (waiter pid call) a n) (grew-effect k pid a n v call u) s h
    grows-step a (Some name) leaves s h =
        grows-left name (withdrawal-creates call name leaves) (may_withdraw pid a name) s h

    grows-by : (o : Option Alive) (s : Successor) → transition_by k pid call n o ≡ Some s → Growth s
    grows-by None s h = cc
    grows-by (Some a) s h = grows-step a (withdrawn_from call) refl s h

  -- what the numbers used are after a step
  pub growth : IsValid k → is_used (used_for k call) n ≡ false → (s : Successor) → transition k pid call n ≡ Some s
      → (kind : Kind) → GrowsBy call n s.outcome k s.kernel kind
  growth v u s h = grows-by v u (living_at k pid) s h
