-- Which used numbers a step adds: the call's own, where it created something, and no other.
use Rattle.std.proofs.Common.{◌≡◌, ℕ, Bool, true, false, ◌&&◌, List, Option, Some, None, Result, Ok, Err, is_some, refl, ap, sym, subst, ◌∙◌, inl, inr, nat_eq}
use Rattle.std.specs.Prelude.{if◌then◌else◌, IsTrue}
use Rattle.std.specs.List.{list_any}
use Rattle.std.specs.Option.{option_and_then}
use Rattle.std.proofs.lemmas.Bool.{cases_eq, false≢true}
use Rattle.pico_base.specs.declared.call.Call.{Call}
use Rattle.pico_base.specs.declared.call.Call.TheVariants as calls
use Rattle.pico_base.specs.declared.numbers.Kind.{Kind}
use Rattle.pico_base.specs.declared.numbers.Kind.TheVariants as kinds
use Rattle.pico_base.specs.declared.reply.Errno.{Errno}
use Rattle.pico_base.specs.declared.reply.Errno.TheVariants.{Eexist}
use Rattle.pico_base.specs.declared.reply.Reply.{Reply}
use Rattle.pico_base.specs.declared.reply.Reply.TheVariants.{Num}
use Rattle.pico_base.specs.declared.signal.SigArg.{SigArg}
use Rattle.pico_base.specs.declared.signal.SigArg.TheVariants.{Zero, Is, Bad}
use Rattle.number_maps.specs.Maps.{Numbered, get, put, is_used, used_with}
use Rattle.kernel_model.specs.Signals.{Signals, act_on}
use Rattle.kernel_model.specs.Row.{Alive, Spent, Waited, Found, NotYet, NoChild, wait}
use Rattle.kernel_model.specs.Queue.{Queue, Received, empty_queue, send, receive, set_qbytes}
use Rattle.kernel_model.specs.SemaphoreSet.{SemaphoreSet, new_set, op, value_at, last_at, waiting_at, set_value, set_all}
use Rattle.kernel_model.specs.Kernel.{Kernel, Process, Living, Ended, Gone, alive_in, living_at, with_alive}
use Rattle.kernel_model.specs.Effect.{Effect, reply_with, refuse, look_up, on_named, is_fresh, reply_alone}
use Rattle.kernel_model.specs.ProcessCalls.{parent_after_fork, new_child, processes_after_fork, reap_child, action_effect, kill_at, signal_living, kill}
use Rattle.kernel_model.specs.QueueCalls.{new_queue, get_queue_at, change_queue, receive_effect}
use Rattle.kernel_model.specs.SetCalls.{new_set_of, find_set, get_set_at, change_set}
use Rattle.kernel_model.specs.Waiting.{may_wait}
use Rattle.kernel_model.specs.Transition.{Successor, successor, effect, may_make, finish_call, outcome_of, transition_by, transition}
use Rattle.kernel_model.specs.Valid.{IsValid}
use Rattle.kernel_model.specs.Footprint.{created_kind, grown_by, has_created, is_same_kind, is_there, used_for, used_of}
use Rattle.kernel_model.specs.FootprintLaw.{GrowsBy}
use Rattle.number_maps.proofs.LookUps.{get-put-same, get-put-other}

-- the numbers used after an effect
pub record Grew (own : Option Kind) (n : ℕ) (k : Kernel) (e : Effect) (kind : Kind) : Type 0 where
  pub used : used_of e.kernel kind ≡ grown_by (has_created own e.kernel kind n) (used_of k kind) n
  pub says : has_created own e.kernel kind n ≡ true → e.reply ≡ Num n

abbrev AllGrew : Option Kind → ℕ → Kernel → Option Effect → Type 0
AllGrew own n k None = Unit {0}
AllGrew own n k (Some e) = (kind : Kind) → Grew own n k e kind

-- Calls that create nothing.

abbrev Keeps : Kernel → Effect → Type 0
Keeps k e = (kind : Kind) → used_of e.kernel kind ≡ used_of k kind

from-keeps : (n : ℕ) (k : Kernel) (e : Effect) → Keeps k e → (kind : Kind) → Grew None n k e kind
from-keeps n k e h kind = record { used = h kind; says = λ t. absurd (false≢true t) }

module _ (k : Kernel) where
  keeps-named : {V : Type 0} (o : Option V) (f : V → Effect) → ((v : V) → Keeps k (f v)) → Keeps k (on_named k o f)
  keeps-named None f h = λ kind. refl
  keeps-named (Some v) f h = h v

  keeps-look : (r : Result ℕ Errno) → Keeps k (look_up k r)
  keeps-look (Ok m) = λ kind. refl
  keeps-look (Err e) = λ kind. refl

  keeps-queue : (id : ℕ) (r : Result Queue Errno) → Keeps k (change_queue k id r)
  keeps-queue id (Ok q) = λ kind. refl
  keeps-queue id (Err e) = λ kind. refl

  keeps-received : (id : ℕ) (r : Result Received Errno) → Keeps k (receive_effect k id r)
  keeps-received id (Ok r) = λ kind. refl
  keeps-received id (Err e) = λ kind. refl

  keeps-set : (id : ℕ) (r : Result SemaphoreSet Errno) → Keeps k (change_set k id r)
  keeps-set id (Ok s) = λ kind. refl
  keeps-set id (Err e) = λ kind. refl

  keeps-action : (pid : ℕ) (a : Alive) (r : Result Signals Errno) → Keeps k (action_effect k pid a r)
  keeps-action pid a (Ok s) = λ kind. refl
  keeps-action pid a (Err e) = λ kind. refl

  keeps-wait : (pid : ℕ) (a : Alive) (w : Waited) → Keeps k (reap_child k pid a w)
  keeps-wait pid a (Found child ending) = λ kind. refl
  keeps-wait pid a NotYet = λ kind. refl
  keeps-wait pid a NoChild = λ kind. refl

  keeps-raise : (pid : ℕ) (b : Bool) (one other : Alive)
      → Keeps k (reply_with (if b then with_alive k pid one else with_alive k pid other) 0)
  keeps-raise pid true one other = λ kind. refl
  keeps-raise pid false one other = λ kind. refl

  keeps-signal : (caller pid : ℕ) (target : Alive) (sig : SigArg) → Keeps k (signal_living k caller pid target sig)
  keeps-signal caller pid target Zero = λ kind. refl
  keeps-signal caller pid target Bad = λ kind. refl
  keeps-signal caller pid target (Is g) = keeps-raise pid (nat_eq caller pid) _ _

  keeps-kill_at : (caller pid : ℕ) (sig : SigArg) (o : Option Process) → Keeps k (kill_at k caller pid sig o)
  keeps-kill_at caller pid sig None = λ kind. refl
  keeps-kill_at caller pid sig (Some Gone) = λ kind. refl
  keeps-kill_at caller pid sig (Some (Ended ending)) = λ kind. refl
  keeps-kill_at caller pid sig (Some (Living target)) = keeps-signal caller pid target sig

  keeps-kill : (caller pid : ℕ) (sig : SigArg) → Keeps k (kill k caller pid sig)
  keeps-kill caller pid Bad = λ kind. refl
  keeps-kill caller pid Zero = keeps-kill_at caller pid Zero (get k.processes pid)
  keeps-kill caller pid (Is g) = keeps-kill_at caller pid (Is g) (get k.processes pid)

  grew-operated : (n : ℕ) (b : Bool) (e : Effect) → Keeps k e → AllGrew None n k (if b then None else Some e)
  grew-operated n true e h = tt
  grew-operated n false e h = from-keeps n k e h

-- Calls that may create something, where they change nothing: nothing of the number was there.

abbrev IsQuiet : Option Kind → ℕ → Kernel → Type 0
IsQuiet own n k = (kind : Kind) → has_created own k kind n ≡ false

unchanged-grew : (own : Option Kind) (n : ℕ) (k : Kernel) (r : Reply) → IsQuiet own n k → (kind : Kind)
    → Grew own n k (record { kernel = k; reply = r }) kind
unchanged-grew own n k r quiet kind =
    record {
      used = ap (λ b. grown_by b (used_of k kind) n) (sym (quiet kind));
      says =
          λ t. absurd (false≢true (sym (quiet kind) ∙ t));
    }

unused-absent : (b used : Bool) → (IsTrue b → IsTrue used) → used ≡ false → b ≡ false
unused-absent false used h u = refl
unused-absent true used h u = absurd (false≢true (sym u ∙ h refl))

quiet-queues : (k : Kernel) (n : ℕ) → IsValid k → is_used k.used_queues n ≡ false → IsQuiet (Some kinds.Msg) n k
quiet-queues k n v u kinds.Proc = refl
quiet-queues k n v u kinds.Msg = unused-absent _ _ (v.used_queues n) u
quiet-queues k n v u kinds.Sem = refl

quiet-sets : (k : Kernel) (n : ℕ) → IsValid k → is_used k.used_sets n ≡ false → IsQuiet (Some kinds.Sem) n k
quiet-sets k n v u kinds.Proc = refl
quiet-sets k n v u kinds.Msg = refl
quiet-sets k n v u kinds.Sem = unused-absent _ _ (v.used_sets n) u

-- Calls that create something.

put-there : {V : Type 0} (m : Numbered V) (n : ℕ) (v : V) → is_some (get (put m n v) n) ≡ true
put-there m n v = ap is_some (get-put-same m n v)

still-there : {V : Type 0} (m : Numbered V) (p : ℕ) (v : V) (n : ℕ) → is_some (get m n) ≡ true
    → is_some (get (put m p v) n) ≡ true
still-there m p v n h =
    elim (cases_eq n p) [
      | inl e ↦ subst (λ (q : ℕ). is_some (get (put m p v) q) ≡ true) (sym e) (put-there m p v)
      | inr ne ↦ ap is_some (get-put-other m p v n ne) ∙ h
    ]

grown-there : (b : Bool) (used : List ℕ) (n : ℕ) → b ≡ true → used_with used n ≡ grown_by b used n
grown-there b used n h = ap (λ c. grown_by c used n) (sym h)

module _ (k : Kernel) (n : ℕ) where
  grew-process : (ps : Numbered Process) → is_some (get ps n) ≡ true
      → (kind : Kind) → Grew (Some kinds.Proc) n k
      (reply_with (record k { processes = ps; used_processes = used_with k.used_processes n }) n) kind
  grew-process ps h kinds.Proc =
      record { used = grown-there (is_some (get ps n)) k.used_processes n h; says = λ t. refl }
  grew-process ps h kinds.Msg = record { used = refl; says = λ t. refl }
  grew-process ps h kinds.Sem = record { used = refl; says = λ t. refl }

  grew-queue : (keys : Numbered ℕ) (kind : Kind)
      → Grew (Some kinds.Msg) n k
      (reply_with (record k {
        queues = put k.queues n empty_queue;
        queue_keys = keys;
        used_queues =
            used_with k.used_queues n;
      }) n) kind
  grew-queue keys kinds.Proc = record { used = refl; says = λ t. refl }
  grew-queue keys kinds.Msg =
      record {
        used = grown-there (is_some (get (put k.queues n empty_queue) n)) k.used_queues n
            (put-there k.queues n empty_queue);
        says = λ t. refl;
      }
  grew-queue keys kinds.Sem = record { used = refl; says = λ t. refl }

  grew-set : (keys : Numbered ℕ) (s : SemaphoreSet) (kind : Kind)
      → Grew (Some kinds.Sem) n k
      (reply_with (record k { sets = put k.sets n s; set_keys = keys; used_sets = used_with k.used_sets n }) n) kind
  grew-set keys s kinds.Proc = record { used = refl; says = λ t. refl }
  grew-set keys s kinds.Msg = record { used = refl; says = λ t. refl }
  grew-set keys s kinds.Sem =
      record {
        used = grown-there (is_some (get (put k.sets n s) n)) k.used_sets n (put-there k.sets n s);
        says =
            λ t. refl;
      }

  grew-if : (own : Option Kind) (b : Bool) (e : Effect) → ((kind : Kind) → Grew own n k e kind)
      → AllGrew own n k (if b then Some e else None)
  grew-if own true e h = h
  grew-if own false e h = tt

  grew-fork : (pid : ℕ) (a : Alive) → AllGrew (Some kinds.Proc) n k
      (if is_fresh k.used_processes n
      then Some (reply_with
      (record k {
        processes = processes_after_fork k.processes pid a n;
        used_processes =
            used_with k.used_processes n;
      }) n)
      else None)
  grew-fork pid a =
      grew-if (Some kinds.Proc) (is_fresh k.used_processes n) _
      (grew-process (processes_after_fork k.processes pid a n)
      (still-there (put k.processes n (Living (new_child a))) pid (Living (parent_after_fork a n)) n
      (put-there k.processes n (Living (new_child a)))))

  grew-new_queue : (keys : Numbered ℕ) → AllGrew (Some kinds.Msg) n k (new_queue k keys n)
  grew-new_queue keys = grew-if (Some kinds.Msg) (is_fresh k.used_queues n) _ (grew-queue keys)

  grew-new_set : (keys : Numbered ℕ) (r : Result SemaphoreSet Errno) → IsQuiet (Some kinds.Sem) n k
      → AllGrew (Some kinds.Sem) n k (new_set_of k keys n r)
  grew-new_set keys (Err e) quiet = unchanged-grew (Some kinds.Sem) n k _ quiet
  grew-new_set keys (Ok s) quiet = grew-if (Some kinds.Sem) (is_fresh k.used_sets n) _ (grew-set keys s)

  unchanged-if : (own : Option Kind) (b : Bool) (r s : Reply) → IsQuiet own n k
      → (kind : Kind) → Grew own n k
      (if b then record { kernel = k; reply = r } else record { kernel = k; reply = s }) kind
  unchanged-if own true r s quiet = unchanged-grew own n k r quiet
  unchanged-if own false r s quiet = unchanged-grew own n k s quiet

  grew-get_queue_at : (key : ℕ) (create excl : Bool) (o : Option ℕ) → IsQuiet (Some kinds.Msg) n k
      → AllGrew (Some kinds.Msg) n k (get_queue_at k key create excl n o)
  grew-get_queue_at key create excl (Some id) quiet = unchanged-if (Some kinds.Msg) (create && excl) _ _ quiet
  grew-get_queue_at key true excl None quiet = grew-new_queue (put k.queue_keys key n)
  grew-get_queue_at key false excl None quiet = unchanged-grew (Some kinds.Msg) n k _ quiet

  found-grew : (id count : ℕ) → IsQuiet (Some kinds.Sem) n k → (b : Bool) (kind : Kind)
      → Grew (Some kinds.Sem) n k (if b then refuse k Eexist else find_set k id count) kind
  found-grew id count quiet true = unchanged-grew (Some kinds.Sem) n k _ quiet
  found-grew id count quiet false = unchanged-if (Some kinds.Sem) _ _ _ quiet

  grew-get_set_at : (key count : ℕ) (create excl : Bool) (o : Option ℕ) → IsQuiet (Some kinds.Sem) n k
      → AllGrew (Some kinds.Sem) n k (get_set_at k key count create excl n o)
  grew-get_set_at key count create excl (Some id) quiet = found-grew id count quiet (create && excl)
  grew-get_set_at key count true excl None quiet = grew-new_set (put k.set_keys key n) (new_set count) quiet
  grew-get_set_at key count false excl None quiet = unchanged-grew (Some kinds.Sem) n k _ quiet

-- Each call's effect.

module _ (k : Kernel) (pid : ℕ) (a : Alive) (n : ℕ) (v : IsValid k) where
  grew-effect : (call : Call) → is_used (used_for k call) n ≡ false
      → AllGrew (created_kind call) n k (effect k pid a call n)
  grew-effect (calls.Fork block) u = grew-fork k n pid a
  grew-effect (calls.Exit status) u = from-keeps n k _ (λ kind. refl)
  grew-effect (calls.Killed sig) u = from-keeps n k _ (λ kind. refl)
  grew-effect calls.GetPid u = from-keeps n k _ (λ kind. refl)
  grew-effect (calls.Kill target sig) u = from-keeps n k _ (keeps-kill k pid target sig)
  grew-effect (calls.SigAction sig act) u = from-keeps n k _ (keeps-action k pid a (act_on a.row.signals sig act))
  grew-effect (calls.SigProcMask how set) u = from-keeps n k _ (λ kind. refl)
  grew-effect calls.SigPending u = from-keeps n k _ (λ kind. refl)
  grew-effect (calls.Handled sig) u = from-keeps n k _ (λ kind. refl)
  grew-effect (calls.WaitPid child true) u = from-keeps n k _ (keeps-wait k pid a (wait a.row.family child))
  grew-effect (calls.WaitPid child false) u = tt
  grew-effect (calls.MsgGet None create excl) u = grew-new_queue k n k.queue_keys
  grew-effect (calls.MsgGet (Some key) create excl) u =
      grew-get_queue_at k n key create excl (get k.queue_keys key) (quiet-queues k n v u)
  grew-effect (calls.MsgSnd id class text true) u =
      from-keeps n k _ (keeps-named k (get k.queues id) _ (λ q. keeps-queue k id (send q pid class text)))
  grew-effect (calls.MsgSnd id class text false) u = tt
  grew-effect (calls.MsgRcv id class size noerror true) u =
      from-keeps n k _ (keeps-named k (get k.queues id) _ (λ q. keeps-received k id (receive q pid class size noerror)))
  grew-effect (calls.MsgRcv id class size noerror false) u = tt
  grew-effect (calls.MsgStat id) u = from-keeps n k _ (keeps-named k (get k.queues id) _ (λ q kind. refl))
  grew-effect (calls.MsgSet id qbytes) u =
      from-keeps n k _ (keeps-named k (get k.queues id) _ (λ q. keeps-queue k id (set_qbytes q qbytes)))
  grew-effect (calls.MsgRmid id) u = from-keeps n k _ (keeps-named k (get k.queues id) _ (λ q kind. refl))
  grew-effect (calls.SemGet None count create excl) u = grew-new_set k n k.set_keys (new_set count) (quiet-sets k n v u)
  grew-effect (calls.SemGet (Some key) count create excl) u =
      grew-get_set_at k n key count create excl (get k.set_keys key) (quiet-sets k n v u)
  grew-effect (calls.SemOp id steps) u =
      grew-operated k n (list_any may_wait steps) _
      (keeps-named k (get k.sets id) _ (λ s. keeps-set k id (op s pid steps)))
  grew-effect (calls.SemGetVal id num) u =
      from-keeps n k _ (keeps-named k (get k.sets id) _ (λ s. keeps-look k (value_at s num)))
  grew-effect (calls.SemGetPid id num) u =
      from-keeps n k _ (keeps-named k (get k.sets id) _ (λ s. keeps-look k (last_at s num)))
  grew-effect (calls.SemGetNcnt id num) u =
      from-keeps n k _ (keeps-named k (get k.sets id) _ (λ s. keeps-look k (waiting_at s num)))
  grew-effect (calls.SemGetZcnt id num) u =
      from-keeps n k _ (keeps-named k (get k.sets id) _ (λ s. keeps-look k (waiting_at s num)))
  grew-effect (calls.SemSetVal id num value) u =
      from-keeps n k _ (keeps-named k (get k.sets id) _ (λ s. keeps-set k id (set_value s num value)))
  grew-effect (calls.SemGetAll id) u = from-keeps n k _ (keeps-named k (get k.sets id) _ (λ s kind. refl))
  grew-effect (calls.SemSetAll id values) u =
      from-keeps n k _ (keeps-named k (get k.sets id) _ (λ s. keeps-set k id (set_all s values)))
  grew-effect (calls.SemRmid id) u = from-keeps n k _ (keeps-named k (get k.sets id) _ (λ s kind. refl))
  grew-effect (calls.Withdraw name) u = tt

-- What follows an effect leaves the used numbers, and what is there.

pub record SameNumbers (n : ℕ) (before after : Kernel) (kind : Kind) : Type 0 where
  pub used : used_of after kind ≡ used_of before kind
  pub there : is_there after kind n ≡ is_there before kind n

there-some : {V : Type 0} (o : Option V) (v : V) → o ≡ Some v → is_some o ≡ true
there-some o v h = ap is_some h

living-there : (o : Option Process) (a : Alive) → option_and_then alive_in o ≡ Some a → is_some o ≡ true
living-there None a h = cc
living-there (Some p) a h = refl

put-same : (m : Numbered Process) (p : ℕ) (v : Process) (n : ℕ) → is_some (get m p) ≡ true
    → is_some (get (put m p v) n) ≡ is_some (get m n)
put-same m p v n h =
    elim (cases_eq n p) [
      | inl e ↦ subst (λ (q : ℕ). is_some (get (put m p v) q) ≡ is_some (get m q)) (sym e) (put-there m p v ∙ sym h)
      | inr ne ↦ ap is_some (get-put-other m p v n ne)
    ]

spent-numbers : (n : ℕ) (k : Kernel) (pid : ℕ) (a b : Alive) → living_at k pid ≡ Some a → (kind : Kind)
    → SameNumbers n k (with_alive k pid b) kind
spent-numbers n k pid a b l kinds.Proc =
    record { used = refl; there = put-same k.processes pid (Living b) n (living-there (get k.processes pid) a l) }
spent-numbers n k pid a b l kinds.Msg = record { used = refl; there = refl }
spent-numbers n k pid a b l kinds.Sem = record { used = refl; there = refl }

doomed-numbers : (n : ℕ) (k : Kernel) (pid : ℕ) (a : Alive) (b : Bool) → living_at k pid ≡ Some a
    → (kind : Kind) → SameNumbers n k (if b then with_alive k pid (record a { allowance = Spent }) else k) kind
doomed-numbers n k pid a true l = spent-numbers n k pid a (record a { allowance = Spent }) l
doomed-numbers n k pid a false l = λ kind. record { used = refl; there = refl }

finish-numbers : (n : ℕ) (k : Kernel) (pid : ℕ) (o : Option Alive) → living_at k pid ≡ o → (kind : Kind)
    → SameNumbers n k (finish_call k pid o) kind
finish-numbers n k pid None l = λ kind. record { used = refl; there = refl }
finish-numbers n k pid (Some a) l = doomed-numbers n k pid a (is_some a.row.signals.doom) l

created-same : (own : Option Kind) (n : ℕ) (before after : Kernel) (kind : Kind)
    → is_there after kind n ≡ is_there before kind n
    → has_created own after kind n ≡ has_created own before kind n
created-same None n before after kind h = refl
created-same (Some own) n before after kind h = ap (λ t. is_same_kind own kind && t) h

-- Each call's step.

module _ (k : Kernel) (pid : ℕ) (call : Call) (n : ℕ) where
  abbrev Growth : Successor → Type 0
  Growth s = (kind : Kind) → GrowsBy call n s.outcome k s.kernel kind

  grows-after : (e : Effect) → ((kind : Kind) → Grew (created_kind call) n k e kind)
      → Growth (successor (finish_call e.kernel pid (living_at e.kernel pid)) (reply_alone e.reply))
  grows-after e g kind =
      let same = finish-numbers n e.kernel pid (living_at e.kernel pid) refl kind
      in let created = created-same (created_kind call) n e.kernel
      (finish_call e.kernel pid (living_at e.kernel pid)) kind same.there
      in record {
        used = same.used ∙ (g kind).used ∙ ap (λ b. grown_by b (used_of k kind) n) (sym created);
        reply = λ t. ap Some ((g kind).says (sym created ∙ t));
      }

  grows-outcome : (o : Option Effect) → AllGrew (created_kind call) n k o → (s : Successor) → outcome_of pid o ≡ Some s
      → Growth s
  grows-outcome None g s h = cc
  grows-outcome (Some e) g s h =
      let same : successor (finish_call e.kernel pid (living_at e.kernel pid)) (reply_alone e.reply) ≡ s = cc
      in subst (λ (t : Successor). Growth t) same (grows-after e g)

  grows-if : (b : Bool) (o : Option Effect) → AllGrew (created_kind call) n k o → (s : Successor)
      → (if b then outcome_of pid o else None) ≡ Some s → Growth s
  grows-if true o g s h = grows-outcome o g s h
  grows-if false o g s h = cc

  grows-by : IsValid k → is_used (used_for k call) n ≡ false → (o : Option Alive) → (s : Successor)
      → transition_by k pid call n o ≡ Some s → Growth s
  grows-by v u None s h = cc
  grows-by v u (Some a) s h = grows-if (may_make a call) (effect k pid a call n) (grew-effect k pid a n v call u) s h

  pub growth : IsValid k → is_used (used_for k call) n ≡ false → (s : Successor) → transition k pid call n ≡ Some s
      → (kind : Kind) → GrowsBy call n s.outcome k s.kernel kind
  growth v u s h = grows-by v u (living_at k pid) s h
