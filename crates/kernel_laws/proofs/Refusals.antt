-- A refused call's effect leaves the kernel as it was.
use Rattle.std.proofs.Common.{◌≡◌, ℕ, Bool, true, false, ◌&&◌, ◌||◌, List, Option, Some, None, Result, Ok, Err, refl, ap, sym, subst, ◌∙◌, nat_eq}
use Rattle.std.specs.Prelude.{nat_le}
use Rattle.std.specs.List.{list_any}
use Rattle.pico_base.specs.declared.call.Call.{Call}
use Rattle.pico_base.specs.declared.call.Call.TheVariants as calls
use Rattle.pico_base.specs.declared.call.SemStep.{SemStep}
use Rattle.pico_base.specs.declared.reply.Reply.{Reply}
use Rattle.pico_base.specs.declared.reply.Reply.TheVariants as replies
use Rattle.pico_base.specs.declared.reply.Errno.{Errno}
use Rattle.pico_base.specs.declared.reply.Errno.TheVariants.{Einval, Enoent, Eexist}
use Rattle.pico_base.specs.declared.signal.SigArg.{SigArg}
use Rattle.pico_base.specs.declared.signal.SigArg.TheVariants.{Zero, Is, Bad}
use Rattle.number_maps.specs.Maps.{Numbered, get, put, used_with}
use Rattle.kernel_model.specs.Signals.{Signals, act_on}
use Rattle.kernel_model.specs.Row.{Alive, Waited, Found, NotYet, NoChild, wait}
use Rattle.kernel_model.specs.Queue.{Queue, Received, send, receive, set_qbytes, empty_queue}
use Rattle.kernel_model.specs.SemaphoreSet.{SemaphoreSet, new_set, op, set_value, set_all, value_at, last_at, waiting_at}
use Rattle.kernel_model.specs.Kernel.{Kernel, Process, Living, Ended, Gone, living_at}
use Rattle.kernel_model.specs.Effect.{Effect, refuse, reply_with, look_up, on_named, is_fresh}
use Rattle.kernel_model.specs.ProcessCalls.{fork_effect, processes_after_fork, reap_child, action_effect, kill, kill_at, signal_living}
use Rattle.kernel_model.specs.QueueCalls.{new_queue, get_queue, get_queue_at, change_queue, receive_effect, stat_effect, remove_queue}
use Rattle.kernel_model.specs.SetCalls.{new_set_of, get_set, get_set_at, find_set, set_size, change_set, operate, all_values, remove_set}
use Rattle.kernel_model.specs.Waiting.{may_wait}
use Rattle.kernel_model.specs.Transition.{effect, finish_call}
use Rattle.kernel_laws.specs.Refusal.{left_by, RefusalsChangeNothing}
use Rattle.kernel_laws.proofs.Plain.{from_some, not_true, Of, of_choice, by_test}
use Rattle.kernel_laws.proofs.Steps.{step}

abbrev is_fail : Reply → Bool
is_fail (replies.Fail e) = true
is_fail _ = false

-- a failing effect keeps the kernel
abbrev LeavesAll : Kernel → Effect → Type 0
LeavesAll k e = is_fail e.reply ≡ true → e.kernel ≡ k

keeps-looked_up : (k : Kernel) (r : Result ℕ Errno) → LeavesAll k (look_up k r)
keeps-looked_up k (Ok n) = not_true
keeps-looked_up k (Err e) = λ h. refl

keeps-named : {V : Type 0} (k : Kernel) (o : Option V) (f : V → Effect) → ((v : V) → LeavesAll k (f v))
    → LeavesAll k (on_named k o f)
keeps-named k None f h = λ g. refl
keeps-named k (Some v) f h = h v

keeps-fork : (k : Kernel) (pid : ℕ) (a : Alive) (n : ℕ) → Of (LeavesAll k) (fork_effect k pid a n)
keeps-fork k pid a n =
    of_choice (LeavesAll k) (is_fresh k.used_processes n)
    (Some (reply_with (record k {
      processes = processes_after_fork k.processes pid a n;
      used_processes =
          used_with k.used_processes n;
    }) n)) None not_true tt

keeps-reaped : (k : Kernel) (pid : ℕ) (a : Alive) (w : Waited) → LeavesAll k (reap_child k pid a w)
keeps-reaped k pid a (Found child ending) = not_true
keeps-reaped k pid a NotYet = not_true
keeps-reaped k pid a NoChild = λ h. refl

keeps-acted : (k : Kernel) (pid : ℕ) (a : Alive) (r : Result Signals Errno) → LeavesAll k (action_effect k pid a r)
keeps-acted k pid a (Ok s) = not_true
keeps-acted k pid a (Err e) = λ h. refl

keeps-signalled : (k : Kernel) (caller pid : ℕ) (target : Alive) (sig : SigArg)
    → LeavesAll k (signal_living k caller pid target sig)
keeps-signalled k caller pid target Zero = not_true
keeps-signalled k caller pid target Bad = λ h. refl
keeps-signalled k caller pid target (Is g) = not_true

keeps-killed : (k : Kernel) (caller pid : ℕ) (sig : SigArg) (p : Option Process)
    → LeavesAll k (kill_at k caller pid sig p)
keeps-killed k caller pid sig None = λ h. refl
keeps-killed k caller pid sig (Some Gone) = λ h. refl
keeps-killed k caller pid sig (Some (Ended ending)) = not_true
keeps-killed k caller pid sig (Some (Living target)) = keeps-signalled k caller pid target sig

keeps-kill : (k : Kernel) (caller pid : ℕ) (sig : SigArg) → LeavesAll k (kill k caller pid sig)
keeps-kill k caller pid Bad = λ h. refl
keeps-kill k caller pid Zero = keeps-killed k caller pid Zero (get k.processes pid)
keeps-kill k caller pid (Is g) = keeps-killed k caller pid (Is g) (get k.processes pid)

keeps-new_queue : (k : Kernel) (keys : Numbered ℕ) (n : ℕ) → Of (LeavesAll k) (new_queue k keys n)
keeps-new_queue k keys n =
    of_choice (LeavesAll k) (is_fresh k.used_queues n)
    (Some (reply_with (record k {
      queues = put k.queues n empty_queue;
      queue_keys = keys;
      used_queues =
          used_with k.used_queues n;
    }) n)) None not_true tt

keeps-get_queue_at : (k : Kernel) (key : ℕ) (create excl : Bool) (n : ℕ) (found : Option ℕ)
    → Of (LeavesAll k) (get_queue_at k key create excl n found)
keeps-get_queue_at k key create excl n (Some id) =
    by_test (LeavesAll k) (create && excl) (refuse k Eexist) (reply_with k id) (λ t h. refl) (λ t. not_true)
keeps-get_queue_at k key create excl n None =
    of_choice (LeavesAll k) create (new_queue k (put k.queue_keys key n) n) (Some (refuse k Enoent))
    (keeps-new_queue k (put k.queue_keys key n) n) (λ h. refl)

keeps-get_queue : (k : Kernel) (key : Option ℕ) (create excl : Bool) (n : ℕ)
    → Of (LeavesAll k) (get_queue k key create excl n)
keeps-get_queue k None create excl n = keeps-new_queue k k.queue_keys n
keeps-get_queue k (Some key) create excl n = keeps-get_queue_at k key create excl n (get k.queue_keys key)

keeps-changed_queue : (k : Kernel) (id : ℕ) (r : Result Queue Errno) → LeavesAll k (change_queue k id r)
keeps-changed_queue k id (Ok q) = not_true
keeps-changed_queue k id (Err e) = λ h. refl

keeps-received : (k : Kernel) (id : ℕ) (r : Result Received Errno) → LeavesAll k (receive_effect k id r)
keeps-received k id (Ok q) = not_true
keeps-received k id (Err e) = λ h. refl

keeps-new_set : (k : Kernel) (keys : Numbered ℕ) (n : ℕ) (r : Result SemaphoreSet Errno)
    → Of (LeavesAll k) (new_set_of k keys n r)
keeps-new_set k keys n (Err e) = λ h. refl
keeps-new_set k keys n (Ok set) =
    of_choice (LeavesAll k) (is_fresh k.used_sets n)
    (Some (reply_with (record k { sets = put k.sets n set; set_keys = keys; used_sets = used_with k.used_sets n }) n))
    None not_true tt

keeps-found_set : (k : Kernel) (id count : ℕ) → LeavesAll k (find_set k id count)
keeps-found_set k id count =
    by_test (LeavesAll k) (nat_eq count 0 || nat_le count (set_size k id)) (reply_with k id) (refuse k Einval)
    (λ t. not_true) (λ t h. refl)

keeps-get_set_at : (k : Kernel) (key count : ℕ) (create excl : Bool) (n : ℕ) (found : Option ℕ)
    → Of (LeavesAll k) (get_set_at k key count create excl n found)
keeps-get_set_at k key count create excl n (Some id) =
    by_test (LeavesAll k) (create && excl) (refuse k Eexist) (find_set k id count) (λ t h. refl)
    (λ t. keeps-found_set k id count)
keeps-get_set_at k key count create excl n None =
    of_choice (LeavesAll k) create (new_set_of k (put k.set_keys key n) n (new_set count)) (Some (refuse k Enoent))
    (keeps-new_set k (put k.set_keys key n) n (new_set count)) (λ h. refl)

keeps-get_set : (k : Kernel) (key : Option ℕ) (count : ℕ) (create excl : Bool) (n : ℕ)
    → Of (LeavesAll k) (get_set k key count create excl n)
keeps-get_set k None count create excl n = keeps-new_set k k.set_keys n (new_set count)
keeps-get_set k (Some key) count create excl n = keeps-get_set_at k key count create excl n (get k.set_keys key)

keeps-changed_set : (k : Kernel) (id : ℕ) (r : Result SemaphoreSet Errno) → LeavesAll k (change_set k id r)
keeps-changed_set k id (Ok q) = not_true
keeps-changed_set k id (Err e) = λ h. refl

keeps-operated : (k : Kernel) (pid id : ℕ) (steps : List SemStep) → Of (LeavesAll k) (operate k pid id steps)
keeps-operated k pid id steps =
    of_choice (LeavesAll k) (list_any may_wait steps) None
    (Some (on_named k (get k.sets id) (λ set. change_set k id (op set pid steps)))) tt
    (keeps-named k (get k.sets id) (λ set. change_set k id (op set pid steps))
    (λ set. keeps-changed_set k id (op set pid steps)))

keeps-effect : (k : Kernel) (pid : ℕ) (a : Alive) (call : Call) (n : ℕ) → Of (LeavesAll k) (effect k pid a call n)
keeps-effect k pid a (calls.Fork block) n = keeps-fork k pid a n
keeps-effect k pid a (calls.Exit status) n = not_true
keeps-effect k pid a (calls.Killed sig) n = not_true
keeps-effect k pid a calls.GetPid n = not_true
keeps-effect k pid a (calls.Kill target sig) n = keeps-kill k pid target sig
keeps-effect k pid a (calls.SigAction sig act) n = keeps-acted k pid a (act_on a.row.signals sig act)
keeps-effect k pid a (calls.SigProcMask how set) n = not_true
keeps-effect k pid a calls.SigPending n = not_true
keeps-effect k pid a (calls.Handled sig) n = not_true
keeps-effect k pid a (calls.WaitPid child true) n = keeps-reaped k pid a (wait a.row.family child)
keeps-effect k pid a (calls.WaitPid child false) n = tt
keeps-effect k pid a (calls.MsgGet key create excl) n = keeps-get_queue k key create excl n
keeps-effect k pid a (calls.MsgSnd id class text true) n =
    keeps-named k (get k.queues id) (λ q. change_queue k id (send q pid class text))
    (λ q. keeps-changed_queue k id (send q pid class text))
keeps-effect k pid a (calls.MsgSnd id class text false) n = tt
keeps-effect k pid a (calls.MsgRcv id class size noerror true) n =
    keeps-named k (get k.queues id) (λ q. receive_effect k id (receive q pid class size noerror))
    (λ q. keeps-received k id (receive q pid class size noerror))
keeps-effect k pid a (calls.MsgRcv id class size noerror false) n = tt
keeps-effect k pid a (calls.MsgStat id) n = keeps-named k (get k.queues id) (stat_effect k) (λ q. not_true)
keeps-effect k pid a (calls.MsgSet id qbytes) n =
    keeps-named k (get k.queues id) (λ q. change_queue k id (set_qbytes q qbytes))
    (λ q. keeps-changed_queue k id (set_qbytes q qbytes))
keeps-effect k pid a (calls.MsgRmid id) n = keeps-named k (get k.queues id) (λ _. remove_queue k id) (λ q. not_true)
keeps-effect k pid a (calls.SemGet key count create excl) n = keeps-get_set k key count create excl n
keeps-effect k pid a (calls.SemOp id steps) n = keeps-operated k pid id steps
keeps-effect k pid a (calls.SemGetVal id num) n =
    keeps-named k (get k.sets id) (λ s. look_up k (value_at s num)) (λ s. keeps-looked_up k (value_at s num))
keeps-effect k pid a (calls.SemGetPid id num) n =
    keeps-named k (get k.sets id) (λ s. look_up k (last_at s num)) (λ s. keeps-looked_up k (last_at s num))
keeps-effect k pid a (calls.SemGetNcnt id num) n =
    keeps-named k (get k.sets id) (λ s. look_up k (waiting_at s num)) (λ s. keeps-looked_up k (waiting_at s num))
keeps-effect k pid a (calls.SemGetZcnt id num) n =
    keeps-named k (get k.sets id) (λ s. look_up k (waiting_at s num)) (λ s. keeps-looked_up k (waiting_at s num))
keeps-effect k pid a (calls.SemSetVal id num value) n =
    keeps-named k (get k.sets id) (λ s. change_set k id (set_value s num value))
    (λ s. keeps-changed_set k id (set_value s num value))
keeps-effect k pid a (calls.SemGetAll id) n = keeps-named k (get k.sets id) (all_values k) (λ s. not_true)
keeps-effect k pid a (calls.SemSetAll id values) n =
    keeps-named k (get k.sets id) (λ s. change_set k id (set_all s values))
    (λ s. keeps-changed_set k id (set_all s values))
keeps-effect k pid a (calls.SemRmid id) n = keeps-named k (get k.sets id) (λ _. remove_set k id) (λ s. not_true)
keeps-effect k pid a (calls.Withdraw name) n = tt

-- after the entry a doomed caller has nothing left
to_next : (k : Kernel) (pid : ℕ) (a : Alive) (result : Kernel) (next : Kernel) → result ≡ k → living_at k pid ≡ Some a
    → finish_call result pid (living_at result pid) ≡ next → next ≡ left_by k pid a
to_next k pid a result next same lives leads =
    let e : finish_call k pid (living_at k pid) ≡ next =
    subst (λ (r : Kernel). finish_call r pid (living_at r pid) ≡ next) same leads
    in sym e ∙ ap (finish_call k pid) lives

fail_is : (r : Reply) (o : Option Reply) (e : Errno) → Some r ≡ o → o ≡ Some (replies.Fail e) → is_fail r ≡ true
fail_is r o e h g = let f : r ≡ replies.Fail e = from_some r (replies.Fail e) (h ∙ g) in ap is_fail f

-- a call that is refused by an error changes nothing but what the caller may still do
pub refusals_change_nothing_lemma : RefusalsChangeNothing
refusals_change_nothing_lemma k pid call n next outcome error h fails =
    let s = step k pid call n next outcome h
    in let P : Option Effect → Type 0 = λ o. Of (LeavesAll k) o
    in let kept : LeavesAll k s.result = subst P s.gives (keeps-effect k pid s.alive call n)
    in (
      s.alive,
      s.lives,
      to_next k pid s.alive s.result.kernel next
          (kept (fail_is s.result.reply outcome.own error s.says fails)) s.lives s.leads,
    )
