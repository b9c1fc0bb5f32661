-- Each way in which an entry may change the kernel: what holds after each of them holds after the entry.
use Rattle.std.proofs.Common.{◌≡◌, ℕ, ℤ, Bool, true, false, ◌&&◌, ◌||◌, List, Option, Some, None, Result, Ok, Err, refl, ap, subst, ◌∙◌, nat_eq, ◌%◌}
use Rattle.std.specs.Prelude.{if◌then◌else◌, nat_le, is_some}
use Rattle.std.specs.List.{list_any}
use Rattle.std.proofs.lemmas.Bool.{eqb-true}
use Rattle.pico_base.specs.declared.call.Call.{Call}
use Rattle.pico_base.specs.declared.call.Call.TheVariants as calls
use Rattle.pico_base.specs.declared.call.SemStep.{SemStep}
use Rattle.pico_base.specs.declared.reply.Ending.{Ending}
use Rattle.pico_base.specs.declared.reply.Ending.TheVariants as endings
use Rattle.pico_base.specs.declared.reply.Errno.{Errno}
use Rattle.pico_base.specs.declared.reply.Errno.TheVariants.{Einval, Enoent, Eexist}
use Rattle.pico_base.specs.declared.reply.Outcome.{Outcome}
use Rattle.pico_base.specs.declared.signal.PerSignal.{PerSignal}
use Rattle.pico_base.specs.declared.signal.Sig.{Sig}
use Rattle.pico_base.specs.declared.signal.Act.{Act}
use Rattle.pico_base.specs.declared.signal.How.{How}
use Rattle.pico_base.specs.declared.signal.SigArg.{SigArg}
use Rattle.pico_base.specs.declared.signal.SigArg.TheVariants.{Zero, Is, Bad}
use Rattle.number_maps.specs.Maps.{Numbered, get, put, used_with}
use Rattle.kernel_model.specs.Signals.{act_on, raise, is_kill, with_action, with_mask}
use Rattle.kernel_model.specs.Row.{Alive, Waited, Found, NotYet, NoChild, Spent, wait, raise_by_other}
use Rattle.kernel_model.specs.Queue.{Queue, Received, send, receive, set_qbytes, empty_queue}
use Rattle.kernel_model.specs.SemaphoreSet.{SemaphoreSet, new_set, op, set_value, set_all, value_at, last_at, waiting_at}
use Rattle.kernel_model.specs.Kernel.{Kernel, Process, Living, Ended, Gone, living_at, with_alive}
use Rattle.kernel_model.specs.Effect.{Effect, refuse, reply_with, look_up, on_named, is_fresh}
use Rattle.kernel_model.specs.ProcessCalls.{processes_after_fork, processes_after_end, reap_child, processes_after_wait, action_effect, kill, kill_at, signal_living, with_signals}
use Rattle.kernel_model.specs.QueueCalls.{with_queue, new_queue, get_queue, get_queue_at, change_queue, receive_effect, stat_effect, remove_queue}
use Rattle.kernel_model.specs.SetCalls.{with_set, new_set_of, get_set, get_set_at, find_set, set_size, change_set, operate, all_values, remove_set}
use Rattle.kernel_model.specs.Waiting.{may_wait}
use Rattle.kernel_model.specs.Transition.{effect, finish_call}
use Rattle.kernel_laws.proofs.Plain.{Of, by_test, of_choice}
use Rattle.kernel_laws.proofs.Steps.{Step}

-- P holds after each change that a call of this process may make
pub record Moves (P : Kernel → Type 0) (k : Kernel) (pid : ℕ) (a : Alive) (n : ℕ) : Type 0 where
  pub same : P k
  pub forks : is_fresh k.used_processes n ≡ true
      → P (record k {
        processes = processes_after_fork k.processes pid a n;
        used_processes =
            used_with k.used_processes n;
      })
  pub ends : (ending : Ending) → P (record k { processes = processes_after_end k.processes pid a ending })
  pub acts : (g : Sig) (act : Act) → is_kill g ≡ false → P (with_signals k pid a (with_action a.row.signals g act))
  pub masks : (how : How) (set : PerSignal Bool) → P (with_signals k pid a (with_mask a.row.signals how set))
  pub raises_own : (target : Alive) (g : Sig) → get k.processes pid ≡ Some (Living target)
      → P (with_signals k pid target (raise target.row.signals g))
  pub raises_other : (other : ℕ) (target : Alive) (g : Sig) → get k.processes other ≡ Some (Living target)
      → P (with_alive k other (raise_by_other target g))
  pub reaps : (which : Option ℕ) (child : ℕ) (ending : Ending) → wait a.row.family which ≡ Found child ending
      → P (record k { processes = processes_after_wait k.processes pid a child })
  pub makes_queue : is_fresh k.used_queues n ≡ true
      → P (record k { queues = put k.queues n empty_queue; used_queues = used_with k.used_queues n })
  pub binds_queue : (key : ℕ) → is_fresh k.used_queues n ≡ true
      → P (record k {
        queues = put k.queues n empty_queue;
        queue_keys = put k.queue_keys key n;
        used_queues =
            used_with k.used_queues n;
      })
  pub sends : (id : ℕ) (class : ℤ) (text : List ℕ) (q next : Queue) → get k.queues id ≡ Some q
      → send q pid class text ≡ Ok next → P (with_queue k id next)
  pub receives : (id : ℕ) (class : ℤ) (size : ℕ) (noerror : Bool) (q : Queue) (r : Received) → get k.queues id ≡ Some q
      → receive q pid class size noerror ≡ Ok r → P (with_queue k id r.queue)
  pub limits : (id qbytes : ℕ) (q next : Queue) → get k.queues id ≡ Some q → set_qbytes q qbytes ≡ Ok next
      → P (with_queue k id next)
  pub removes_queue : (id : ℕ) → P (remove_queue k id).kernel
  pub makes_set : (count : ℕ) (set : SemaphoreSet) → new_set count ≡ Ok set → is_fresh k.used_sets n ≡ true
      → P (record k { sets = put k.sets n set; used_sets = used_with k.used_sets n })
  pub binds_set : (key count : ℕ) (set : SemaphoreSet) → new_set count ≡ Ok set → is_fresh k.used_sets n ≡ true
      → P (record k { sets = put k.sets n set; set_keys = put k.set_keys key n; used_sets = used_with k.used_sets n })
  pub operates : (id : ℕ) (steps : List SemStep) (set next : SemaphoreSet) → get k.sets id ≡ Some set
      → op set pid steps ≡ Ok next → P (with_set k id next)
  pub sets_one : (id num value : ℕ) (set next : SemaphoreSet) → get k.sets id ≡ Some set
      → set_value set num value ≡ Ok next → P (with_set k id next)
  pub fills : (id : ℕ) (values : List ℕ) (set next : SemaphoreSet) → get k.sets id ≡ Some set
      → set_all set values ≡ Ok next → P (with_set k id next)
  pub removes_set : (id : ℕ) → P (remove_set k id).kernel

-- P holds of the kernel after an effect
abbrev pub After : (Kernel → Type 0) → Effect → Type 0
After P e = P e.kernel

after-looked_up : (P : Kernel → Type 0) (k : Kernel) (r : Result ℕ Errno) → P k → After P (look_up k r)
after-looked_up P k (Ok n) h = h
after-looked_up P k (Err e) h = h

after-named : {V : Type 0} (P : Kernel → Type 0) (k : Kernel) (o : Option V) (f : V → Effect) → P k
    → ((v : V) → o ≡ Some v → After P (f v)) → After P (on_named k o f)
after-named P k None f h g = h
after-named P k (Some v) f h g = g v refl

after-fork : (P : Kernel → Type 0) (k : Kernel) (pid : ℕ) (a : Alive) (n : ℕ) → Moves P k pid a n → (fresh : Bool)
    → is_fresh k.used_processes n ≡ fresh
    → Of (After P)
    (if fresh then Some (reply_with
    (record k {
      processes = processes_after_fork k.processes pid a n;
      used_processes =
          used_with k.used_processes n;
    }) n) else None)
after-fork P k pid a n m true e = m.forks e
after-fork P k pid a n m false e = tt

after-reaped : (P : Kernel → Type 0) (k : Kernel) (pid : ℕ) (a : Alive) (n : ℕ) → Moves P k pid a n
    → (which : Option ℕ) (w : Waited) → wait a.row.family which ≡ w
    → After P (reap_child k pid a w)
after-reaped P k pid a n m which (Found child ending) e = m.reaps which child ending e
after-reaped P k pid a n m which NotYet e = m.same
after-reaped P k pid a n m which NoChild e = m.same

after-action : (P : Kernel → Type 0) (k : Kernel) (pid : ℕ) (a : Alive) (n : ℕ) → Moves P k pid a n
    → (g : Sig) (act : Act) (kill : Bool) → is_kill g ≡ kill
    → After P (action_effect k pid a (if kill then Err Einval else Ok (with_action a.row.signals g act)))
after-action P k pid a n m g act true e = m.same
after-action P k pid a n m g act false e = m.acts g act e

after-acted : (P : Kernel → Type 0) (k : Kernel) (pid : ℕ) (a : Alive) (n : ℕ) → Moves P k pid a n
    → (sig : SigArg) (act : Act)
    → After P (action_effect k pid a (act_on a.row.signals sig act))
after-acted P k pid a n m Zero act = m.same
after-acted P k pid a n m Bad act = m.same
after-acted P k pid a n m (Is g) act = after-action P k pid a n m g act (is_kill g) refl

after-raise : (P : Kernel → Type 0) (k : Kernel) (pid : ℕ) (a : Alive) (n : ℕ) → Moves P k pid a n
    → (other : ℕ) (target : Alive) (g : Sig)
    → get k.processes other ≡ Some (Living target) → (own : Bool) → nat_eq pid other ≡ own
    → P (if own then with_signals k other target (raise target.row.signals g) else with_alive k other
    (raise_by_other target g))
after-raise P k pid a n m other target g l true e =
    let same : pid ≡ other = eqb-true pid other e
    in subst (λ (q : ℕ). P (with_signals k q target (raise target.row.signals g))) same
    (m.raises_own target g (ap (λ q. get k.processes q) same ∙ l))
after-raise P k pid a n m other target g l false e = m.raises_other other target g l

after-signalled : (P : Kernel → Type 0) (k : Kernel) (pid : ℕ) (a : Alive) (n : ℕ) → Moves P k pid a n
    → (other : ℕ) (target : Alive) (sig : SigArg)
    → get k.processes other ≡ Some (Living target) → After P (signal_living k pid other target sig)
after-signalled P k pid a n m other target Zero l = m.same
after-signalled P k pid a n m other target Bad l = m.same
after-signalled P k pid a n m other target (Is g) l = after-raise P k pid a n m other target g l (nat_eq pid other) refl

after-killed : (P : Kernel → Type 0) (k : Kernel) (pid : ℕ) (a : Alive) (n : ℕ) → Moves P k pid a n
    → (other : ℕ) (sig : SigArg) (p : Option Process)
    → get k.processes other ≡ p → After P (kill_at k pid other sig p)
after-killed P k pid a n m other sig None l = m.same
after-killed P k pid a n m other sig (Some Gone) l = m.same
after-killed P k pid a n m other sig (Some (Ended ending)) l = m.same
after-killed P k pid a n m other sig (Some (Living target)) l = after-signalled P k pid a n m other target sig l

after-kill : (P : Kernel → Type 0) (k : Kernel) (pid : ℕ) (a : Alive) (n : ℕ) → Moves P k pid a n
    → (other : ℕ) (sig : SigArg) → After P (kill k pid other sig)
after-kill P k pid a n m other Bad = m.same
after-kill P k pid a n m other Zero = after-killed P k pid a n m other Zero (get k.processes other) refl
after-kill P k pid a n m other (Is g) = after-killed P k pid a n m other (Is g) (get k.processes other) refl

after-new_queue : (P : Kernel → Type 0) (k : Kernel) (keys : Numbered ℕ) (n : ℕ)
    → (is_fresh k.used_queues n ≡ true
    → P (record k {
      queues = put k.queues n empty_queue;
      queue_keys = keys;
      used_queues =
          used_with k.used_queues n;
    }))
    → (fresh : Bool) → is_fresh k.used_queues n ≡ fresh
    → Of (After P)
    (if fresh then Some (reply_with
    (record k { queues = put k.queues n empty_queue; queue_keys = keys; used_queues = used_with k.used_queues n })
    n) else None)
after-new_queue P k keys n h true e = h e
after-new_queue P k keys n h false e = tt

after-get_queue_at : (P : Kernel → Type 0) (k : Kernel) (pid : ℕ) (a : Alive) (n : ℕ) → Moves P k pid a n
    → (key : ℕ) (create excl : Bool) (found : Option ℕ)
    → Of (After P) (get_queue_at k key create excl n found)
after-get_queue_at P k pid a n m key create excl (Some id) =
    by_test (After P) (create && excl) (refuse k Eexist) (reply_with k id) (λ t. m.same) (λ t. m.same)
after-get_queue_at P k pid a n m key create excl None =
    of_choice (After P) create (new_queue k (put k.queue_keys key n) n) (Some (refuse k Enoent))
    (after-new_queue P k (put k.queue_keys key n) n (m.binds_queue key) (is_fresh k.used_queues n) refl) m.same

after-get_queue : (P : Kernel → Type 0) (k : Kernel) (pid : ℕ) (a : Alive) (n : ℕ) → Moves P k pid a n
    → (key : Option ℕ) (create excl : Bool)
    → Of (After P) (get_queue k key create excl n)
after-get_queue P k pid a n m None create excl =
    after-new_queue P k k.queue_keys n m.makes_queue (is_fresh k.used_queues n) refl
after-get_queue P k pid a n m (Some key) create excl =
    after-get_queue_at P k pid a n m key create excl (get k.queue_keys key)

after-changed_queue : (P : Kernel → Type 0) (k : Kernel) (id : ℕ) (r : Result Queue Errno) → P k
    → ((q : Queue) → r ≡ Ok q → P (with_queue k id q))
    → After P (change_queue k id r)
after-changed_queue P k id (Ok q) h g = g q refl
after-changed_queue P k id (Err e) h g = h

after-received : (P : Kernel → Type 0) (k : Kernel) (id : ℕ) (r : Result Received Errno) → P k
    → ((x : Received) → r ≡ Ok x → P (with_queue k id x.queue))
    → After P (receive_effect k id r)
after-received P k id (Ok x) h g = g x refl
after-received P k id (Err e) h g = h

after-new_set : (P : Kernel → Type 0) (k : Kernel) (keys : Numbered ℕ) (n : ℕ) (set : SemaphoreSet)
    → (is_fresh k.used_sets n ≡ true
    → P (record k { sets = put k.sets n set; set_keys = keys; used_sets = used_with k.used_sets n }))
    → (fresh : Bool) → is_fresh k.used_sets n ≡ fresh
    → Of (After P)
    (if fresh then Some (reply_with
    (record k { sets = put k.sets n set; set_keys = keys; used_sets = used_with k.used_sets n }) n) else None)
after-new_set P k keys n set h true e = h e
after-new_set P k keys n set h false e = tt

after-new_set_of : (P : Kernel → Type 0) (k : Kernel) (keys : Numbered ℕ) (n : ℕ) (r : Result SemaphoreSet Errno) → P k
    → ((set : SemaphoreSet) → r ≡ Ok set → is_fresh k.used_sets n ≡ true
    → P (record k { sets = put k.sets n set; set_keys = keys; used_sets = used_with k.used_sets n }))
    → Of (After P) (new_set_of k keys n r)
after-new_set_of P k keys n (Err e) h g = h
after-new_set_of P k keys n (Ok set) h g = after-new_set P k keys n set (g set refl) (is_fresh k.used_sets n) refl

after-found_set : (P : Kernel → Type 0) (k : Kernel) (id count : ℕ) → P k → After P (find_set k id count)
after-found_set P k id count h =
    by_test (After P) (nat_eq count 0 || nat_le count (set_size k id)) (reply_with k id) (refuse k Einval) (λ t. h)
    (λ t. h)

after-get_set_at : (P : Kernel → Type 0) (k : Kernel) (pid : ℕ) (a : Alive) (n : ℕ) → Moves P k pid a n
    → (key count : ℕ) (create excl : Bool) (found : Option ℕ)
    → Of (After P) (get_set_at k key count create excl n found)
after-get_set_at P k pid a n m key count create excl (Some id) =
    by_test (After P) (create && excl) (refuse k Eexist) (find_set k id count) (λ t. m.same)
    (λ t. after-found_set P k id count m.same)
after-get_set_at P k pid a n m key count create excl None =
    of_choice (After P) create (new_set_of k (put k.set_keys key n) n (new_set count)) (Some (refuse k Enoent))
    (after-new_set_of P k (put k.set_keys key n) n (new_set count) m.same (m.binds_set key count)) m.same

after-get_set : (P : Kernel → Type 0) (k : Kernel) (pid : ℕ) (a : Alive) (n : ℕ) → Moves P k pid a n
    → (key : Option ℕ) (count : ℕ) (create excl : Bool)
    → Of (After P) (get_set k key count create excl n)
after-get_set P k pid a n m None count create excl =
    after-new_set_of P k k.set_keys n (new_set count) m.same (m.makes_set count)
after-get_set P k pid a n m (Some key) count create excl =
    after-get_set_at P k pid a n m key count create excl (get k.set_keys key)

after-changed_set : (P : Kernel → Type 0) (k : Kernel) (id : ℕ) (r : Result SemaphoreSet Errno) → P k
    → ((set : SemaphoreSet) → r ≡ Ok set → P (with_set k id set)) → After P (change_set k id r)
after-changed_set P k id (Ok set) h g = g set refl
after-changed_set P k id (Err e) h g = h

after-operated : (P : Kernel → Type 0) (k : Kernel) (pid : ℕ) (a : Alive) (n : ℕ) → Moves P k pid a n
    → (id : ℕ) (steps : List SemStep)
    → Of (After P) (operate k pid id steps)
after-operated P k pid a n m id steps =
    of_choice (After P) (list_any may_wait steps) None
    (Some (on_named k (get k.sets id) (λ set. change_set k id (op set pid steps)))) tt
    (after-named P k (get k.sets id) (λ set. change_set k id (op set pid steps)) m.same
    (λ set l. after-changed_set P k id (op set pid steps) m.same (λ next. m.operates id steps set next l)))

after-effect : (P : Kernel → Type 0) (k : Kernel) (pid : ℕ) (a : Alive) (call : Call) (n : ℕ) → Moves P k pid a n
    → Of (After P) (effect k pid a call n)
after-effect P k pid a (calls.Fork block) n m = after-fork P k pid a n m (is_fresh k.used_processes n) refl
after-effect P k pid a (calls.Exit status) n m = m.ends (endings.Exited (status % 256))
after-effect P k pid a (calls.Killed sig) n m = m.ends (endings.Killed sig)
after-effect P k pid a calls.GetPid n m = m.same
after-effect P k pid a (calls.Kill target sig) n m = after-kill P k pid a n m target sig
after-effect P k pid a (calls.SigAction sig act) n m = after-acted P k pid a n m sig act
after-effect P k pid a (calls.SigProcMask how set) n m = m.masks how set
after-effect P k pid a calls.SigPending n m = m.same
after-effect P k pid a (calls.Handled sig) n m = m.same
after-effect P k pid a (calls.WaitPid child true) n m = after-reaped P k pid a n m child (wait a.row.family child) refl
after-effect P k pid a (calls.WaitPid child false) n m = tt
after-effect P k pid a (calls.MsgGet key create excl) n m = after-get_queue P k pid a n m key create excl
after-effect P k pid a (calls.MsgSnd id class text true) n m =
    after-named P k (get k.queues id) (λ q. change_queue k id (send q pid class text)) m.same
    (λ q l. after-changed_queue P k id (send q pid class text) m.same (λ next. m.sends id class text q next l))
after-effect P k pid a (calls.MsgSnd id class text false) n m = tt
after-effect P k pid a (calls.MsgRcv id class size noerror true) n m =
    after-named P k (get k.queues id) (λ q. receive_effect k id (receive q pid class size noerror)) m.same
    (λ q l. after-received P k id (receive q pid class size noerror) m.same
    (λ r. m.receives id class size noerror q r l))
after-effect P k pid a (calls.MsgRcv id class size noerror false) n m = tt
after-effect P k pid a (calls.MsgStat id) n m = after-named P k (get k.queues id) (stat_effect k) m.same (λ q l. m.same)
after-effect P k pid a (calls.MsgSet id qbytes) n m =
    after-named P k (get k.queues id) (λ q. change_queue k id (set_qbytes q qbytes)) m.same
    (λ q l. after-changed_queue P k id (set_qbytes q qbytes) m.same (λ next. m.limits id qbytes q next l))
after-effect P k pid a (calls.MsgRmid id) n m =
    after-named P k (get k.queues id) (λ _. remove_queue k id) m.same (λ q l. m.removes_queue id)
after-effect P k pid a (calls.SemGet key count create excl) n m = after-get_set P k pid a n m key count create excl
after-effect P k pid a (calls.SemOp id steps) n m = after-operated P k pid a n m id steps
after-effect P k pid a (calls.SemGetVal id num) n m =
    after-named P k (get k.sets id) (λ s. look_up k (value_at s num)) m.same
    (λ s l. after-looked_up P k (value_at s num) m.same)
after-effect P k pid a (calls.SemGetPid id num) n m =
    after-named P k (get k.sets id) (λ s. look_up k (last_at s num)) m.same
    (λ s l. after-looked_up P k (last_at s num) m.same)
after-effect P k pid a (calls.SemGetNcnt id num) n m =
    after-named P k (get k.sets id) (λ s. look_up k (waiting_at s num)) m.same
    (λ s l. after-looked_up P k (waiting_at s num) m.same)
after-effect P k pid a (calls.SemGetZcnt id num) n m =
    after-named P k (get k.sets id) (λ s. look_up k (waiting_at s num)) m.same
    (λ s l. after-looked_up P k (waiting_at s num) m.same)
after-effect P k pid a (calls.SemSetVal id num value) n m =
    after-named P k (get k.sets id) (λ s. change_set k id (set_value s num value)) m.same
    (λ s l. after-changed_set P k id (set_value s num value) m.same (λ next. m.sets_one id num value s next l))
after-effect P k pid a (calls.SemGetAll id) n m = after-named P k (get k.sets id) (all_values k) m.same (λ s l. m.same)
after-effect P k pid a (calls.SemSetAll id values) n m =
    after-named P k (get k.sets id) (λ s. change_set k id (set_all s values)) m.same
    (λ s l. after-changed_set P k id (set_all s values) m.same (λ next. m.fills id values s next l))
after-effect P k pid a (calls.SemRmid id) n m =
    after-named P k (get k.sets id) (λ _. remove_set k id) m.same (λ s l. m.removes_set id)
after-effect P k pid a (calls.Withdraw name) n m = tt

-- and it holds where a doomed caller has nothing left
abbrev pub Finishes : (Kernel → Type 0) → ℕ → Type 0
Finishes P pid =
    (k : Kernel) (a : Alive) → P k → living_at k pid ≡ Some a → is_some a.row.signals.doom ≡ true
    → P (with_alive k pid (record a { allowance = Spent }))

after-doom : (P : Kernel → Type 0) (pid : ℕ) → Finishes P pid → (k : Kernel) (a : Alive) → P k
    → living_at k pid ≡ Some a
    → (doomed : Bool) → is_some a.row.signals.doom ≡ doomed
    → P (if doomed then with_alive k pid (record a { allowance = Spent }) else k)
after-doom P pid f k a h l true d = f k a h l d
after-doom P pid f k a h l false d = h

after-finished : (P : Kernel → Type 0) (pid : ℕ) → Finishes P pid → (k : Kernel) → P k → (found : Option Alive)
    → living_at k pid ≡ found → P (finish_call k pid found)
after-finished P pid f k h None l = h
after-finished P pid f k h (Some a) l = after-doom P pid f k a h l (is_some a.row.signals.doom) refl

-- what every move keeps holds after a call
pub after-call : (P : Kernel → Type 0) (k : Kernel) (pid : ℕ) (call : Call) (n : ℕ) (next : Kernel) (outcome : Outcome)
    → (s : Step k pid call n next outcome)
    → Moves P k pid s.alive n → P s.result.kernel
after-call P k pid call n next outcome s m =
    let Q : Option Effect → Type 0 = λ o. Of (After P) o in subst Q s.gives (after-effect P k pid s.alive call n m)

-- what every move keeps, and the end of a call gives back, holds after a step
pub after-step : (P : Kernel → Type 0) (k : Kernel) (pid : ℕ) (call : Call) (n : ℕ) (next : Kernel) (outcome : Outcome)
    → (s : Step k pid call n next outcome)
    → Moves P k pid s.alive n → Finishes P pid → P next
after-step P k pid call n next outcome s m f =
    let h : P s.result.kernel = after-call P k pid call n next outcome s m
    in subst P s.leads (after-finished P pid f s.result.kernel h (living_at s.result.kernel pid) refl)
