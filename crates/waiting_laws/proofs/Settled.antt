-- Each entry leaves nobody who could go on.
use Rattle.std.proofs.Common.{◌≡◌, ℕ, Bool, true, false, not, ◌&&◌, nat_eq, List, [], ◌∷◌, Option, Some, None, Result, Ok, Err, is_some, refl, subst}
use Rattle.std.specs.Prelude.{if◌then◌else◌}
use Rattle.pico_base.specs.declared.call.Call.{Call}
use Rattle.pico_base.specs.declared.call.Call.TheVariants as calls
use Rattle.pico_base.specs.declared.numbers.Name.{Name}
use Rattle.pico_base.specs.declared.numbers.Name.TheVariants.{Proc, Msg, Sem}
use Rattle.pico_base.specs.declared.reply.Errno.{Errno}
use Rattle.pico_base.specs.declared.reply.Entry.{Entry}
use Rattle.pico_base.specs.declared.reply.Reply.{Reply}
use Rattle.pico_base.specs.declared.signal.SigArg.{SigArg}
use Rattle.pico_base.specs.declared.signal.SigArg.TheVariants.{Zero, Is, Bad}
use Rattle.number_maps.specs.Maps.{Numbered, get, put}
use Rattle.kernel_model.specs.Effect.{is_fresh}
use Rattle.kernel_model.specs.Queue.{Queue, empty_queue}
use Rattle.kernel_model.specs.Row.{Waited, Found, NotYet, NoChild, wait}
use Rattle.kernel_model.specs.SemaphoreSet.{SemaphoreSet, new_set}
use Rattle.kernel_model.specs.Signals.{Signals, act_on}
use Rattle.waiting_model.specs.declared.callers.Waiting.{Waiting}
use Rattle.waiting_model.specs.Waiters.{Awaited, waiter, unawaited, without_waiter, IsSettled}
use Rattle.waiting_model.specs.Queue.{try_queue, carry_out_on_queue}
use Rattle.waiting_model.specs.SemaphoreSet.{try_set, carry_out_on_set, carry_out_on_set_by}
use Rattle.waiting_model.specs.Marks.{Alive, spent}
use Rattle.waiting_model.specs.Kernel.{Kernel, Process, Living, Ended, Gone, opening, living_at, with_alive}
use Rattle.waiting_model.specs.Effect.{Effect, on_named}
use Rattle.waiting_model.specs.ProcessCalls.{reap_child, action_effect, signal_living, kill_at, kill}
use Rattle.waiting_model.specs.QueueCalls.{new_queue, get_queue_at, get_queue, queue_effect, remove_queue}
use Rattle.waiting_model.specs.SetCalls.{new_set_of, get_set_at, get_set, set_effect, remove_set}
use Rattle.waiting_model.specs.Transition.{Successor, successor, effect_by, effect, may_make, may_withdraw, allowance_after, finish_call, outcome_of, withdrawn, withdraw, unparked, queue_without, set_without, transition_by}
use Rattle.waiting_model.specs.History.{Replays}
use Rattle.waiting_laws.specs.Settled.{NobodyCouldGoOn, EntriesSettle, ReachableKernelsAreSettled}
use Rattle.waiting_laws.proofs.Maps.{all-get, all-put, all-filter}
use Rattle.waiting_laws.proofs.Settling.{settled-carried, all-of-filter}

-- where there is something, nobody could go on after it
abbrev IfSettled : Option Effect → Type 0
IfSettled None = Unit {0}
IfSettled (Some e) = NobodyCouldGoOn e.kernel

settled-test : (b : Bool) (e : Effect) → NobodyCouldGoOn e.kernel → IfSettled (if b then Some e else None)
settled-test true e h = h
settled-test false e h = tt

settled-either : (b : Bool) (x y : Option Effect) → IfSettled x → IfSettled y → IfSettled (if b then x else y)
settled-either true x y h g = h
settled-either false x y h g = g

settled-choice : (b : Bool) (e f : Effect) → NobodyCouldGoOn e.kernel → NobodyCouldGoOn f.kernel
    → NobodyCouldGoOn (let x : Effect = (if b then e else f) in x.kernel)
settled-choice true e f h g = h
settled-choice false e f h g = g

-- calls that leave the queues and the sets
settled-processes : (k : Kernel) → NobodyCouldGoOn k → (ps : Numbered Process)
    → NobodyCouldGoOn (record k { processes = ps })
settled-processes k h ps = record { queues = h.queues; sets = h.sets }

reaped : (k : Kernel) → NobodyCouldGoOn k → (pid : ℕ) (a : Alive) (nohang : Bool) (w : Waited)
    → NobodyCouldGoOn (reap_child k pid a nohang w).kernel
reaped k h pid a nohang (Found child ending) = record { queues = h.queues; sets = h.sets }
reaped k h pid a true NotYet = h
reaped k h pid a false NotYet = h
reaped k h pid a nohang NoChild = h

acted : (k : Kernel) → NobodyCouldGoOn k → (pid : ℕ) (a : Alive) (r : Result Signals Errno)
    → NobodyCouldGoOn (action_effect k pid a r).kernel
acted k h pid a (Ok s) = record { queues = h.queues; sets = h.sets }
acted k h pid a (Err e) = h

settled-if : (b : Bool) (j k : Kernel) → NobodyCouldGoOn j → NobodyCouldGoOn k → NobodyCouldGoOn (if b then j else k)
settled-if true j k h g = h
settled-if false j k h g = g

signalled : (k : Kernel) → NobodyCouldGoOn k → (caller pid : ℕ) (a : Alive) (sig : SigArg)
    → NobodyCouldGoOn (signal_living k caller pid a sig).kernel
signalled k h caller pid a Zero = h
signalled k h caller pid a Bad = h
signalled k h caller pid a (Is g) =
    settled-if (nat_eq caller pid) _ _ (record { queues = h.queues; sets = h.sets })
    (record { queues = h.queues; sets = h.sets })

killed-at : (k : Kernel) → NobodyCouldGoOn k → (caller pid : ℕ) (sig : SigArg) (o : Option Process)
    → NobodyCouldGoOn (kill_at k caller pid sig o).kernel
killed-at k h caller pid sig None = h
killed-at k h caller pid sig (Some Gone) = h
killed-at k h caller pid sig (Some (Ended ending)) = h
killed-at k h caller pid sig (Some (Living a)) = signalled k h caller pid a sig

killed : (k : Kernel) → NobodyCouldGoOn k → (caller pid : ℕ) (sig : SigArg)
    → NobodyCouldGoOn (kill k caller pid sig).kernel
killed k h caller pid Bad = h
killed k h caller pid Zero = killed-at k h caller pid Zero (get k.processes pid)
killed k h caller pid (Is g) = killed-at k h caller pid (Is g) (get k.processes pid)

-- calls on queues
made-queue : (k : Kernel) → NobodyCouldGoOn k → (keys : Numbered ℕ) (n : ℕ) → IfSettled (new_queue k keys n)
made-queue k h keys n =
    settled-test (is_fresh k.used_queues n) _
    (record {
      queues = all-put (IsSettled try_queue) k.queues n (unawaited empty_queue) h.queues tt;
      sets = h.sets;
    })

got-queue : (k : Kernel) → NobodyCouldGoOn k → (key : ℕ) (create excl : Bool) (n : ℕ) (o : Option ℕ)
    → IfSettled (get_queue_at k key create excl n o)
got-queue k h key create excl n (Some id) = settled-choice (create && excl) _ _ h h
got-queue k h key create excl n None =
    settled-either create _ _ (made-queue k h (put k.queue_keys key n) n) h

queue-got : (k : Kernel) → NobodyCouldGoOn k → (key : Option ℕ) (create excl : Bool) (n : ℕ)
    → IfSettled (get_queue k key create excl n)
queue-got k h None create excl n = made-queue k h k.queue_keys n
queue-got k h (Some key) create excl n = got-queue k h key create excl n (get k.queue_keys key)

queue-carried : (k : Kernel) → NobodyCouldGoOn k → (id : ℕ) (who : Waiting) (o : Option (Awaited Queue))
    → get k.queues id ≡ o
    → NobodyCouldGoOn (on_named k o (λ q. queue_effect k id (carry_out_on_queue q who))).kernel
queue-carried k h id who None there = h
queue-carried k h id who (Some q) there =
    record {
      queues =
          all-put (IsSettled try_queue) k.queues id _ h.queues
          (settled-carried try_queue q who (all-get (IsSettled try_queue) k.queues id q h.queues there));
      sets = h.sets;
    }

queue-removed : (k : Kernel) → NobodyCouldGoOn k → (id : ℕ) (o : Option (Awaited Queue))
    → NobodyCouldGoOn (on_named k o (remove_queue k id)).kernel
queue-removed k h id None = h
queue-removed k h id (Some q) =
    record {
      queues = all-filter (IsSettled try_queue) (λ e. not (nat_eq id e.0)) k.queues h.queues;
      sets = h.sets;
    }

-- calls on sets
made-set : (k : Kernel) → NobodyCouldGoOn k → (keys : Numbered ℕ) (n : ℕ) (r : Result SemaphoreSet Errno)
    → IfSettled (new_set_of k keys n r)
made-set k h keys n (Err e) = h
made-set k h keys n (Ok s) =
    settled-test (is_fresh k.used_sets n) _
    (record { queues = h.queues; sets = all-put (IsSettled try_set) k.sets n (unawaited s) h.sets tt })

got-set : (k : Kernel) → NobodyCouldGoOn k → (key count : ℕ) (create excl : Bool) (n : ℕ) (o : Option ℕ)
    → IfSettled (get_set_at k key count create excl n o)
got-set k h key count create excl n (Some id) =
    settled-choice (create && excl) _ _ h (settled-choice _ _ _ h h)
got-set k h key count create excl n None =
    settled-either create _ _ (made-set k h (put k.set_keys key n) n (new_set count)) h

set-got : (k : Kernel) → NobodyCouldGoOn k → (key : Option ℕ) (count : ℕ) (create excl : Bool) (n : ℕ)
    → IfSettled (get_set k key count create excl n)
set-got k h None count create excl n = made-set k h k.set_keys n (new_set count)
set-got k h (Some key) count create excl n = got-set k h key count create excl n (get k.set_keys key)

carried-set : (s : Awaited SemaphoreSet) (who : Waiting) (call : Call) → IsSettled try_set s
    → IsSettled try_set (carry_out_on_set_by s who call).object
carried-set s who (calls.SemGetNcnt id num) h = h
carried-set s who (calls.SemGetZcnt id num) h = h
carried-set s who call h = settled-carried try_set s who h

set-carried : (k : Kernel) → NobodyCouldGoOn k → (id : ℕ) (who : Waiting) (o : Option (Awaited SemaphoreSet))
    → get k.sets id ≡ o → NobodyCouldGoOn (on_named k o (λ s. set_effect k id (carry_out_on_set s who))).kernel
set-carried k h id who None there = h
set-carried k h id who (Some s) there =
    record {
      queues = h.queues;
      sets =
          all-put (IsSettled try_set) k.sets id _ h.sets
          (carried-set s who who.call (all-get (IsSettled try_set) k.sets id s h.sets there));
    }

set-removed : (k : Kernel) → NobodyCouldGoOn k → (id : ℕ) (o : Option (Awaited SemaphoreSet))
    → NobodyCouldGoOn (on_named k o (remove_set k id)).kernel
set-removed k h id None = h
set-removed k h id (Some s) =
    record {
      queues = h.queues;
      sets = all-filter (IsSettled try_set) (λ e. not (nat_eq id e.0)) k.sets h.sets;
    }

-- all calls
settled-effect : (k : Kernel) → NobodyCouldGoOn k → (who : Waiting) (a : Alive) (call : Call) (n : ℕ)
    → IfSettled (effect_by k who a call n)
settled-effect k h who a (calls.Fork block) n =
    settled-test (is_fresh k.used_processes n) _ (record { queues = h.queues; sets = h.sets })
settled-effect k h who a (calls.Exit status) n = record { queues = h.queues; sets = h.sets }
settled-effect k h who a (calls.Killed sig) n = record { queues = h.queues; sets = h.sets }
settled-effect k h who a calls.GetPid n = h
settled-effect k h who a (calls.Kill target sig) n = killed k h who.pid target sig
settled-effect k h who a (calls.SigAction sig act) n = acted k h who.pid a (act_on a.row.signals sig act)
settled-effect k h who a (calls.SigProcMask how set) n = record { queues = h.queues; sets = h.sets }
settled-effect k h who a calls.SigPending n = h
settled-effect k h who a (calls.Handled sig) n = h
settled-effect k h who a (calls.WaitPid child nohang) n = reaped k h who.pid a nohang (wait a.row.family child)
settled-effect k h who a (calls.MsgGet key create excl) n = queue-got k h key create excl n
settled-effect k h who a (calls.MsgSnd id class text nowait) n = queue-carried k h id who (get k.queues id) refl
settled-effect k h who a (calls.MsgRcv id class size noerror nowait) n =
    queue-carried k h id who (get k.queues id) refl
settled-effect k h who a (calls.MsgStat id) n = queue-carried k h id who (get k.queues id) refl
settled-effect k h who a (calls.MsgSet id qbytes) n = queue-carried k h id who (get k.queues id) refl
settled-effect k h who a (calls.MsgRmid id) n = queue-removed k h id (get k.queues id)
settled-effect k h who a (calls.SemGet key count create excl) n = set-got k h key count create excl n
settled-effect k h who a (calls.SemRmid id) n = set-removed k h id (get k.sets id)
settled-effect k h who a (calls.SemOp id steps) n = set-carried k h id who (get k.sets id) refl
settled-effect k h who a (calls.SemGetVal id num) n = set-carried k h id who (get k.sets id) refl
settled-effect k h who a (calls.SemGetPid id num) n = set-carried k h id who (get k.sets id) refl
settled-effect k h who a (calls.SemGetNcnt id num) n = set-carried k h id who (get k.sets id) refl
settled-effect k h who a (calls.SemGetZcnt id num) n = set-carried k h id who (get k.sets id) refl
settled-effect k h who a (calls.SemSetVal id num value) n = set-carried k h id who (get k.sets id) refl
settled-effect k h who a (calls.SemGetAll id) n = set-carried k h id who (get k.sets id) refl
settled-effect k h who a (calls.SemSetAll id values) n = set-carried k h id who (get k.sets id) refl
settled-effect k h who a (calls.Withdraw name) n = tt

settled-allowance : (k : Kernel) → NobodyCouldGoOn k → (pid : ℕ) (o : Option Alive)
    → NobodyCouldGoOn (allowance_after k pid o)
settled-allowance k h pid None = h
settled-allowance k h pid (Some a) =
    settled-if (is_some a.row.signals.doom) (with_alive k pid (spent a)) k
    (settled-processes k h (put k.processes pid (Living (spent a)))) h

settled-finish : (k : Kernel) → NobodyCouldGoOn k → (pid : ℕ) (call : Call) (own : Option Reply)
    → NobodyCouldGoOn (finish_call k pid call own)
settled-finish k h pid call own =
    let first = settled-allowance k h pid (living_at k pid)
    in record { queues = first.queues; sets = first.sets }

-- a withdrawal
queue-left : (k : Kernel) → NobodyCouldGoOn k → (id pid : ℕ) (o : Option (Awaited Queue)) → get k.queues id ≡ o
    → NobodyCouldGoOn (queue_without k id pid o)
queue-left k h id pid None there = h
queue-left k h id pid (Some q) there =
    record {
      queues =
          all-put (IsSettled try_queue) k.queues id (without_waiter pid q) h.queues
          (all-of-filter (λ w. try_queue q.state w.pid w.call ≡ None) (λ w. not (nat_eq pid w.pid)) q.waiters
          (all-get (IsSettled try_queue) k.queues id q h.queues there));
      sets = h.sets;
    }

set-left : (k : Kernel) → NobodyCouldGoOn k → (id pid : ℕ) (o : Option (Awaited SemaphoreSet)) → get k.sets id ≡ o
    → NobodyCouldGoOn (set_without k id pid o)
set-left k h id pid None there = h
set-left k h id pid (Some s) there =
    record {
      queues = h.queues;
      sets =
          all-put (IsSettled try_set) k.sets id (without_waiter pid s) h.sets
          (all-of-filter (λ w. try_set s.state w.pid w.call ≡ None) (λ w. not (nat_eq pid w.pid)) s.waiters
          (all-get (IsSettled try_set) k.sets id s h.sets there));
    }

settled-unparked : (k : Kernel) → NobodyCouldGoOn k → (pid : ℕ) (name : Name) → NobodyCouldGoOn (unparked k pid name)
settled-unparked k h pid (Proc own) = h
settled-unparked k h pid (Msg id) = queue-left k h id pid (get k.queues id) refl
settled-unparked k h pid (Sem id) = set-left k h id pid (get k.sets id) refl

settled-withdrawn : (k : Kernel) → NobodyCouldGoOn k → (pid : ℕ) (name : Name) → NobodyCouldGoOn (withdrawn k pid name)
settled-withdrawn k h pid name =
    let left = settled-unparked k h pid name
    in record { queues = left.queues; sets = left.sets }

-- all entries
abbrev LeadsSettled : Option Successor → Type 0
LeadsSettled None = Unit {0}
LeadsSettled (Some s) = NobodyCouldGoOn s.kernel

leads-if : (b : Bool) (x : Option Successor) → LeadsSettled x → LeadsSettled (if b then x else None)
leads-if true x h = h
leads-if false x h = tt

leads-by : (pid : ℕ) (call : Call) (o : Option Effect) → IfSettled o → LeadsSettled (outcome_of pid call o)
leads-by pid call None h = tt
leads-by pid call (Some e) h = settled-finish e.kernel h pid call e.own

leads-living : (k : Kernel) → NobodyCouldGoOn k → (pid : ℕ) (call : Call) (n : ℕ) (o : Option Alive)
    → LeadsSettled (transition_by k pid call n o)
leads-living k h pid call n None = tt
leads-living k h pid (calls.Withdraw name) n (Some a) =
    leads-if (may_withdraw pid a name) (Some (withdraw k pid name)) (settled-withdrawn k h pid name)
leads-living k h pid call n (Some a) =
    leads-if (may_make a call) (outcome_of pid call (effect k (waiter pid call) a n))
    (leads-by pid call (effect k (waiter pid call) a n) (settled-effect k h (waiter pid call) a call n))

-- an entry is one of a call or a withdrawal
pub entries-settle : EntriesSettle
entries-settle k pid call n s h is = subst LeadsSettled is (leads-living k h pid call n (living_at k pid))

settled-along : (h : List Entry) (k last : Kernel) → NobodyCouldGoOn k → Replays k h last → NobodyCouldGoOn last
settled-along [] k last settled r = subst NobodyCouldGoOn r settled
settled-along (e ∷ es) k last settled r =
    settled-along es r.next last (entries-settle k e.pid e.call _ (successor r.next e.outcome) settled r.step) r.rest

-- the opening kernel has nobody who waits
pub reachable-settled : ReachableKernelsAreSettled
reachable-settled h k r = settled-along h opening k (record { queues = tt; sets = tt }) r
