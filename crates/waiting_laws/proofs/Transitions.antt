-- All calls, where nobody waits.
use Rattle.std.proofs.Common.{◌≡◌, ◌∙◌, ℕ, Bool, true, false, not, ◌&&◌, nat_eq, List, [], ◌∷◌, map, Option, Some, None, is_some, refl, ap, sym, subst}
use Rattle.std.specs.Prelude.{if◌then◌else◌, ◌%◌}
use Rattle.std.specs.List.{list_any}
use Rattle.std.specs.Option.{option_map, option_and_then}
use Rattle.std.proofs.lemmas.Bool.{true≢false}
use Rattle.pico_base.specs.declared.call.Call.{Call}
use Rattle.pico_base.specs.declared.call.Call.TheVariants as calls
use Rattle.pico_base.specs.declared.call.SemStep.{SemStep}
use Rattle.pico_base.specs.declared.numbers.Name.{Name}
use Rattle.pico_base.specs.declared.reply.Ending.TheVariants as endings
use Rattle.pico_base.specs.declared.reply.Outcome.{Outcome}
use Rattle.pico_base.specs.declared.reply.Reply.{Reply}
use Rattle.pico_base.specs.declared.reply.Reply.TheVariants as replies
use Rattle.pico_base.specs.Signal.{at}
use Rattle.number_maps.specs.Maps.{Numbered, get}
use Rattle.kernel_model.specs.Signals.{act_on, with_mask}
use Rattle.kernel_model.specs.Row.{wait}
use Rattle.kernel_model.specs.Row as plain_rows
use Rattle.kernel_model.specs.Queue.{send, receive, stat, set_qbytes}
use Rattle.kernel_model.specs.SemaphoreSet.{op, values_of, value_at, last_at, set_value, set_all}
use Rattle.kernel_model.specs.Effect as plain_effects
use Rattle.kernel_model.specs.Effect.{reply_alone}
use Rattle.kernel_model.specs.Kernel as plain_kernels
use Rattle.kernel_model.specs.Waiting.{is_waiting, may_wait}
use Rattle.kernel_model.specs.SetCalls as plain_sets
use Rattle.kernel_model.specs.Transition as plain
use Rattle.waiting_model.specs.Calls.{may_park}
use Rattle.waiting_model.specs.declared.callers.Wake.{Wake}
use Rattle.waiting_model.specs.Waiters.{waiter, unawaited, carry_out_by}
use Rattle.waiting_model.specs.SemaphoreSet.{try_set, is_negative_on, is_zero_on}
use Rattle.waiting_model.specs.Marks.{Alive, plain_alive, after_reply, spent, with_signals_of, is_parked_at}
use Rattle.waiting_model.specs.Kernel.{Kernel, Process, Living, Ended, Gone, alive_in, living_at, with_alive, where_living, change_living}
use Rattle.waiting_model.specs.Effect.{Effect, woken_pair, outcome_of_effect}
use Rattle.waiting_model.specs.SetCalls.{on_set}
use Rattle.waiting_model.specs.Transition.{Successor, successor, effect, may_make, may_withdraw, allowance_after, marks_after, finish_call, outcome_of, withdraw, step_by, transition, transition_by}
use Rattle.waiting_model.specs.Plain.{each, plain_process, plain_kernel, AllValues, IsUnparked, NobodyWaits}
use Rattle.waiting_laws.specs.Before.{LeadsAlike, LeadAlike, CallsAreAsBefore}
use Rattle.waiting_laws.proofs.Maps.{get-each, all-get}
use Rattle.waiting_laws.proofs.Alike.{Alike, BothAlike, alike-replying, alike-with_alive, quiet-processes}
use Rattle.waiting_laws.proofs.Processes.{fork-alike, end-alike, reap-alike, signals-alike, kill-alike}
use Rattle.waiting_laws.proofs.Objects.{get-queue-alike, on-queue-alike, remove-queue-alike, queue-states-rise, get-set-alike, on-set-alike, remove-set-alike, set_states, DoesOnSet, looks-at-set, reads-set, changes-set, counts-set}
use Rattle.waiting_laws.proofs.AtOnce.{op-at-once}
use Rattle.waiting_laws.proofs.Tries.{looks-at-queue, changes-queue, sends-to-queue, receives-from-queue}

-- a semop with no operation that may have to wait
op-alike : (k : Kernel) → NobodyWaits k → (pid id : ℕ) (steps : List SemStep) (b : Bool) → list_any may_wait steps ≡ b
    → b ≡ false
    → BothAlike (Some (on_set k id (waiter pid (calls.SemOp id steps))))
    (if b then None
    else Some (plain_effects.on_named (plain_kernel k) (get (set_states k) id)
    (λ s. plain_sets.change_set (plain_kernel k) id (op s pid steps))))
op-alike k quiet pid id steps true h is = absurd (true≢false is)
op-alike k quiet pid id steps false h is =
    on-set-alike k quiet id (waiter pid (calls.SemOp id steps))
    (λ s. plain_sets.change_set (plain_kernel k) id (op s pid steps))
    (λ s there.
    subst
    (λ o.
    DoesOnSet k id (carry_out_by try_set (unawaited s) (waiter pid (calls.SemOp id steps)) o)
    (plain_sets.change_set (plain_kernel k) id (op s pid steps)))
    (sym (op-at-once s pid steps h))
    (changes-set k quiet id s there (waiter pid (calls.SemOp id steps)) (op s pid steps)))

pub effects-alike : (k : Kernel) → NobodyWaits k → (pid : ℕ) (a : Alive) → a.marks.parked ≡ None → (call : Call) (n : ℕ)
    → is_waiting call ≡ false
    → BothAlike (effect k (waiter pid call) a n) (plain.effect (plain_kernel k) pid (plain_alive a) call n)
effects-alike k quiet pid a unparked (calls.Fork block) n h = fork-alike k quiet pid a n unparked
effects-alike k quiet pid a unparked (calls.Exit status) n h = end-alike k quiet pid a (endings.Exited (status % 256))
effects-alike k quiet pid a unparked (calls.Killed sig) n h = end-alike k quiet pid a (endings.Killed sig)
effects-alike k quiet pid a unparked calls.GetPid n h = alike-replying k quiet (replies.Num pid)
effects-alike k quiet pid a unparked (calls.Kill target sig) n h = kill-alike k quiet pid target sig
effects-alike k quiet pid a unparked (calls.SigAction sig act) n h =
    signals-alike k quiet pid a unparked (act_on a.row.signals sig act)
effects-alike k quiet pid a unparked (calls.SigProcMask how set) n h =
    alike-with_alive k quiet pid (with_signals_of a (with_mask a.row.signals how set)) unparked
    (replies.Bits a.row.signals.mask)
effects-alike k quiet pid a unparked calls.SigPending n h = alike-replying k quiet (replies.Bits a.row.signals.pending)
effects-alike k quiet pid a unparked (calls.Handled sig) n h =
    alike-replying k quiet (replies.Num (at a.row.signals.handled sig))
effects-alike k quiet pid a unparked (calls.WaitPid child true) n h =
    reap-alike k quiet pid a unparked (wait a.row.family child)
effects-alike k quiet pid a unparked (calls.WaitPid child false) n h = absurd (true≢false h)
effects-alike k quiet pid a unparked (calls.MsgGet key create excl) n h = get-queue-alike k quiet key create excl n
effects-alike k quiet pid a unparked (calls.MsgSnd id class text true) n h =
    on-queue-alike k quiet id (waiter pid (calls.MsgSnd id class text true)) _
    (λ q there. sends-to-queue (plain_kernel k) (queue-states-rise k quiet) id q there (send q pid class text))
effects-alike k quiet pid a unparked (calls.MsgSnd id class text false) n h = absurd (true≢false h)
effects-alike k quiet pid a unparked (calls.MsgRcv id class size noerror true) n h =
    on-queue-alike k quiet id (waiter pid (calls.MsgRcv id class size noerror true)) _
    (λ q there. receives-from-queue (plain_kernel k) (queue-states-rise k quiet) id q there
    (receive q pid class size noerror))
effects-alike k quiet pid a unparked (calls.MsgRcv id class size noerror false) n h = absurd (true≢false h)
effects-alike k quiet pid a unparked (calls.MsgStat id) n h =
    on-queue-alike k quiet id (waiter pid (calls.MsgStat id)) _
    (λ q there. looks-at-queue (plain_kernel k) (queue-states-rise k quiet) id q there (stat q))
effects-alike k quiet pid a unparked (calls.MsgSet id qbytes) n h =
    on-queue-alike k quiet id (waiter pid (calls.MsgSet id qbytes)) _
    (λ q there. changes-queue (plain_kernel k) (queue-states-rise k quiet) id q there (set_qbytes q qbytes))
effects-alike k quiet pid a unparked (calls.MsgRmid id) n h = remove-queue-alike k quiet id
effects-alike k quiet pid a unparked (calls.SemGet key count create excl) n h =
    get-set-alike k quiet key count create excl n
effects-alike k quiet pid a unparked (calls.SemOp id steps) n h =
    op-alike k quiet pid id steps (list_any may_wait steps) refl h
effects-alike k quiet pid a unparked (calls.SemGetVal id num) n h =
    on-set-alike k quiet id (waiter pid (calls.SemGetVal id num)) _
    (λ s there. reads-set k quiet id s there (waiter pid (calls.SemGetVal id num)) (value_at s num))
effects-alike k quiet pid a unparked (calls.SemGetPid id num) n h =
    on-set-alike k quiet id (waiter pid (calls.SemGetPid id num)) _
    (λ s there. reads-set k quiet id s there (waiter pid (calls.SemGetPid id num)) (last_at s num))
effects-alike k quiet pid a unparked (calls.SemGetNcnt id num) n h =
    on-set-alike k quiet id (waiter pid (calls.SemGetNcnt id num)) _
    (λ s there. counts-set k quiet id s there (is_negative_on num) num)
effects-alike k quiet pid a unparked (calls.SemGetZcnt id num) n h =
    on-set-alike k quiet id (waiter pid (calls.SemGetZcnt id num)) _
    (λ s there. counts-set k quiet id s there (is_zero_on num) num)
effects-alike k quiet pid a unparked (calls.SemSetVal id num value) n h =
    on-set-alike k quiet id (waiter pid (calls.SemSetVal id num value)) _
    (λ s there. changes-set k quiet id s there (waiter pid (calls.SemSetVal id num value)) (set_value s num value))
effects-alike k quiet pid a unparked (calls.SemGetAll id) n h =
    on-set-alike k quiet id (waiter pid (calls.SemGetAll id)) _
    (λ s there. looks-at-set k quiet id s there (replies.All (values_of s.semaphores)))
effects-alike k quiet pid a unparked (calls.SemSetAll id values) n h =
    on-set-alike k quiet id (waiter pid (calls.SemSetAll id values)) _
    (λ s there. changes-set k quiet id s there (waiter pid (calls.SemSetAll id values)) (set_all s values))
effects-alike k quiet pid a unparked (calls.SemRmid id) n h = remove-set-alike k quiet id
effects-alike k quiet pid a unparked (calls.Withdraw name) n h = absurd (true≢false h)

-- The caller's marks.

-- a process whose row and allowance stay is the same without its marks
changed-if : (b : Bool) (f : Alive → Alive) (p : Process) → ((a : Alive) → plain_alive (f a) ≡ plain_alive a)
    → plain_process (if b then where_living f p else p) ≡ plain_process p
changed-if true f (Living a) h = ap plain_kernels.Living (h a)
changed-if true f (Ended ending) h = refl
changed-if true f Gone h = refl
changed-if false f p h = refl

-- nor does a change of marks change a process without them
pub same-processes : (ps : Numbered Process) (pid : ℕ) (f : Alive → Alive)
    → ((a : Alive) → plain_alive (f a) ≡ plain_alive a)
    → each plain_process (change_living ps pid f) ≡ each plain_process ps
same-processes [] pid f h = refl
same-processes (p ∷ ps) pid f h =
    ap
    (λ (x : plain_kernels.Process).
    (let e : ℕ × plain_kernels.Process = (p.0, x) in e ∷ each plain_process (change_living ps pid f)))
    (changed-if (nat_eq pid p.0) f p.1 h)
    ∙ ap
    (λ (xs : Numbered plain_kernels.Process).
    (let e : ℕ × plain_kernels.Process = (p.0, plain_process p.1) in e ∷ xs))
    (same-processes ps pid f h)

unparked-if : (b : Bool) (p : Process) → IsUnparked p → IsUnparked (if b then where_living after_reply p else p)
unparked-if true (Living a) h = refl
unparked-if true (Ended ending) h = tt
unparked-if true Gone h = tt
unparked-if false p h = h

unparked-changed : (ps : Numbered Process) (pid : ℕ) → AllValues IsUnparked ps
    → AllValues IsUnparked (change_living ps pid after_reply)
unparked-changed [] pid h = tt
unparked-changed (p ∷ ps) pid h = (unparked-if (nat_eq pid p.0) p.1 h.0, unparked-changed ps pid h.1)

-- the living process of a number
plain-alive_in : (o : Option Process)
    → option_and_then plain_kernels.alive_in (option_map plain_process o)
    ≡ option_map plain_alive (option_and_then alive_in o)
plain-alive_in None = refl
plain-alive_in (Some (Living a)) = refl
plain-alive_in (Some (Ended ending)) = refl
plain-alive_in (Some Gone) = refl

-- who lives is the same in the kernel without marks
pub living-each : (k : Kernel) (pid : ℕ)
    → plain_kernels.living_at (plain_kernel k) pid ≡ option_map plain_alive (living_at k pid)
living-each k pid =
    ap (option_and_then plain_kernels.alive_in) (get-each plain_process k.processes pid)
    ∙ plain-alive_in (get k.processes pid)

abbrev IsUnparkedAlive : Option Alive → Type 0
IsUnparkedAlive None = Unit {0}
IsUnparkedAlive (Some a) = a.marks.parked ≡ None

unparked-alive_in : (m : Numbered Process) (pid : ℕ) (o : Option Process) → get m pid ≡ o → AllValues IsUnparked m
    → IsUnparkedAlive (option_and_then alive_in o)
unparked-alive_in m pid None there h = tt
unparked-alive_in m pid (Some (Living a)) there h = all-get IsUnparked m pid (Living a) h there
unparked-alive_in m pid (Some (Ended ending)) there h = tt
unparked-alive_in m pid (Some Gone) there h = tt

pub unparked-living : (k : Kernel) → NobodyWaits k → (pid : ℕ) → IsUnparkedAlive (living_at k pid)
unparked-living k quiet pid = unparked-alive_in k.processes pid (get k.processes pid) refl quiet.processes

pub record Finished (k : Kernel) (p : plain_kernels.Kernel) : Type 0 where
  pub kernel : plain_kernel k ≡ p
  pub quiet : NobodyWaits k

spent-if : (k : Kernel) → NobodyWaits k → (pid : ℕ) (a : Alive) → a.marks.parked ≡ None → (b : Bool)
    → Finished (if b then with_alive k pid (spent a) else k)
    (if b then plain_kernels.with_alive (plain_kernel k) pid (plain_alive (spent a)) else plain_kernel k)
spent-if k quiet pid a unparked true =
    let alike = alike-with_alive k quiet pid (spent a) unparked (replies.Num 0)
    in record { kernel = alike.kernel; quiet = alike.quiet }
spent-if k quiet pid a unparked false = record { kernel = refl; quiet = quiet }

allowance-of : (k : Kernel) → NobodyWaits k → (pid : ℕ) (o : Option Alive) → IsUnparkedAlive o
    → Finished (allowance_after k pid o) (plain.finish_call (plain_kernel k) pid (option_map plain_alive o))
allowance-of k quiet pid None h = record { kernel = refl; quiet = quiet }
allowance-of k quiet pid (Some a) h = spent-if k quiet pid a h (is_some a.row.signals.doom)

allowance-alike : (k : Kernel) → NobodyWaits k → (pid : ℕ)
    → Finished (allowance_after k pid (living_at k pid))
    (plain.finish_call (plain_kernel k) pid (plain_kernels.living_at (plain_kernel k) pid))
allowance-alike k quiet pid =
    subst
    (λ (o : Option plain_rows.Alive).
    Finished (allowance_after k pid (living_at k pid)) (plain.finish_call (plain_kernel k) pid o))
    (sym (living-each k pid))
    (allowance-of k quiet pid (living_at k pid) (unparked-living k quiet pid))

marks-alike : (k : Kernel) → NobodyWaits k → (pid : ℕ) (call : Call) (reply : Reply)
    → Finished (marks_after k pid call (Some reply)) (plain_kernel k)
marks-alike k quiet pid call reply =
    record {
      kernel =
          ap (λ (ps : Numbered plain_kernels.Process). record (plain_kernel k) { processes = ps })
          (same-processes k.processes pid after_reply (λ a. refl));
      quiet =
          quiet-processes k quiet (change_living k.processes pid after_reply)
          (unparked-changed k.processes pid quiet.processes);
    }

finish-alike : (k : Kernel) → NobodyWaits k → (pid : ℕ) (call : Call) (reply : Reply)
    → Finished (finish_call k pid call (Some reply))
    (plain.finish_call (plain_kernel k) pid (plain_kernels.living_at (plain_kernel k) pid))
finish-alike k quiet pid call reply =
    let first = allowance-alike k quiet pid
    in let then_ = marks-alike (allowance_after k pid (living_at k pid)) first.quiet pid call reply
    in record { kernel = then_.kernel ∙ first.kernel; quiet = then_.quiet }

-- The outcome.

same-outcome : (own : Option Reply) (wakes : List Wake) (reply : Reply) → own ≡ Some reply → wakes ≡ []
    → (let o : Outcome = record { own = own; woken = map woken_pair wakes } in o ≡ reply_alone reply)
same-outcome own wakes reply h g =
    ap (λ (x : Option Reply). (let o : Outcome = record { own = x; woken = map woken_pair wakes } in o)) h
    ∙ ap (λ (ws : List Wake). (let o : Outcome = record { own = Some reply; woken = map woken_pair ws } in o)) g

leads-by : (k : Kernel) (pid : ℕ) (call : Call) (e : Effect) (p : plain_effects.Effect) → Alike e p
    → LeadsAlike (successor (finish_call e.kernel pid call e.own) (outcome_of_effect e))
    (plain.successor (plain.finish_call p.kernel pid (plain_kernels.living_at p.kernel pid)) (reply_alone p.reply))
leads-by k pid call e p h =
    let Goal : Option Reply → plain_kernels.Kernel → Type 0 =
    λ own q.
    Finished (finish_call e.kernel pid call own) (plain.finish_call q pid (plain_kernels.living_at q pid))
    in let over : Finished (finish_call e.kernel pid call (Some p.reply))
    (plain.finish_call (plain_kernel e.kernel) pid (plain_kernels.living_at (plain_kernel e.kernel) pid)) =
    finish-alike e.kernel h.quiet pid call p.reply
    in let finished : Finished (finish_call e.kernel pid call e.own)
    (plain.finish_call p.kernel pid (plain_kernels.living_at p.kernel pid)) =
    subst (λ own. Goal own p.kernel) (sym h.own) (subst (Goal (Some p.reply)) h.kernel over)
    in record {
      kernel = finished.kernel;
      outcome = same-outcome e.own e.wakes p.reply h.own h.wakes;
      quiet = finished.quiet;
    }

lead-by : (k : Kernel) (pid : ℕ) (call : Call) (o : Option Effect) (p : Option plain_effects.Effect) → BothAlike o p
    → LeadAlike (outcome_of pid call o) (plain.outcome_of pid p)
lead-by k pid call None None h = tt
lead-by k pid call (Some e) (Some p) h = leads-by k pid call e p h
lead-by k pid call None (Some p) h = absurd h
lead-by k pid call (Some e) None h = absurd h

lead-if : (b : Bool) (x : Option Successor) (y : Option plain.Successor) → LeadAlike x y
    → LeadAlike (if b then x else None) (if b then y else None)
lead-if true x y h = h
lead-if false x y h = tt

may-alike : (a : Alive) (call : Call) → a.marks.parked ≡ None → may_make a call ≡ plain.may_make (plain_alive a) call
may-alike a call h = ap (λ (o : Option Call). not (is_some o) && plain.may_make (plain_alive a) call) h

lead-made : (k : Kernel) → NobodyWaits k → (pid : ℕ) (call : Call) (n : ℕ) → is_waiting call ≡ false
    → (a : Alive) → a.marks.parked ≡ None
    → LeadAlike (step_by k pid call n a None) (plain.transition_by (plain_kernel k) pid call n (Some (plain_alive a)))
lead-made k quiet pid call n h a g =
    subst
    (λ (b : Bool).
    LeadAlike (if b then outcome_of pid call (effect k (waiter pid call) a n) else None)
    (plain.transition_by (plain_kernel k) pid call n (Some (plain_alive a))))
    (sym (may-alike a call g))
    (lead-if (plain.may_make (plain_alive a) call) _ _
    (lead-by k pid call (effect k (waiter pid call) a n) (plain.effect (plain_kernel k) pid (plain_alive a) call n)
    (effects-alike k quiet pid a g call n h)))

-- nobody withdraws who doesn't wait
withdraws-not : (struck : Bool) (pid : ℕ) (name : Name) (o : Option Call) → o ≡ None
    → (struck && is_parked_at pid name o) ≡ false
withdraws-not true pid name None h = refl
withdraws-not false pid name None h = refl
withdraws-not struck pid name (Some call) h = absurd (cc)

lead-nowhere : (b c : Bool) (s : Successor) → b ≡ false
    → LeadAlike (if b then Some s else None) (if c then None else None)
lead-nowhere true c s h = absurd (true≢false h)
lead-nowhere false true s h = tt
lead-nowhere false false s h = tt

lead-living : (k : Kernel) → NobodyWaits k → (pid : ℕ) (call : Call) (n : ℕ) → may_park call ≡ false
    → (o : Option Alive) → IsUnparkedAlive o
    → LeadAlike (transition_by k pid call n o)
    (plain.transition_by (plain_kernel k) pid call n (option_map plain_alive o))
lead-living k quiet pid call n h None g = tt
lead-living k quiet pid (calls.Withdraw name) n h (Some a) g =
    lead-nowhere (may_withdraw pid a name) (plain.may_make (plain_alive a) (calls.Withdraw name)) (withdraw k pid name)
    (withdraws-not a.marks.struck pid name a.marks.parked g)
lead-living k quiet pid call n h (Some a) g = lead-made k quiet pid call n h a g

-- who calls lives and is free to act in both kernels or in none
pub calls-as-before : CallsAreAsBefore
calls-as-before k pid call n quiet h =
    subst
    (λ (o : Option plain_rows.Alive).
    LeadAlike (transition k pid call n) (plain.transition_by (plain_kernel k) pid call n o))
    (sym (living-each k pid))
    (lead-living k quiet pid call n h (living_at k pid) (unparked-living k quiet pid))
