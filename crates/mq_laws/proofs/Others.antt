-- The calls that aren't on queues do the same in the kernel without its queues.
use Rattle.std.proofs.Common.{◌≡◌, ◌∙◌, ℕ, Bool, true, false, not, nat_eq, List, [], Option, Some, None, Result, Ok, Err, is_some, refl, ap, sym, subst}
use Rattle.std.specs.Prelude.{if◌then◌else◌, ◌&&◌}
use Rattle.std.specs.List.{filter}
use Rattle.std.proofs.lemmas.Bool.{true≢false}
use Rattle.pico_base.specs.declared.call.Call.{Call}
use Rattle.pico_base.specs.declared.call.Call.TheVariants as calls
use Rattle.pico_base.specs.declared.numbers.Name.{Name}
use Rattle.pico_base.specs.declared.numbers.Name.TheVariants.{Proc, Msg, Sem}
use Rattle.pico_base.specs.declared.reply.Errno.{Errno}
use Rattle.pico_base.specs.declared.reply.Errno.TheVariants.{Eintr}
use Rattle.pico_base.specs.declared.reply.Reply.TheVariants.{Fail}
use Rattle.pico_base.specs.declared.reply.Reply.{Reply}
use Rattle.pico_base.specs.declared.signal.SigArg.{SigArg}
use Rattle.pico_base.specs.declared.signal.SigArg.TheVariants.{Zero, Is, Bad}
use Rattle.number_maps.specs.Maps.{Numbered, get, put}
use Rattle.number_maps.specs.Rising.{IsRising}
use Rattle.kernel_model.specs.Effect.{is_fresh, reply_alone}
use Rattle.kernel_model.specs.Queue.{Queue}
use Rattle.kernel_model.specs.Row.{Waited, Found, NotYet, NoChild, wait}
use Rattle.kernel_model.specs.SemaphoreSet.{SemaphoreSet, new_set}
use Rattle.kernel_model.specs.Signals.{Signals, act_on}
use Rattle.waiting_model.specs.declared.callers.Waiting.{Waiting}
use Rattle.waiting_model.specs.Waiters.{Awaited, waiter, without_waiter}
use Rattle.waiting_model.specs.Calls.{withdrawn_from}
use Rattle.waiting_model.specs.Marks.{Alive, after_reply, spent}
use Rattle.waiting_model.specs.Kernel.{Kernel, Process, Living, Ended, Gone, living_at, with_alive, change_living}
use Rattle.waiting_model.specs.Plain.{AllValues}
use Rattle.waiting_model.specs.Effect.{Effect, on_named, refuse, reply_with, outcome_of_effect}
use Rattle.waiting_model.specs.ProcessCalls.{reap_child, action_effect, signal_living, kill_at, kill}
use Rattle.waiting_model.specs.SetCalls.{new_set_of, get_set, get_set_at, on_set, remove_set}
use Rattle.waiting_model.specs.Transition.{Successor, successor, effect, may_make, may_withdraw, allowance_after, marks_after, finish_call, outcome_of, queue_without, set_without, unparked, withdraw, step_by, transition_by, transition}
use Rattle.waiting_laws.proofs.Maps.{put-same, all-get}
use Rattle.mq_model.specs.Calls.{Other}
use Rattle.mq_model.specs.SystemV.{shown_outcome}
use Rattle.mq_model.specs.Transition.{is_on_queues, after_other, mq_transition}
use Rattle.mq_laws.specs.Alike.{StandsForQueue, shown_kernel}
use Rattle.mq_laws.proofs.Leads.{LeadShown}

-- the kernel without its queues, and a kernel with the queues of another
abbrev pub bare : Kernel → Kernel
bare k = record k { queue_keys = []; queues = []; used_queues = [] }

abbrev pub with_queues_of : Kernel → Kernel → Kernel
with_queues_of k r = record r { queue_keys = k.queue_keys; queues = k.queues; used_queues = k.used_queues }

abbrev pub effect_with : Kernel → Effect → Effect
effect_with k e = record e { kernel = with_queues_of k e.kernel }

abbrev pub effects_with : Kernel → Option Effect → Option Effect
effects_with k None = None
effects_with k (Some e) = Some (effect_with k e)

abbrev pub successor_with : Kernel → Option Successor → Option Successor
successor_with k None = None
successor_with k (Some s) = Some (record s { kernel = with_queues_of k s.kernel })

module _ (k : Kernel) where
  -- ---- effects

  if-made : (b : Bool) (e : Effect)
      → (if b then Some (effect_with k e) else None) ≡ effects_with k (if b then Some e else None)
  if-made true e = refl
  if-made false e = refl

  action-with : (pid : ℕ) (a : Alive) (r : Result Signals Errno)
      → action_effect k pid a r ≡ effect_with k (action_effect (bare k) pid a r)
  action-with pid a (Ok s) = refl
  action-with pid a (Err e) = refl

  reap-with : (pid : ℕ) (a : Alive) (nohang : Bool) (w : Waited)
      → reap_child k pid a nohang w ≡ effect_with k (reap_child (bare k) pid a nohang w)
  reap-with pid a nohang (Found child ending) = refl
  reap-with pid a true NotYet = refl
  reap-with pid a false NotYet = refl
  reap-with pid a nohang NoChild = refl

  strike-with : (b : Bool) (j l : Kernel)
      → reply_with (if b then with_queues_of k j else with_queues_of k l) 0
      ≡ effect_with k (reply_with (if b then j else l) 0)
  strike-with true j l = refl
  strike-with false j l = refl

  signal-with : (caller pid : ℕ) (target : Alive) (sig : SigArg)
      → signal_living k caller pid target sig ≡ effect_with k (signal_living (bare k) caller pid target sig)
  signal-with caller pid target Zero = refl
  signal-with caller pid target Bad = refl
  signal-with caller pid target (Is g) = strike-with (nat_eq caller pid) _ _

  kill-at-with : (caller pid : ℕ) (sig : SigArg) (o : Option Process)
      → kill_at k caller pid sig o ≡ effect_with k (kill_at (bare k) caller pid sig o)
  kill-at-with caller pid sig None = refl
  kill-at-with caller pid sig (Some Gone) = refl
  kill-at-with caller pid sig (Some (Ended ending)) = refl
  kill-at-with caller pid sig (Some (Living target)) = signal-with caller pid target sig

  kill-with : (caller pid : ℕ) (sig : SigArg)
      → kill k caller pid sig ≡ effect_with k (kill (bare k) caller pid sig)
  kill-with caller pid Bad = refl
  kill-with caller pid Zero = kill-at-with caller pid Zero (get k.processes pid)
  kill-with caller pid (Is g) = kill-at-with caller pid (Is g) (get k.processes pid)

  new-set-with : (keys : Numbered ℕ) (n : ℕ) (r : Result SemaphoreSet Errno)
      → new_set_of k keys n r ≡ effects_with k (new_set_of (bare k) keys n r)
  new-set-with keys n (Err e) = refl
  new-set-with keys n (Ok set) = if-made (is_fresh k.used_sets n) _

  if-refused : (b : Bool) (e : Errno) (f g : Effect) → f ≡ effect_with k g
      → Some (if b then refuse k e else f) ≡ effects_with k (Some (if b then refuse (bare k) e else g))
  if-refused true e f g h = refl
  if-refused false e f g h = ap Some h

  found-with : (b : Bool) (e : Errno) (id : ℕ)
      → (if b then reply_with k id else refuse k e)
      ≡ effect_with k (if b then reply_with (bare k) id else refuse (bare k) e)
  found-with true e id = refl
  found-with false e id = refl

  set-at-with : (key count : ℕ) (create excl : Bool) (n : ℕ) (o : Option ℕ)
      → get_set_at k key count create excl n o ≡ effects_with k (get_set_at (bare k) key count create excl n o)
  set-at-with key count create excl n (Some id) = if-refused (create && excl) _ _ _ (found-with _ _ id)
  set-at-with key count true excl n None = new-set-with (put k.set_keys key n) n (new_set count)
  set-at-with key count false excl n None = refl

  set-with : (key : Option ℕ) (count : ℕ) (create excl : Bool) (n : ℕ)
      → get_set k key count create excl n ≡ effects_with k (get_set (bare k) key count create excl n)
  set-with None count create excl n = new-set-with k.set_keys n (new_set count)
  set-with (Some key) count create excl n = set-at-with key count create excl n (get k.set_keys key)

  named-with : {V : Type 0} (o : Option V) (f g : V → Effect) → ((v : V) → f v ≡ effect_with k (g v))
      → Some (on_named k o f) ≡ effects_with k (Some (on_named (bare k) o g))
  named-with None f g h = refl
  named-with (Some v) f g h = ap Some (h v)

  on-set-with : (id pid : ℕ) (call : Call)
      → Some (on_set k id (waiter pid call)) ≡ effects_with k (Some (on_set (bare k) id (waiter pid call)))
  on-set-with id pid call = named-with (get k.sets id) _ _ (λ s. refl)

  effects-with : (pid : ℕ) (a : Alive) (call : Call) (n : ℕ) → is_on_queues call ≡ false
      → effect k (waiter pid call) a n ≡ effects_with k (effect (bare k) (waiter pid call) a n)
  effects-with pid a (calls.Fork block) n h = if-made (is_fresh k.used_processes n) _
  effects-with pid a (calls.Kill target sig) n h = ap Some (kill-with pid target sig)
  effects-with pid a (calls.SigAction sig act) n h = ap Some (action-with pid a (act_on a.row.signals sig act))
  effects-with pid a (calls.WaitPid child nohang) n h = ap Some (reap-with pid a nohang (wait a.row.family child))
  effects-with pid a (calls.MsgGet key create excl) n h = absurd (true≢false h)
  effects-with pid a (calls.MsgSnd id class text nowait) n h = absurd (true≢false h)
  effects-with pid a (calls.MsgRcv id class size noerror nowait) n h = absurd (true≢false h)
  effects-with pid a (calls.MsgStat id) n h = absurd (true≢false h)
  effects-with pid a (calls.MsgSet id qbytes) n h = absurd (true≢false h)
  effects-with pid a (calls.MsgRmid id) n h = absurd (true≢false h)
  effects-with pid a (calls.SemGet key count create excl) n h = set-with key count create excl n
  effects-with pid a (calls.SemOp id steps) n h = on-set-with id pid (calls.SemOp id steps)
  effects-with pid a (calls.SemGetVal id num) n h = on-set-with id pid (calls.SemGetVal id num)
  effects-with pid a (calls.SemGetPid id num) n h = on-set-with id pid (calls.SemGetPid id num)
  effects-with pid a (calls.SemGetNcnt id num) n h = on-set-with id pid (calls.SemGetNcnt id num)
  effects-with pid a (calls.SemGetZcnt id num) n h = on-set-with id pid (calls.SemGetZcnt id num)
  effects-with pid a (calls.SemSetVal id num value) n h = on-set-with id pid (calls.SemSetVal id num value)
  effects-with pid a (calls.SemGetAll id) n h = on-set-with id pid (calls.SemGetAll id)
  effects-with pid a (calls.SemSetAll id values) n h = on-set-with id pid (calls.SemSetAll id values)
  effects-with pid a (calls.SemRmid id) n h = named-with (get k.sets id) (remove_set k id) _ (λ s. refl)
  effects-with pid a call n h = refl

  -- ---- steps

  allowance-if : (r : Kernel) (pid : ℕ) (a : Alive) (b : Bool)
      → (if b then with_alive (with_queues_of k r) pid (spent a) else with_queues_of k r)
      ≡ with_queues_of k (if b then with_alive r pid (spent a) else r)
  allowance-if r pid a true = refl
  allowance-if r pid a false = refl

  allowance-with : (r : Kernel) (pid : ℕ) (o : Option Alive)
      → allowance_after (with_queues_of k r) pid o ≡ with_queues_of k (allowance_after r pid o)
  allowance-with r pid None = refl
  allowance-with r pid (Some a) = allowance-if r pid a (is_some a.row.signals.doom)

  finish-with : (r : Kernel) (pid : ℕ) (call : Call) (own : Option Reply)
      → finish_call (with_queues_of k r) pid call own ≡ with_queues_of k (finish_call r pid call own)
  finish-with r pid call own =
      ap (λ (j : Kernel). marks_after j pid call own) (allowance-with r pid (living_at r pid))

  outcomes-with : (pid : ℕ) (call : Call) (o : Option Effect)
      → outcome_of pid call (effects_with k o) ≡ successor_with k (outcome_of pid call o)
  outcomes-with pid call None = refl
  outcomes-with pid call (Some e) =
      ap (λ (j : Kernel). Some (successor j (outcome_of_effect e))) (finish-with e.kernel pid call e.own)

  carried-with : (pid : ℕ) (call : Call) (b : Bool) (o p : Option Effect) → o ≡ effects_with k p
      → (if b then outcome_of pid call o else None) ≡ successor_with k (if b then outcome_of pid call p else None)
  carried-with pid call true o p h = ap (outcome_of pid call) h ∙ outcomes-with pid call p
  carried-with pid call false o p h = refl

  -- ---- withdrawals, and any step, where nobody waits at a queue

  module _ (stand : AllValues StandsForQueue k.queues) (rising : IsRising k.queues) where
    set-left : (id pid : ℕ) (o : Option (Awaited SemaphoreSet))
        → set_without k id pid o ≡ with_queues_of k (set_without (bare k) id pid o)
    set-left id pid None = refl
    set-left id pid (Some s) = refl

    unchanged : (id pid : ℕ) (q : Awaited Queue) → StandsForQueue q → without_waiter pid q ≡ q
    unchanged id pid q stands =
        ap (λ (ws : List Waiting). record q { waiters = filter (λ w. not (nat_eq pid w.pid)) ws }) stands.waiters
        ∙ ap (λ (ws : List Waiting). record q { waiters = ws }) (sym stands.waiters)

    queue-left : (id pid : ℕ) (o : Option (Awaited Queue)) → get k.queues id ≡ o → queue_without k id pid o ≡ k
    queue-left id pid None there = refl
    queue-left id pid (Some q) there =
        ap (λ (x : Awaited Queue). record k { queues = put k.queues id x })
        (unchanged id pid q (all-get StandsForQueue k.queues id q stand there))
        ∙ ap (λ (qs : Numbered (Awaited Queue)). record k { queues = qs }) (put-same k.queues id q rising there)

    left-with : (pid : ℕ) (name : Name) → unparked k pid name ≡ with_queues_of k (unparked (bare k) pid name)
    left-with pid (Proc own) = refl
    left-with pid (Msg id) = queue-left id pid (get k.queues id) refl
    left-with pid (Sem id) = set-left id pid (get k.sets id)

    withdrawn-with : (pid : ℕ) (name : Name) (b : Bool)
        → (if b then Some (withdraw k pid name) else None)
        ≡ successor_with k (if b then Some (withdraw (bare k) pid name) else None)
    withdrawn-with pid name true =
        ap
        (λ (j : Kernel).
        Some
        (successor (record j { processes = change_living j.processes pid after_reply }) (reply_alone (Fail Eintr))))
        (left-with pid name)
    withdrawn-with pid name false = refl

    step-with : (pid : ℕ) (call : Call) (n : ℕ) (a : Alive) (w : Option Name) → is_on_queues call ≡ false
        → step_by k pid call n a w ≡ successor_with k (step_by (bare k) pid call n a w)
    step-with pid call n a None h =
        carried-with pid call (may_make a call) _ (effect (bare k) (waiter pid call) a n) (effects-with pid a call n h)
    step-with pid call n a (Some name) h = withdrawn-with pid name (may_withdraw pid a name)

    living-with : (pid : ℕ) (call : Call) (n : ℕ) (o : Option Alive) → is_on_queues call ≡ false
        → transition_by k pid call n o ≡ successor_with k (transition_by (bare k) pid call n o)
    living-with pid call n None h = refl
    living-with pid call n (Some a) h = step-with pid call n a (withdrawn_from call) h

    -- a call that isn't on queues does what it does without them
    pub transition-with : (pid : ℕ) (call : Call) (n : ℕ) → is_on_queues call ≡ false
        → transition k pid call n ≡ successor_with k (transition (bare k) pid call n)
    transition-with pid call n h = living-with pid call n (living_at k pid) h

    shown-with : (call : Call) (o : Option Successor)
        → LeadShown (λ s. shown_outcome (Other call) s.outcome) (successor_with k o) (after_other (shown_kernel k) o)
    shown-with call None = tt
    shown-with call (Some s) = record { outcome_is = refl; shown = refl; queues = stand }

    shown-if : (call : Call) (b : Bool) (o : Option Successor) → b ≡ false
        → LeadShown (λ s. shown_outcome (Other call) s.outcome) (successor_with k o)
        (if b then None else after_other (shown_kernel k) o)
    shown-if call true o h = absurd (true≢false h)
    shown-if call false o h = shown-with call o

    -- and leads to what the kernel of POSIX message queues does
    pub others-together : (pid : ℕ) (call : Call) (n : ℕ) → is_on_queues call ≡ false
        → LeadShown (λ s. shown_outcome (Other call) s.outcome) (transition k pid call n)
        (mq_transition (shown_kernel k) pid (Other call) n)
    others-together pid call n h =
        subst
        (λ (o : Option Successor).
        LeadShown (λ s. shown_outcome (Other call) s.outcome) o (mq_transition (shown_kernel k) pid (Other call) n))
        (sym (transition-with pid call n h))
        (shown-if call (is_on_queues call) (transition (bare k) pid call n) h)
