-- Calls that are on no queue and no set, and end nobody, do in both kernels the same.
use Rattle.std.proofs.Common.{◌≡◌, ◌≢◌, ◌∙◌, ℕ, Bool, true, false, not, ◌&&◌, ◌||◌, nat_eq, [], Option, Some, None, Result, Ok, Err, is_some, refl, ap, sym, subst, inl, inr}
use Rattle.std.specs.Prelude.{if◌then◌else◌, nat_le, length}
use Rattle.std.specs.Option.{option_and_then, option_map, option_map_or}
use Rattle.std.proofs.lemmas.Bool.{cases_eq, false≢true, true≢false}
use Rattle.pico_base.specs.declared.call.Call.{Call}
use Rattle.pico_base.specs.declared.call.Call.TheVariants as calls
use Rattle.pico_base.specs.declared.call.Home.{Home}
use Rattle.pico_base.specs.declared.call.Home.TheVariants as homes
use Rattle.pico_base.specs.Home.{home_of}
use Rattle.pico_base.specs.declared.numbers.Name.TheVariants.{Proc}
use Rattle.pico_base.specs.declared.reply.Errno.{Errno}
use Rattle.pico_base.specs.declared.reply.Errno.TheVariants.{Echild, Einval, Eexist, Enoent, Esrch}
use Rattle.pico_base.specs.declared.reply.Reply.{Reply}
use Rattle.pico_base.specs.declared.reply.Reply.TheVariants as replies
use Rattle.pico_base.specs.declared.signal.Act.{Act}
use Rattle.pico_base.specs.declared.signal.Sig.{Sig}
use Rattle.pico_base.specs.declared.signal.SigArg.{SigArg}
use Rattle.pico_base.specs.declared.signal.SigArg.TheVariants.{Zero, Is, Bad}
use Rattle.pico_base.specs.Signal.{at}
use Rattle.number_maps.specs.Maps.{Numbered, get, is_used, put, used_with}
use Rattle.number_maps.proofs.Order.{same-from-nat_eq}
use Rattle.number_maps.proofs.LookUps.{get-put-same, get-put-other}
use Rattle.kernel_model.specs.Effect as plain_effects
use Rattle.kernel_model.specs.Effect.{is_fresh}
use Rattle.kernel_model.specs.Kernel as plain
use Rattle.kernel_model.specs.ProcessCalls as plain_calls
use Rattle.kernel_model.specs.Queue.{Queue, empty_queue}
use Rattle.kernel_model.specs.QueueCalls as plain_queues
use Rattle.kernel_model.specs.Row.{Row, Allowance, Waited, Found, NotYet, NoChild, allowance_after_raise, wait}
use Rattle.kernel_model.specs.Row as plain_rows
use Rattle.kernel_model.specs.SemaphoreSet.{SemaphoreSet, new_set}
use Rattle.kernel_model.specs.SetCalls as plain_sets
use Rattle.kernel_model.specs.Signals.{Signals, act_on, is_kill, raise, with_action, with_mask}
use Rattle.kernel_model.specs.Transition as plain_steps
use Rattle.kernel_laws.proofs.Plain.{from_ok, not_ok}
use Rattle.kernel_laws.proofs.SignalLaws.{Stays, mask-stays, raise-stays}
use Rattle.waiting_model.specs.Linear.{at_once}
use Rattle.waiting_model.specs.Marks.{Alive, raise_by_other, with_signals_of}
use Rattle.waiting_model.specs.Kernel.{Kernel, Process, Living, Ended, Gone, alive_in, with_alive}
use Rattle.waiting_model.specs.Waiters.{Awaited, unawaited, waiter}
use Rattle.waiting_model.specs.Effect.{Effect, replying, reply_with}
use Rattle.waiting_model.specs.ProcessCalls.{action_effect, fork_effect, kill, kill_at, new_child, parent_after_fork, parent_after_wait, processes_after_wait, reap_child, signal_living, with_signals}
use Rattle.waiting_model.specs.QueueCalls.{get_queue, get_queue_at, new_queue}
use Rattle.waiting_model.specs.SetCalls.{find_set, get_set, get_set_at, new_set_of, set_size}
use Rattle.waiting_model.specs.Transition.{effect}
use Rattle.waiting_laws.specs.InLine.{AlikeAt}
use Rattle.waiting_laws.proofs.Entries.{unused}
use Rattle.waiting_laws.proofs.Fair.{IsFair, OthersFair, fair-own, fair-other, fair-over, fair-raised}
use Rattle.waiting_laws.proofs.Marked.{waiters_of}
use Rattle.waiting_laws.proofs.Maps.{get-each, put-each}
use Rattle.waiting_laws.proofs.Rows.{RowsAlike, in_form, rows-put}

-- who waits at queues and sets is as before; at a new one is nobody
pub record KeepsWaiters (k next : Kernel) : Type 0 where
  pub queues : (id : ℕ) → waiters_of (get next.queues id) ≡ waiters_of (get k.queues id)
  pub sets : (id : ℕ) → waiters_of (get next.sets id) ≡ waiters_of (get k.sets id)

-- The same effect in both: the kernel in which nobody waits has the whole one's form afterwards too.
pub record SameInForm (k : Kernel) (caller : ℕ) (e : Effect) (p : plain_effects.Effect) : Type 0 where
  pub rows : Numbered plain.Process
  pub kernel : in_form e.kernel rows ≡ p.kernel
  pub alike : RowsAlike e.kernel.processes rows
  pub own : e.own ≡ Some p.reply
  pub wakes : e.wakes ≡ []
  pub fair : OthersFair caller e.kernel.processes
  pub keeps : KeepsWaiters k e.kernel

-- both have one, or none
abbrev pub BothInForm : Kernel → ℕ → Option Effect → Option plain_effects.Effect → Type 0
BothInForm k caller None None = Unit {0}
BothInForm k caller (Some e) (Some p) = SameInForm k caller e p
BothInForm k caller e p = ⊥

-- What is asked of both: they are alike process by process, nobody but the caller is doomed and yet free, and nothing
-- has a number that isn't used.
pub record Stands (k : Kernel) (qs : Numbered plain.Process) (caller : ℕ) : Type 0 where
  pub alike : RowsAlike k.processes qs
  pub fair : OthersFair caller k.processes
  pub queues : (n : ℕ) → is_used k.used_queues n ≡ false → get k.queues n ≡ None
  pub sets : (n : ℕ) → is_used k.used_sets n ≡ false → get k.sets n ≡ None

-- a call on no queue and no set, and no end
abbrev pub is_of_process : Home → Bool
is_of_process homes.Own = true
is_of_process homes.Keys = true
is_of_process (homes.At (Proc pid)) = true
is_of_process home = false

-- a `waitpid` that finds only living children has to wait
abbrev pub is_not_yet : Waited → Bool
is_not_yet NotYet = true
is_not_yet w = false

-- the caller is to wait for a child, and none has ended yet
abbrev pub waits_for_child : Alive → Call → Bool
waits_for_child a (calls.WaitPid child false) = is_not_yet (wait a.row.family child)
waits_for_child a call = false

-- the row is as it is in the whole kernel
abbrev pub with_row : Row → Allowance → plain_rows.Alive
with_row row allowance = record { row = row; allowance = allowance }

-- whoever isn't doomed may do the same in both kernels
abbrev pub SameAllowance : Alive → Allowance → Type 0
SameAllowance a allowance = a.row.signals.doom ≡ None → a.marks.allowance ≡ allowance

-- nobody waits at a new one, as where there was none
new-at : {T : Type 0} (m : Numbered (Awaited T)) (n : ℕ) (state : T) → get m n ≡ None → (id : ℕ)
    → waiters_of (get (put m n (unawaited state)) id) ≡ waiters_of (get m id)
new-at m n state none id =
    elim (cases_eq id n) [
      | inl same ↦
          subst (λ (i : ℕ). waiters_of (get (put m n (unawaited state)) i) ≡ waiters_of (get m i)) (sym same)
          (ap waiters_of (get-put-same m n (unawaited state)) ∙ sym (ap waiters_of none))
      | inr ne ↦ ap waiters_of (get-put-other m n (unawaited state) id ne)
    ]

-- a signal that another raises leaves the same allowance to who isn't doomed by it
pub raised-allowance : (s : Signals) (g : Sig) (x y : Allowance) → (s.doom ≡ None → x ≡ y) → (raise s g).doom ≡ None
    → allowance_after_raise (is_some s.doom) (is_some (raise s g).doom) x
    ≡ allowance_after_raise (is_some s.doom) (is_some (raise s g).doom) y
raised-allowance s g x y same none =
    ap (allowance_after_raise (is_some s.doom) (is_some (raise s g).doom)) (same (raise-stays s g none))

module _ (k : Kernel) (qs : Numbered plain.Process) (pid : ℕ) (st : Stands k qs pid) where
  abbrev Both : Option Effect → Option plain_effects.Effect → Type 0
  Both e p = BothInForm k pid e p

  abbrev Same : Effect → plain_effects.Effect → Type 0
  Same e p = SameInForm k pid e p

  same-test : (b : Bool) (e : Effect) (p : plain_effects.Effect) → (b ≡ true → Same e p)
      → Both (if b then Some e else None) (if b then Some p else None)
  same-test true e p h = h refl
  same-test false e p h = tt

  same-choice : (b : Bool) (e f : Effect) (p q : plain_effects.Effect) → Same e p → Same f q
      → Same (if b then e else f) (if b then p else q)
  same-choice true e f p q h g = h
  same-choice false e f p q h g = g

  both-choice : (b : Bool) (e f : Option Effect) (p q : Option plain_effects.Effect) → Both e p → Both f q
      → Both (if b then e else f) (if b then p else q)
  both-choice true e f p q h g = h
  both-choice false e f p q h g = g

  abbrev answer : Numbered plain.Process → Reply → plain_effects.Effect
  answer rs reply = record { kernel = in_form k rs; reply = reply }

  -- a reply beside other processes
  same-processes : (ps : Numbered Process) (rs : Numbered plain.Process) → RowsAlike ps rs → OthersFair pid ps
      → (reply : Reply) → Same (replying (let j : Kernel = record k { processes = ps } in j) reply) (answer rs reply)
  same-processes ps rs h g reply =
      record {
        rows = rs;
        kernel = refl;
        alike = h;
        own = refl;
        wakes = refl;
        fair = g;
        keeps = record { queues = λ id. refl; sets = λ id. refl };
      }

  -- a reply that leaves the kernel
  same-reply : (reply : Reply) → Same (replying k reply) (answer qs reply)
  same-reply reply = same-processes k.processes qs st.alike st.fair reply

  -- ---- kill

  struck : (target : ℕ) (t : Alive) (al : Allowance) → SameAllowance t al → (target ≢ pid → IsFair t) → (sig : SigArg)
      → Same (signal_living k pid target t sig)
      (plain_calls.signal_living (in_form k qs) pid target (with_row t.row al) sig)
  struck target t al same fair_t Zero = same-reply (replies.Num 0)
  struck target t al same fair_t Bad = same-reply (replies.Fail Einval)
  struck target t al same fair_t (Is g) = by_test (nat_eq pid target) refl
    where
      by_test : (b : Bool) → nat_eq pid target ≡ b
          → Same
          (reply_with
          (if b then with_signals k target t (raise t.row.signals g) else with_alive k target (raise_by_other t g)) 0)
          (plain_effects.reply_with
          (if b then plain_calls.with_signals (in_form k qs) target (with_row t.row al) (raise t.row.signals g)
          else plain.with_alive (in_form k qs) target (plain_rows.raise_by_other (with_row t.row al) g)) 0)
      by_test true own =
          same-processes (put k.processes target (Living (with_signals_of t (raise t.row.signals g)))) _
          (rows-put k.processes qs st.alike target (Living (with_signals_of t (raise t.row.signals g)))
          (plain.Living (with_row (record { signals = raise t.row.signals g; family = t.row.family }) al))
          (refl, λ none. same (raise-stays t.row.signals g none)))
          (fair-other pid k.processes target (with_signals_of t (raise t.row.signals g)) st.fair
          (λ ne. absurd (ne (sym (same-from-nat_eq pid target own)))))
          (replies.Num 0)
      by_test false other =
          same-processes (put k.processes target (Living (raise_by_other t g))) _
          (rows-put k.processes qs st.alike target (Living (raise_by_other t g))
          (plain.Living (plain_rows.raise_by_other (with_row t.row al) g))
          (refl, λ none. raised-allowance t.row.signals g t.marks.allowance al same none))
          (fair-other pid k.processes target (raise_by_other t g) st.fair (λ ne. fair-raised t g (fair_t ne)))
          (replies.Num 0)

  killed-at : (target : ℕ) (sig : SigArg) (o : Option Process) → get k.processes target ≡ o
      → (p : Option plain.Process) → AlikeAt o p
      → Same (kill_at k pid target sig o) (plain_calls.kill_at (in_form k qs) pid target sig p)
  killed-at target sig None there None h = same-reply (replies.Fail Esrch)
  killed-at target sig None there (Some p) h = absurd h
  killed-at target sig (Some x) there None h = absurd h
  killed-at target sig (Some Gone) there (Some plain.Gone) h = same-reply (replies.Fail Esrch)
  killed-at target sig (Some Gone) there (Some (plain.Ended ending)) h = absurd h
  killed-at target sig (Some Gone) there (Some (plain.Living u)) h = absurd h
  killed-at target sig (Some (Ended ending)) there (Some plain.Gone) h = absurd h
  killed-at target sig (Some (Ended ending)) there (Some (plain.Ended other)) h = same-reply (replies.Num 0)
  killed-at target sig (Some (Ended ending)) there (Some (plain.Living u)) h = absurd h
  killed-at target sig (Some (Living t)) there (Some plain.Gone) h = absurd h
  killed-at target sig (Some (Living t)) there (Some (plain.Ended ending)) h = absurd h
  killed-at target sig (Some (Living t)) there (Some (plain.Living u)) h =
      subst
      (λ (row : Row).
      Same (signal_living k pid target t sig)
      (plain_calls.signal_living (in_form k qs) pid target (with_row row u.allowance) sig))
      h.0
      (struck target t u.allowance h.1 (λ ne. st.fair target ne t (ap (option_and_then alive_in) there)) sig)

  killed : (target : ℕ) (sig : SigArg) → Same (kill k pid target sig) (plain_calls.kill (in_form k qs) pid target sig)
  killed target Bad = same-reply (replies.Fail Einval)
  killed target Zero = killed-at target Zero (get k.processes target) refl (get qs target) (st.alike target)
  killed target (Is g) = killed-at target (Is g) (get k.processes target) refl (get qs target) (st.alike target)

  -- ---- msgget

  queue-made : (keys : Numbered ℕ) (n : ℕ)
      → Both (new_queue k keys n) (plain_queues.new_queue (in_form k qs) keys n)
  queue-made keys n =
      same-test (is_fresh k.used_queues n) _ _
      (λ fresh.
      record {
        rows = qs;
        kernel =
            ap
            (λ (m : Numbered Queue).
            record (in_form k qs) { queues = m; queue_keys = keys; used_queues = used_with k.used_queues n })
            (sym (put-each (λ q. q.state) k.queues n (unawaited empty_queue)));
        alike = st.alike;
        own = refl;
        wakes = refl;
        fair = st.fair;
        keeps = record {
          queues = new-at k.queues n empty_queue (st.queues n (unused k.used_queues n fresh));
          sets = λ id. refl;
        };
      })

  queue-found : (key : ℕ) (create excl : Bool) (n : ℕ) (o : Option ℕ)
      → Both (get_queue_at k key create excl n o) (plain_queues.get_queue_at (in_form k qs) key create excl n o)
  queue-found key create excl n (Some id) =
      same-choice (create && excl) _ _ _ _ (same-reply (replies.Fail Eexist)) (same-reply (replies.Num id))
  queue-found key create excl n None =
      both-choice create _ _ _ _ (queue-made (put k.queue_keys key n) n) (same-reply (replies.Fail Enoent))

  queue-got : (key : Option ℕ) (create excl : Bool) (n : ℕ)
      → Both (get_queue k key create excl n) (plain_queues.get_queue (in_form k qs) key create excl n)
  queue-got None create excl n = queue-made k.queue_keys n
  queue-got (Some key) create excl n = queue-found key create excl n (get k.queue_keys key)

  -- ---- semget

  set-made : (keys : Numbered ℕ) (n : ℕ) (r : Result SemaphoreSet Errno)
      → Both (new_set_of k keys n r) (plain_sets.new_set_of (in_form k qs) keys n r)
  set-made keys n (Err e) = same-reply (replies.Fail e)
  set-made keys n (Ok s) =
      same-test (is_fresh k.used_sets n) _ _
      (λ fresh.
      record {
        rows = qs;
        kernel =
            ap
            (λ (m : Numbered SemaphoreSet).
            record (in_form k qs) { sets = m; set_keys = keys; used_sets = used_with k.used_sets n })
            (sym (put-each (λ w. w.state) k.sets n (unawaited s)));
        alike = st.alike;
        own = refl;
        wakes = refl;
        fair = st.fair;
        keeps = record {
          queues = λ id. refl;
          sets = new-at k.sets n s (st.sets n (unused k.used_sets n fresh));
        };
      })

  size-of : (o : Option (Awaited SemaphoreSet))
      → option_map_or (λ (s : SemaphoreSet). length s.semaphores) (option_map (λ w. w.state) o) 0
      ≡ option_map_or (λ (w : Awaited SemaphoreSet). length w.state.semaphores) o 0
  size-of None = refl
  size-of (Some w) = refl

  same-size : (id : ℕ) → plain_sets.set_size (in_form k qs) id ≡ set_size k id
  same-size id =
      ap (λ (o : Option SemaphoreSet). option_map_or (λ (s : SemaphoreSet). length s.semaphores) o 0)
      (get-each (λ w. w.state) k.sets id)
      ∙ size-of (get k.sets id)

  set-here : (id count : ℕ) → Same (find_set k id count) (plain_sets.find_set (in_form k qs) id count)
  set-here id count =
      subst
      (λ (size : ℕ).
      Same (find_set k id count)
      (if nat_eq count 0 || nat_le count size then plain_effects.reply_with (in_form k qs) id
      else plain_effects.refuse (in_form k qs) Einval))
      (sym (same-size id))
      (same-choice (nat_eq count 0 || nat_le count (set_size k id)) _ _ _ _ (same-reply (replies.Num id))
      (same-reply (replies.Fail Einval)))

  set-found : (key count : ℕ) (create excl : Bool) (n : ℕ) (o : Option ℕ)
      → Both (get_set_at k key count create excl n o)
      (plain_sets.get_set_at (in_form k qs) key count create excl n o)
  set-found key count create excl n (Some id) =
      same-choice (create && excl) _ _ _ _ (same-reply (replies.Fail Eexist)) (set-here id count)
  set-found key count create excl n None =
      both-choice create _ _ _ _ (set-made (put k.set_keys key n) n (new_set count))
      (same-reply (replies.Fail Enoent))

  set-got : (key : Option ℕ) (count : ℕ) (create excl : Bool) (n : ℕ)
      → Both (get_set k key count create excl n) (plain_sets.get_set (in_form k qs) key count create excl n)
  set-got None count create excl n = set-made k.set_keys n (new_set count)
  set-got (Some key) count create excl n = set-found key count create excl n (get k.set_keys key)

act-stays : (s : Signals) (sig : SigArg) (act : Act) (next : Signals) → act_on s sig act ≡ Ok next → Stays s next
act-stays s Zero act next is = not_ok Einval next is
act-stays s Bad act next is = not_ok Einval next is
act-stays s (Is g) act next is = by_test (is_kill g) is
  where
    by_test : (b : Bool)
        → (let r : Result Signals Errno = (if b then Err Einval else Ok (with_action s g act)) in r ≡ Ok next)
        → Stays s next
    by_test true is = not_ok Einval next is
    by_test false is = subst (Stays s) (from_ok (with_action s g act) next is) (λ none. none)

-- The caller lives, with this row in both.
module _ (k : Kernel) (qs : Numbered plain.Process) (pid : ℕ) (st : Stands k qs pid) (a : Alive) (al : Allowance)
    (same : SameAllowance a al) where
  abbrev its : plain_rows.Alive
  its = with_row a.row al

  forked : (n : ℕ) → BothInForm k pid (fork_effect k pid a n) (plain_calls.fork_effect (in_form k qs) pid its n)
  forked n =
      same-test k qs pid st (is_fresh k.used_processes n) _ _
      (λ fresh.
      record {
        rows = plain_calls.processes_after_fork qs pid its n;
        kernel = refl;
        alike =
            rows-put (put k.processes n (Living (new_child a))) (put qs n (plain.Living (plain_calls.new_child its)))
            (rows-put k.processes qs st.alike n (Living (new_child a)) (plain.Living (plain_calls.new_child its))
            (refl, λ none. refl))
            pid (Living (parent_after_fork a n)) (plain.Living (plain_calls.parent_after_fork its n)) (refl, same);
        own = refl;
        wakes = refl;
        fair =
            fair-own pid (put k.processes n (Living (new_child a))) (Living (parent_after_fork a n))
            (fair-other pid k.processes n (new_child a) st.fair (λ ne free. refl));
        keeps = record { queues = λ id. refl; sets = λ id. refl };
      })

  resigned : (s : Signals) → Stays a.row.signals s → (reply : Reply)
      → SameInForm k pid (replying (with_signals k pid a s) reply)
      (let p : plain_effects.Effect =
      record { kernel = plain_calls.with_signals (in_form k qs) pid its s; reply = reply }
      in p)
  resigned s stays reply =
      same-processes k qs pid st (put k.processes pid (Living (with_signals_of a s))) _
      (rows-put k.processes qs st.alike pid (Living (with_signals_of a s))
      (plain.Living (with_row (record { signals = s; family = a.row.family }) al)) (refl, λ none. same (stays none)))
      (fair-own pid k.processes (Living (with_signals_of a s)) st.fair) reply

  acted : (r : Result Signals Errno) → ((s : Signals) → r ≡ Ok s → Stays a.row.signals s)
      → SameInForm k pid (action_effect k pid a r) (plain_calls.action_effect (in_form k qs) pid its r)
  acted (Ok s) stays = resigned s (stays s refl) (replies.Num 0)
  acted (Err e) stays = same-reply k qs pid st (replies.Fail e)

  reaped : (nohang : Bool) (w : Waited) → (not nohang && is_not_yet w) ≡ false
      → SameInForm k pid (reap_child k pid a nohang w) (plain_calls.reap_child (in_form k qs) pid its w)
  reaped nohang (Found child ending) h =
      same-processes k qs pid st (processes_after_wait k.processes pid a child) _
      (rows-put (put k.processes pid (Living (parent_after_wait a child)))
      (put qs pid (plain.Living (plain_calls.parent_after_wait its child)))
      (rows-put k.processes qs st.alike pid (Living (parent_after_wait a child))
      (plain.Living (plain_calls.parent_after_wait its child)) (refl, same))
      child Gone plain.Gone tt)
      (fair-over pid (put k.processes pid (Living (parent_after_wait a child))) child Gone
      (fair-own pid k.processes (Living (parent_after_wait a child)) st.fair) refl)
      (replies.Child child ending)
  reaped true NotYet h = same-reply k qs pid st (replies.Num 0)
  reaped false NotYet h = absurd (true≢false h)
  reaped nohang NoChild h = same-reply k qs pid st (replies.Fail Echild)

  -- each such call
  pub own-effects : (call : Call) (n : ℕ) → is_of_process (home_of pid call) ≡ true → waits_for_child a call ≡ false
      → BothInForm k pid (effect k (waiter pid call) a n) (plain_steps.effect (in_form k qs) pid its (at_once call) n)
  own-effects (calls.Fork block) n home found = forked n
  own-effects (calls.Exit status) n home found = absurd (false≢true home)
  own-effects (calls.Killed sig) n home found = absurd (false≢true home)
  own-effects calls.GetPid n home found = same-reply k qs pid st (replies.Num pid)
  own-effects (calls.Kill target sig) n home found = killed k qs pid st target sig
  own-effects (calls.SigAction sig act) n home found =
      acted (act_on a.row.signals sig act) (λ s is. act-stays a.row.signals sig act s is)
  own-effects (calls.SigProcMask how set) n home found =
      resigned (with_mask a.row.signals how set) (mask-stays a.row.signals how set)
      (replies.Bits a.row.signals.mask)
  own-effects calls.SigPending n home found = same-reply k qs pid st (replies.Bits a.row.signals.pending)
  own-effects (calls.Handled sig) n home found =
      same-reply k qs pid st (replies.Num (at a.row.signals.handled sig))
  own-effects (calls.WaitPid child true) n home found = reaped true (wait a.row.family child) refl
  own-effects (calls.WaitPid child false) n home found = reaped false (wait a.row.family child) found
  own-effects (calls.MsgGet key create excl) n home found = queue-got k qs pid st key create excl n
  own-effects (calls.MsgSnd id class text nowait) n home found = absurd (false≢true home)
  own-effects (calls.MsgRcv id class size noerror nowait) n home found = absurd (false≢true home)
  own-effects (calls.MsgStat id) n home found = absurd (false≢true home)
  own-effects (calls.MsgSet id qbytes) n home found = absurd (false≢true home)
  own-effects (calls.MsgRmid id) n home found = absurd (false≢true home)
  own-effects (calls.SemGet key count create excl) n home found = set-got k qs pid st key count create excl n
  own-effects (calls.SemOp id steps) n home found = absurd (false≢true home)
  own-effects (calls.SemGetVal id num) n home found = absurd (false≢true home)
  own-effects (calls.SemGetPid id num) n home found = absurd (false≢true home)
  own-effects (calls.SemGetNcnt id num) n home found = absurd (false≢true home)
  own-effects (calls.SemGetZcnt id num) n home found = absurd (false≢true home)
  own-effects (calls.SemSetVal id num value) n home found = absurd (false≢true home)
  own-effects (calls.SemGetAll id) n home found = absurd (false≢true home)
  own-effects (calls.SemSetAll id values) n home found = absurd (false≢true home)
  own-effects (calls.SemRmid id) n home found = absurd (false≢true home)
  own-effects (calls.Withdraw name) n home found = tt
