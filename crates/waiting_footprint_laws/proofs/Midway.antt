-- What each call comes to keeps processes, families, tables of keys and used numbers in order.
use Rattle.std.proofs.Common.{◌≡◌, ◌∙◌, ◌%◌, ◌&&◌, ℕ, Bool, true, false, nat_eq, List, [], fold, Option, Some, None, Result, Ok, Err, is_some, refl, ap, sym, subst}
use Rattle.std.specs.Prelude.{if◌then◌else◌}
use Rattle.std.specs.List.{list_any}
use Rattle.std.specs.Option.{option_and_then}
use Rattle.std.proofs.lemmas.Bool.{eqb-true}
use Rattle.pico_base.specs.declared.call.Call.{Call}
use Rattle.pico_base.specs.declared.call.Call.TheVariants as calls
use Rattle.pico_base.specs.declared.reply.Ending.{Ending}
use Rattle.pico_base.specs.declared.reply.Ending.TheVariants as endings
use Rattle.pico_base.specs.declared.reply.Errno.{Errno}
use Rattle.pico_base.specs.declared.reply.Errno.TheVariants.{Eexist, Einval}
use Rattle.pico_base.specs.declared.reply.Reply.{Reply}
use Rattle.pico_base.specs.declared.signal.Act.{Act}
use Rattle.pico_base.specs.declared.signal.Sig.{Sig}
use Rattle.pico_base.specs.declared.signal.SigArg.{SigArg}
use Rattle.pico_base.specs.declared.signal.SigArg.TheVariants.{Zero, Is, Bad}
use Rattle.number_maps.specs.Maps.{Numbered, get, put}
use Rattle.kernel_model.specs.Effect.{is_fresh}
use Rattle.kernel_model.specs.Queue.{empty_queue}
use Rattle.kernel_model.specs.Row.{Waited, Found, NotYet, NoChild, wait}
use Rattle.kernel_model.specs.SemaphoreSet.{SemaphoreSet, new_set}
use Rattle.kernel_model.specs.Signals.{Signals, act_on, is_kill, raise, with_action, with_mask}
use Rattle.kernel_laws.proofs.Plain.{Of}
use Rattle.kernel_laws.proofs.SignalLaws.{Stays, raise-stays, mask-stays}
use Rattle.kernel_laws.proofs.Tables.{Table, fresh-unused, table-bind, table-change, table-make, table-remove}
use Rattle.waiting_model.specs.declared.callers.Waiting.{Waiting}
use Rattle.waiting_model.specs.declared.callers.Wake.{Wake}
use Rattle.waiting_model.specs.Waiters.{Awaited, unawaited, waiter, wakes_at_removal}
use Rattle.waiting_model.specs.Queue.{carry_out_on_queue}
use Rattle.waiting_model.specs.SemaphoreSet.{carry_out_on_set}
use Rattle.waiting_model.specs.Marks.{Alive, raise_by_other, with_signals_of}
use Rattle.waiting_model.specs.Kernel.{Kernel, Parent, Process, Living, Ended, Gone, alive_in, living_at, parent_in, wake_one, with_alive}
use Rattle.waiting_model.specs.Effect.{Effect, on_named, park, refuse, replying, reply_with}
use Rattle.waiting_model.specs.ProcessCalls.{action_effect, bury_all, bury_found, end_process, end_under, found_after_end, fork_effect, kill, kill_at, parent_after_end, parent_after_wait, reap_child, signal_living}
use Rattle.waiting_model.specs.QueueCalls.{get_queue_at, new_queue, on_queue, remove_queue}
use Rattle.waiting_model.specs.SetCalls.{find_set, get_set_at, new_set_of, on_set, remove_set}
use Rattle.waiting_model.specs.Transition.{effect}
use Rattle.waiting_footprint_laws.proofs.Parents.{parent-is}
use Rattle.waiting_footprint_laws.proofs.Ends.{kept-dead, parent-living}
use Rattle.waiting_footprint_laws.proofs.Kin.{Moves, People, moves-alive, moves-buried, moves-dead, moves-none, moves-woken, others-fewer, people-born, people-moved}
use Rattle.waiting_footprint_laws.proofs.Doomed.{IsFair, IsNearlyFair, nearly, nearly-own, fair-raised, fair-parent}

-- nothing is asked of a queue or a set
abbrev pub Any : {T : Type 0} → Awaited T → Type 0
Any object = Unit {0}

-- What is in order, with what holds of each living process.
pub record InOrder (P : ℕ → Alive → Type 0) (k : Kernel) : Type 0 where
  pub people : People P k.processes k.used_processes
  pub queues : Table Any k.queues k.queue_keys k.used_queues
  pub sets : Table Any k.sets k.set_keys k.used_sets

-- between entries
abbrev pub IsSound : Kernel → Type 0
IsSound k = InOrder IsFair k

-- in an entry of a process
pub record IsMidway (pid : ℕ) (e : Effect) : Type 0 where
  pub order : InOrder (IsNearlyFair pid) e.kernel

module _ (k : Kernel) (sound : IsSound k) (pid : ℕ) where
  abbrev Midway : Effect → Type 0
  Midway e = IsMidway pid e

  none-moved : Moves (IsNearlyFair pid) k.processes k.processes
  none-moved =
      moves-none (IsNearlyFair pid) k.processes sound.people.rising
      (λ p a l. nearly pid p a (sound.people.each p a l))

  people-nearly : (qs : Numbered Process) → Moves (IsNearlyFair pid) k.processes qs
      → People (IsNearlyFair pid) qs k.used_processes
  people-nearly qs m = people-moved IsFair (IsNearlyFair pid) k.processes qs k.used_processes sound.people m

  midway-self : (own : Option Reply) → Midway (record { kernel = k; own = own; wakes = [] })
  midway-self own =
      record {
        order = record { people = people-nearly k.processes none-moved; queues = sound.queues; sets = sound.sets };
      }

  midway-processes : (qs : Numbered Process) (own : Option Reply) (wakes : List Wake)
      → Moves (IsNearlyFair pid) k.processes qs
      → Midway (record { kernel = record k { processes = qs }; own = own; wakes = wakes })
  midway-processes qs own wakes m =
      record { order = record { people = people-nearly qs m; queues = sound.queues; sets = sound.sets } }

  woken-people : (wakes : List Wake)
      → People (IsNearlyFair pid) (fold wake_one k.processes wakes) k.used_processes
  woken-people wakes =
      people-nearly (fold wake_one k.processes wakes)
      (moves-woken (IsNearlyFair pid) k.processes
      (λ p a h. record { free = h.free; undoomed = h.undoomed }) wakes k.processes none-moved)

  midway-named : {V : Type 0} (o : Option V) (f : V → Effect) → ((v : V) → o ≡ Some v → Midway (f v))
      → Midway (on_named k o f)
  midway-named None f h = midway-self _
  midway-named (Some v) f h = h v refl

  -- Queues and sets.

  midway-queue : (id : ℕ) (who : Waiting) → Midway (on_queue k id who)
  midway-queue id who =
      midway-named (get k.queues id) _ (λ q e.
      (let c = carry_out_on_queue q who
      in record {
        order = record {
          people = woken-people c.wakes;
          queues = table-change Any k.queues k.queue_keys k.used_queues sound.queues id c.object (ap is_some e) tt;
          sets = sound.sets;
        };
      }))

  midway-set : (id : ℕ) (who : Waiting) → Midway (on_set k id who)
  midway-set id who =
      midway-named (get k.sets id) _ (λ s e.
      (let c = carry_out_on_set s who
      in record {
        order = record {
          people = woken-people c.wakes;
          queues = sound.queues;
          sets = table-change Any k.sets k.set_keys k.used_sets sound.sets id c.object (ap is_some e) tt;
        };
      }))

  midway-remove_queue : (id : ℕ) → Midway (on_named k (get k.queues id) (remove_queue k id))
  midway-remove_queue id =
      midway-named (get k.queues id) _ (λ q e.
      record {
        order = record {
          people = woken-people (wakes_at_removal q);
          queues = table-remove Any k.queues k.queue_keys k.used_queues sound.queues id;
          sets = sound.sets;
        };
      })

  midway-remove_set : (id : ℕ) → Midway (on_named k (get k.sets id) (remove_set k id))
  midway-remove_set id =
      midway-named (get k.sets id) _ (λ s e.
      record {
        order = record {
          people = woken-people (wakes_at_removal s);
          queues = sound.queues;
          sets = table-remove Any k.sets k.set_keys k.used_sets sound.sets id;
        };
      })

  -- what is made where a number may be given out
  of-fresh : (b : Bool) (e : Effect) → (b ≡ true → Midway e) → Of Midway (if b then Some e else None)
  of-fresh true e h = h refl
  of-fresh false e h = tt

  midway-new_queue : (n : ℕ) → Of Midway (new_queue k k.queue_keys n)
  midway-new_queue n =
      of-fresh (is_fresh k.used_queues n) _ (λ h.
      record {
        order = record {
          people = people-nearly k.processes none-moved;
          queues = table-make Any k.queues k.queue_keys k.used_queues sound.queues n (unawaited empty_queue) tt;
          sets = sound.sets;
        };
      })

  midway-bound_queue : (n key : ℕ) → Of Midway (new_queue k (put k.queue_keys key n) n)
  midway-bound_queue n key =
      of-fresh (is_fresh k.used_queues n) _ (λ h.
      record {
        order = record {
          people = people-nearly k.processes none-moved;
          queues = table-bind Any k.queues k.queue_keys k.used_queues sound.queues n key (unawaited empty_queue)
              (fresh-unused k.used_queues n h) tt;
          sets = sound.sets;
        };
      })

  midway-if : (b : Bool) (r s : Reply) → Midway (if b then replying k r else replying k s)
  midway-if true r s = midway-self (Some r)
  midway-if false r s = midway-self (Some s)

  midway-queue_at : (n key : ℕ) (create excl : Bool) (o : Option ℕ)
      → Of Midway (get_queue_at k key create excl n o)
  midway-queue_at n key create excl (Some id) = midway-if (create && excl) _ _
  midway-queue_at n key true excl None = midway-bound_queue n key
  midway-queue_at n key false excl None = midway-self _

  midway-new_set : (n : ℕ) (r : Result SemaphoreSet Errno) → Of Midway (new_set_of k k.set_keys n r)
  midway-new_set n (Err e) = midway-self _
  midway-new_set n (Ok set) =
      of-fresh (is_fresh k.used_sets n) _ (λ h.
      record {
        order = record {
          people = people-nearly k.processes none-moved;
          queues = sound.queues;
          sets = table-make Any k.sets k.set_keys k.used_sets sound.sets n (unawaited set) tt;
        };
      })

  midway-bound_set : (n key : ℕ) (r : Result SemaphoreSet Errno)
      → Of Midway (new_set_of k (put k.set_keys key n) n r)
  midway-bound_set n key (Err e) = midway-self _
  midway-bound_set n key (Ok set) =
      of-fresh (is_fresh k.used_sets n) _ (λ h.
      record {
        order = record {
          people = people-nearly k.processes none-moved;
          queues = sound.queues;
          sets = table-bind Any k.sets k.set_keys k.used_sets sound.sets n key (unawaited set)
              (fresh-unused k.used_sets n h) tt;
        };
      })

  midway-found : (id count : ℕ) (b : Bool) → Midway (if b then refuse k Eexist else find_set k id count)
  midway-found id count true = midway-self _
  midway-found id count false = midway-if _ _ _

  midway-set_at : (n key count : ℕ) (create excl : Bool) (o : Option ℕ)
      → Of Midway (get_set_at k key count create excl n o)
  midway-set_at n key count create excl (Some id) = midway-found id count (create && excl)
  midway-set_at n key count true excl None = midway-bound_set n key (new_set count)
  midway-set_at n key count false excl None = midway-self _

  -- Processes.

  module _ (a : Alive) (lives : living_at k pid ≡ Some a) where
    fair : IsFair pid a
    fair = sound.people.each pid a lives

    midway-signals : (s : Signals) (reply : Reply) → Stays a.row.signals s
        → Midway (replying (with_alive k pid (with_signals_of a s)) reply)
    midway-signals s reply stays =
        midway-processes (put k.processes pid (Living (with_signals_of a s))) (Some reply) []
        (moves-alive (IsNearlyFair pid) k.processes k.processes pid a (with_signals_of a s) lives (λ c h. h)
        (nearly-own pid a s fair stays) none-moved)

    midway-acted : (sig : SigArg) (act : Act) → Midway (action_effect k pid a (act_on a.row.signals sig act))
    midway-acted Zero act = midway-self _
    midway-acted Bad act = midway-self _
    midway-acted (Is g) act = acted-if (is_kill g)
      where
        acted-if : (b : Bool)
            → Midway (action_effect k pid a (if b then Err Einval else Ok (with_action a.row.signals g act)))
        acted-if true = midway-self _
        acted-if false = midway-signals (with_action a.row.signals g act) _ (λ h. h)

    midway-fork : (n : ℕ) → Of Midway (fork_effect k pid a n)
    midway-fork n =
        of-fresh (is_fresh k.used_processes n) _ (λ h.
        record {
          order = record {
            people = people-born (IsNearlyFair pid) k.processes k.used_processes
                (people-nearly k.processes none-moved) pid n a lives (fresh-unused k.used_processes n h)
                (record { free = λ d. refl; undoomed = λ ne e. refl })
                (record { free = fair.0; undoomed = λ ne. fair.1 });
            queues = sound.queues;
            sets = sound.sets;
          };
        })

    midway-waited : (nohang : Bool) → Midway (if nohang then reply_with k 0 else park k)
    midway-waited true = midway-self _
    midway-waited false = midway-self _

    midway-reaped : (nohang : Bool) (w : Waited) → Midway (reap_child k pid a nohang w)
    midway-reaped nohang (Found child ending) =
        let parent = parent_after_wait a child
        in midway-processes (put (put k.processes pid (Living parent)) child Gone) _ []
        (moves-dead (IsNearlyFair pid) k.processes (put k.processes pid (Living parent)) child Gone refl
        (moves-alive (IsNearlyFair pid) k.processes k.processes pid a parent lives (λ c h. h)
        (record { free = fair.0; undoomed = λ ne. fair.1 }) none-moved))
    midway-reaped nohang NotYet = midway-waited nohang
    midway-reaped nohang NoChild = midway-self _

    -- an end, under a parent or without one
    moved-found : (w : Waited) (qs : Numbered Process) → Moves (IsNearlyFair pid) k.processes qs
        → Moves (IsNearlyFair pid) k.processes (bury_found qs w)
    moved-found (Found c ending) qs m = moves-dead (IsNearlyFair pid) k.processes qs c Gone refl m
    moved-found NotYet qs m = m
    moved-found NoChild qs m = m

    moved-under : (ending : Ending) (o : Option Parent) → parent_in pid k.processes ≡ o
        → (qs : Numbered Process) → Moves (IsNearlyFair pid) k.processes qs
        → Moves (IsNearlyFair pid) k.processes (end_under qs pid ending o)
    moved-under ending None is qs m = moves-dead (IsNearlyFair pid) k.processes qs pid Gone refl m
    moved-under ending (Some r) is qs m =
        let there = parent-is pid k.processes r sound.people.rising is
        in moves-alive (IsNearlyFair pid) k.processes _ r.pid r.alive (parent_after_end r.alive pid ending) there.0
        (λ c h. others-fewer pid c r.alive.row.family.living
        (sym (ap (λ (xs : List ℕ). list_any (nat_eq c) xs) (parent-living r.alive pid ending)) ∙ h))
        (nearly pid r.pid (parent_after_end r.alive pid ending)
        (fair-parent r.pid r.alive pid ending (sound.people.each r.pid r.alive there.0)))
        (moved-found (found_after_end r.alive pid ending) _
        (moves-dead (IsNearlyFair pid) k.processes qs pid _ (kept-dead _ ending) m))

    midway-ended : (ending : Ending) → Midway (end_process k pid a ending)
    midway-ended ending =
        midway-processes _ _ _
        (moved-under ending (parent_in pid k.processes) refl (bury_all k.processes a.row.family)
        (moves-buried (IsNearlyFair pid) k.processes a.row.family.ended k.processes none-moved))

  -- A signal to a process.

  midway-raised : (target : ℕ) (t : Alive) (g : Sig) → living_at k target ≡ Some t → (b : Bool)
      → nat_eq pid target ≡ b
      → Midway (reply_with (if b then with_alive k target (with_signals_of t (raise t.row.signals g))
      else with_alive k target (raise_by_other t g)) 0)
  midway-raised target t g lives true is =
      midway-processes (put k.processes target (Living (with_signals_of t (raise t.row.signals g)))) _ []
      (moves-alive (IsNearlyFair pid) k.processes k.processes target t (with_signals_of t (raise t.row.signals g)) lives
      (λ c h. h)
      (subst (λ (q : ℕ). IsNearlyFair pid q (with_signals_of t (raise t.row.signals g))) (eqb-true pid target is)
      (nearly-own pid t (raise t.row.signals g) (sound.people.each target t lives) (raise-stays t.row.signals g)))
      none-moved)
  midway-raised target t g lives false is =
      midway-processes (put k.processes target (Living (raise_by_other t g))) _ []
      (moves-alive (IsNearlyFair pid) k.processes k.processes target t (raise_by_other t g) lives (λ c h. h)
      (nearly pid target (raise_by_other t g) (fair-raised target t g (sound.people.each target t lives))) none-moved)

  midway-signalled : (target : ℕ) (t : Alive) (sig : SigArg) → living_at k target ≡ Some t
      → Midway (signal_living k pid target t sig)
  midway-signalled target t Zero lives = midway-self _
  midway-signalled target t Bad lives = midway-self _
  midway-signalled target t (Is g) lives = midway-raised target t g lives (nat_eq pid target) refl

  midway-kill_at : (target : ℕ) (sig : SigArg) (o : Option Process) → get k.processes target ≡ o
      → Midway (kill_at k pid target sig o)
  midway-kill_at target sig None is = midway-self _
  midway-kill_at target sig (Some Gone) is = midway-self _
  midway-kill_at target sig (Some (Ended ending)) is = midway-self _
  midway-kill_at target sig (Some (Living t)) is =
      midway-signalled target t sig (ap (option_and_then alive_in) is)

  midway-kill : (target : ℕ) (sig : SigArg) → Midway (kill k pid target sig)
  midway-kill target Bad = midway-self _
  midway-kill target Zero = midway-kill_at target Zero (get k.processes target) refl
  midway-kill target (Is g) = midway-kill_at target (Is g) (get k.processes target) refl

  -- Each call.

  -- what a call comes to is in order, but for the caller's own marks
  pub midway : (a : Alive) → living_at k pid ≡ Some a → (n : ℕ) (call : Call)
      → Of Midway (effect k (waiter pid call) a n)
  midway a lives n (calls.Fork block) = midway-fork a lives n
  midway a lives n (calls.Exit status) = midway-ended a lives (endings.Exited (status % 256))
  midway a lives n (calls.Killed sig) = midway-ended a lives (endings.Killed sig)
  midway a lives n calls.GetPid = midway-self _
  midway a lives n (calls.Kill target sig) = midway-kill target sig
  midway a lives n (calls.SigAction sig act) = midway-acted a lives sig act
  midway a lives n (calls.SigProcMask how set) =
      midway-signals a lives (with_mask a.row.signals how set) _ (mask-stays a.row.signals how set)
  midway a lives n calls.SigPending = midway-self _
  midway a lives n (calls.Handled sig) = midway-self _
  midway a lives n (calls.WaitPid child nohang) = midway-reaped a lives nohang (wait a.row.family child)
  midway a lives n (calls.MsgGet None create excl) = midway-new_queue n
  midway a lives n (calls.MsgGet (Some key) create excl) =
      midway-queue_at n key create excl (get k.queue_keys key)
  midway a lives n (calls.MsgSnd id class text nowait) =
      midway-queue id (waiter pid (calls.MsgSnd id class text nowait))
  midway a lives n (calls.MsgRcv id class size noerror nowait) =
      midway-queue id (waiter pid (calls.MsgRcv id class size noerror nowait))
  midway a lives n (calls.MsgStat id) =
      midway-queue id (waiter pid (calls.MsgStat id))
  midway a lives n (calls.MsgSet id qbytes) =
      midway-queue id (waiter pid (calls.MsgSet id qbytes))
  midway a lives n (calls.MsgRmid id) = midway-remove_queue id
  midway a lives n (calls.SemGet None count create excl) = midway-new_set n (new_set count)
  midway a lives n (calls.SemGet (Some key) count create excl) =
      midway-set_at n key count create excl (get k.set_keys key)
  midway a lives n (calls.SemOp id steps) = midway-set id (waiter pid (calls.SemOp id steps))
  midway a lives n (calls.SemGetVal id num) = midway-set id (waiter pid (calls.SemGetVal id num))
  midway a lives n (calls.SemGetPid id num) = midway-set id (waiter pid (calls.SemGetPid id num))
  midway a lives n (calls.SemGetNcnt id num) = midway-set id (waiter pid (calls.SemGetNcnt id num))
  midway a lives n (calls.SemGetZcnt id num) = midway-set id (waiter pid (calls.SemGetZcnt id num))
  midway a lives n (calls.SemSetVal id num value) = midway-set id (waiter pid (calls.SemSetVal id num value))
  midway a lives n (calls.SemGetAll id) = midway-set id (waiter pid (calls.SemGetAll id))
  midway a lives n (calls.SemSetAll id values) = midway-set id (waiter pid (calls.SemSetAll id values))
  midway a lives n (calls.SemRmid id) = midway-remove_set id
  midway a lives n (calls.Withdraw name) = tt
