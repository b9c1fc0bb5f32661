-- A node other than the leader starts a call that it doesn't carry out itself: it asks for numbers where it has none
-- left, or asks the leader.
use Rattle.std.proofs.Common.{◌≡◌, ◌≢◌, ℕ, ◌+◌, ◌≤◌, Bool, true, false, ◌&&◌, not, if◌then◌else◌, List, [], ◌∷◌, Contains, Option, Some, None, Ok, refl, ap, sym, ◌∙◌, arith}
use Rattle.std.proofs.lemmas.Bool.{eq-eqb, ne_eqb, false≢true}
use Rattle.pico_base.specs.declared.call.Call.{Call}
use Rattle.pico_base.specs.declared.call.Call.TheVariants as calls
use Rattle.pico_base.specs.declared.call.Home.{Home}
use Rattle.pico_base.specs.declared.call.Home.TheVariants as homes
use Rattle.pico_base.specs.declared.numbers.Kind.{Kind}
use Rattle.pico_base.specs.declared.numbers.Kind.TheVariants as kinds
use Rattle.pico_base.specs.declared.numbers.Name.{Name}
use Rattle.pico_base.specs.declared.script.Event.TheVariants as events
use Rattle.pico_base.specs.declared.script.Script.{Script}
use Rattle.pico_base.specs.Home.{home_of}
use Rattle.rpc_frame.specs.declared.frame.Frame.TheVariants as frames
use Rattle.kernel_model.specs.SemaphoreSet.{SemaphoreSet, new_set}
use Rattle.kernel_model.specs.Script.{IsSoundScript}
use Rattle.node_model.specs.Cache.{Cache}
use Rattle.node_model.specs.Caller.{start_call}
use Rattle.node_model.specs.Kinds.{for_kind}
use Rattle.node_model.specs.Leases.{is_used_up, takes_number}
use Rattle.world_model.specs.Calls.{is_for_others}
use Rattle.world_model.specs.Node.{Node, can_run, is_leader}
use Rattle.world_model.specs.Numbers.{make}
use Rattle.world_model.specs.Routes.{route_call}
use Rattle.world_model.specs.Starting.{ask, run, start_by, start_making, start_own, start_set}
use Rattle.world_model.specs.Step.{Step, send, step_to}
use Rattle.world_model.specs.World.{World, node_count}
use Rattle.world_laws.specs.Places.{Beside, AsksLease, InAsk, call_in}
use Rattle.world_laws.specs.Sights.{node_of, is_born_in}
use Rattle.world_laws.specs.Callers.{may_be_in}
use Rattle.world_laws.specs.Families.{NodeHolds}
use Rattle.world_laws.specs.Invariant.{Holds}
use Rattle.world_laws.proofs.Steps.{KeepsAs}
use Rattle.rule_laws.proofs.own.Outs.{GoesOut, asked_now, out-keeps}
use Rattle.rule_laws.proofs.own.Runs.{Starts, run-is}

-- ---- calls that take a number

-- the call takes a number of the kind, and starts so
pub record Takes (kind : Kind) (call : Call) : Type 0 where
  pub takes : takes_number kind call ≡ true
  pub home : (pid : ℕ) → home_of pid call ≡ homes.Own
  pub starts : (script : Script) (step : Step) → start_own script step call ≡ start_making script step call kind

-- a fork
pub fork-takes : (block : ℕ) → Takes kinds.Proc (calls.Fork block)
fork-takes block = record { takes = refl; home = λ pid. refl; starts = λ script step. refl }

-- a new queue without a key
pub queue-takes : (create excl : Bool) → Takes kinds.Msg (calls.MsgGet None create excl)
queue-takes create excl = record { takes = refl; home = λ pid. refl; starts = λ script step. refl }

-- a new set without a key, of a size that there is
pub set-takes : (count : ℕ) (create excl : Bool) (set : SemaphoreSet) → new_set count ≡ Ok set
    → Takes kinds.Sem (calls.SemGet None count create excl)
set-takes count create excl set is =
    record {
      takes = refl;
      home = λ pid. refl;
      starts = λ script step. ap (start_set script step (calls.SemGet None count create excl)) is;
    }

none-left : (numbers : List ℕ) → is_used_up numbers ≡ true → numbers ≡ []
none-left [] h = refl
none-left (number ∷ numbers) h = absurd (false≢true h)

module _ (script : Script) (sound : IsSoundScript script) (w : World) (b : Beside) (holds : Holds script w [] b) (p : ℕ)
    (low : 1 ≤ p) (high : p ≤ node_count script) (can : can_run (node_of w p) ≡ true) (s : Starts script w b p)
    (other : p ≢ 1) where
  abbrev n : Node
  n = node_of w p

  abbrev call : Call
  call = s.call

  abbrev started : Node
  started = record n { caller = start_call n.caller call }

  node-holds : NodeHolds script b.pids (is_born_in w) p n
  node-holds = holds.nodes p low high

  pub no-leader : is_leader n ≡ false
  no-leader = ne_eqb n.number 1 (λ e. other (sym node-holds.number ∙ e))

  some-node : 1 ≤ node_count script
  some-node = omega (arith, low, high)

  -- ---- no number is left

  asks-lease : (kind : Kind) → Takes kind call → is_used_up (for_kind n.leases kind) ≡ true
      → GoesOut script w p call (AsksLease kind) 1 (frames.LeaseAsk kind) n.cache
  asks-lease kind takes over =
      record {
        low = omega arith;
        high = some-node;
        other = λ e. other (sym e);
        frame_is = refl;
        in_stream = λ t q. refl;
        not_held = λ name. refl;
        not_in_hand = refl;
        not_waiting = λ name. refl;
        not_made = refl;
        no_end = refl;
        no_lease_place = λ k. refl;
        about = eq-eqb p p refl;
        about_none = λ y d. ne_eqb p y (λ e. d (sym e));
        no_cancel = λ y. refl;
        plain = refl;
        no_birth = refl;
        no_lease = λ k. refl;
        no_name = λ name. refl;
        may_be = refl;
        home = ap (λ home. may_be_in (AsksLease kind) home call) (takes.home n.pid) ∙ takes.takes;
        used_up = none-left (for_kind n.leases kind) over;
        between = other;
        to_be_made = λ x made. made;
        owners = node-holds.owners;
      }

  lease-rule : (kind : Kind) → Takes kind call → is_used_up (for_kind n.leases kind) ≡ true
      → run script n ≡ Some (send (step_to started) 1 (frames.LeaseAsk kind))
  lease-rule kind takes over =
      run-is script sound w b holds p low high can s
      ∙ ap (start_by script (step_to started) call s.row) (takes.home n.pid)
      ∙ takes.starts script (step_to started)
      ∙ ap (λ t. if t && not (is_leader n) then Some (send (step_to started) 1 (frames.LeaseAsk kind))
      else make script (step_to started) call kind) over
      ∙ ap (λ t. if not t then Some (send (step_to started) 1 (frames.LeaseAsk kind))
      else make script (step_to started) call kind) no-leader

  -- The node asks the leader for numbers, where it needs one and has none left.
  pub lease-ask-starts : (kind : Kind) → Takes kind call → is_used_up (for_kind n.leases kind) ≡ true
      → KeepsAs script w (events.Run p) (record b { call = call_in b.call p (AsksLease kind) })
  lease-ask-starts kind takes over =
      out-keeps script w b holds p low high s (AsksLease kind) 1 (frames.LeaseAsk kind) n.cache
      (asks-lease kind takes over) (lease-rule kind takes over)

  -- ---- the leader is asked

  pub asks-leader : (cache : Cache)
      → ((name : Name) (owner : ℕ) → Contains cache (name, owner) → (is_born_in w owner ≡ true) × (owner ≢ p))
      → is_for_others (home_of n.pid call) ≡ true
      → GoesOut script w p call InAsk 1 (frames.Ask (n.caller.ticket + 1) n.pid call) cache
  asks-leader cache owners home =
      record {
        low = omega arith;
        high = some-node;
        other = λ e. other (sym e);
        frame_is = refl;
        in_stream = λ t q. refl;
        not_held = λ name. refl;
        not_in_hand = refl;
        not_waiting = λ name. refl;
        not_made = refl;
        no_end = refl;
        no_lease_place = λ k. refl;
        about = eq-eqb p p refl;
        about_none = λ y d. ne_eqb p y (λ e. d (sym e));
        no_cancel = λ y. refl;
        plain = refl;
        no_birth = refl;
        no_lease = λ k. refl;
        no_name = λ name. refl;
        may_be = refl;
        home = home;
        used_up = tt;
        between = other;
        to_be_made = λ x made. made;
        owners = owners;
      }

  pub ask-is : ask script (step_to started) call
      ≡ Some (send (step_to started) 1 (frames.Ask (n.caller.ticket + 1) n.pid call))
  ask-is =
      ap (λ t. if t then route_call script (step_to started) (asked_now n call)
      else Some (send (step_to started) 1 (frames.Ask (n.caller.ticket + 1) n.pid call))) no-leader

  pub by-home : (home : Home) → home_of n.pid call ≡ home
      → ((result : Option Step) → start_by script (step_to started) call s.row home ≡ result
      → run script n ≡ result)
  by-home home is result by =
      run-is script sound w b holds p low high can s ∙ ap (start_by script (step_to started) call s.row) is ∙ by

  -- The node asks the leader to carry out a call on a key, or a removal.
  pub keys-asked : home_of n.pid call ≡ homes.Keys
      → KeepsAs script w (events.Run p) (record b { call = call_in b.call p InAsk })
  keys-asked is =
      out-keeps script w b holds p low high s InAsk 1 (frames.Ask (n.caller.ticket + 1) n.pid call) n.cache
      (asks-leader n.cache node-holds.owners (ap is_for_others is)) (by-home homes.Keys is _ ask-is)

  pub removal-asked : (name : Name) → home_of n.pid call ≡ homes.Removal name
      → KeepsAs script w (events.Run p) (record b { call = call_in b.call p InAsk })
  removal-asked name is =
      out-keeps script w b holds p low high s InAsk 1 (frames.Ask (n.caller.ticket + 1) n.pid call) n.cache
      (asks-leader n.cache node-holds.owners (ap is_for_others is)) (by-home (homes.Removal name) is _ ask-is)
