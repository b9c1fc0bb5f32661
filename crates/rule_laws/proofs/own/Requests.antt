-- A node other than the leader starts a call on a name whose deed it doesn't hold: it asks the owner that its cache
-- names, or the leader, and only the leader where the call may have to wait.
use Rattle.std.proofs.Common.{◌≡◌, ◌≢◌, ℕ, ◌+◌, ◌≤◌, Bool, true, false, not, if◌then◌else◌, [], nat_eq, Contains, Option, Some, None, refl, ap, sym, ◌∙◌, All}
use Rattle.std.proofs.lemmas.Bool.{eq-eqb, ne_eqb}
use Rattle.std.proofs.lemmas.List.Elements.{All-cons, All-filter, All-weaker, All-contains, All-contains_itself}
use Rattle.std.proofs.lemmas.Map.Views.{Contains-from_lookup}
use Rattle.pico_base.specs.declared.call.Call.{Call}
use Rattle.pico_base.specs.declared.call.Home.TheVariants as homes
use Rattle.pico_base.specs.declared.numbers.Name.{Name}
use Rattle.pico_base.specs.declared.script.Event.TheVariants as events
use Rattle.pico_base.specs.declared.script.Script.{Script}
use Rattle.pico_base.specs.Home.{home_of}
use Rattle.rpc_frame.specs.declared.frame.Frame.TheVariants as frames
use Rattle.kernel_model.specs.Script.{IsSoundScript}
use Rattle.node_model.specs.Cache.{Cache, forget, look, look_by, owner_in}
use Rattle.waiting_model.specs.Calls.{may_park}
use Rattle.node_model.specs.Caller.{Caller, start_call}
use Rattle.node_model.specs.Kinds.{is_same_name}
use Rattle.world_model.specs.Calls.{is_for_others}
use Rattle.world_model.specs.Node.{Node, asked_here, can_run, holds}
use Rattle.world_model.specs.Routes.{route_call}
use Rattle.world_model.specs.Serving.{serve_asked}
use Rattle.world_model.specs.Starting.{ask, request, run, start_by}
use Rattle.world_model.specs.Step.{send, step_to}
use Rattle.world_model.specs.World.{World, node_count}
use Rattle.world_laws.specs.Places.{Beside, InAsk, InRequest, call_in}
use Rattle.world_laws.specs.Sights.{is_born_in, node_of}
use Rattle.world_laws.specs.Callers.{may_be_in}
use Rattle.world_laws.specs.Families.{NodeHolds}
use Rattle.world_laws.specs.Invariant.{Holds}
use Rattle.world_laws.proofs.Named.{same-name-is}
use Rattle.world_laws.proofs.Steps.{KeepsAs}
use Rattle.rule_laws.proofs.Suggestions.{born-in-range}
use Rattle.rule_laws.proofs.own.Asks.{asks-leader, no-leader}
use Rattle.rule_laws.proofs.own.Outs.{out-keeps}
use Rattle.rule_laws.proofs.own.Runs.{Starts, run-is}

-- ---- the cache

module _ (P : Name × ℕ → Type 0) (cache : Cache) (name : Name) (all : All P cache) where
  looked : (o : Option ℕ) → owner_in cache name ≡ o → All P (look_by cache name o)
  looked None is = all
  looked (Some owner) is =
      All-cons P (name, owner) (forget cache name)
      (All-contains P cache (name, owner) all (Contains-from_lookup same-name-is name owner cache is))
      (All-filter (λ e. not (is_same_name name e.0)) P cache all)

module _ (script : Script) (sound : IsSoundScript script) (w : World) (b : Beside) (holds_all : Holds script w [] b)
    (p : ℕ) (low : 1 ≤ p) (high : p ≤ node_count script) (can : can_run (node_of w p) ≡ true) (s : Starts script w b p)
    (other : p ≢ 1) (name : Name) (home : home_of (node_of w p).pid s.call ≡ homes.At name)
    (elsewhere : holds (node_of w p) name ≡ false) where
  abbrev n : Node
  n = node_of w p

  abbrev call : Call
  call = s.call

  abbrev cache-now : Cache
  cache-now = look n.cache name

  abbrev started : Node
  started = record n { caller = start_call n.caller call; cache = cache-now }

  abbrev IsOwner : Name × ℕ → Type 0
  IsOwner e = (is_born_in w e.1 ≡ true) × (e.1 ≢ p)

  node-holds : NodeHolds script b.pids (is_born_in w) p n
  node-holds = holds_all.nodes p low high

  owners-were : All IsOwner n.cache
  owners-were =
      All-weaker (Contains n.cache) IsOwner (λ e there. node-holds.owners e.0 e.1 there) n.cache
      (All-contains_itself n.cache)

  owners-now : (m : Name) (owner : ℕ) → Contains cache-now (m, owner) → (is_born_in w owner ≡ true) × (owner ≢ p)
  owners-now m owner there =
      All-contains IsOwner cache-now (m, owner)
      (looked IsOwner n.cache name owners-were (owner_in n.cache name) refl) there

  abbrev begun : Node
  begun = record n { caller = start_call n.caller call }

  -- It isn't served here. One that may have to wait is asked of the leader, whatever the cache says.
  rule-by : (parks : Bool) → may_park call ≡ parks
      → run script n
      ≡ (if parks then ask script (step_to begun) call
      else request script (step_to started) call (owner_in n.cache name))
  rule-by parks is =
      run-is script sound w b holds_all p low high can s
      ∙ ap (start_by script (step_to begun) call s.row) home
      ∙ ap (λ t. if t then serve_asked script (step_to begun) name (asked_here begun call)
      else if may_park call then ask script (step_to begun) call
      else request script (step_to started) call (owner_in n.cache name)) elsewhere
      ∙ ap (λ t. if t then ask script (step_to begun) call
      else request script (step_to started) call (owner_in n.cache name)) is

  ask-rule : (m : Node) → m.number ≡ n.number → m.pid ≡ n.pid → m.caller ≡ start_call n.caller call
      → ask script (step_to m) call ≡ Some (send (step_to m) 1 (frames.Ask (n.caller.ticket + 1) n.pid call))
  ask-rule m number pid caller =
      ap (λ t. if t then route_call script (step_to m) (asked_here m call)
      else Some (send (step_to m) 1 (frames.Ask m.caller.ticket m.pid call)))
      (ap (λ k. nat_eq k 1) number ∙ no-leader script sound w b holds_all p low high can s other)
      ∙ ap (λ (k : Caller). Some (send (step_to m) 1 (frames.Ask k.ticket m.pid call))) caller
      ∙ ap (λ q. Some (send (step_to m) 1 (frames.Ask (n.caller.ticket + 1) q call))) pid

  -- A call that may have to wait is asked of the leader.
  pub waiting-asked : may_park call ≡ true
      → KeepsAs script w (events.Run p) (record b { call = call_in b.call p InAsk })
  waiting-asked parks =
      out-keeps script w b holds_all p low high s InAsk 1 (frames.Ask (n.caller.ticket + 1) n.pid call) n.cache
      (asks-leader script sound w b holds_all p low high can s other n.cache node-holds.owners (ap is_for_others home))
      (rule-by true parks ∙ ask-rule begun refl refl refl)

  -- Where the cache names no owner, the leader is asked.
  pub at-asked : may_park call ≡ false → owner_in n.cache name ≡ None
      → KeepsAs script w (events.Run p) (record b { call = call_in b.call p InAsk })
  at-asked quick none =
      out-keeps script w b holds_all p low high s InAsk 1 (frames.Ask (n.caller.ticket + 1) n.pid call) cache-now
      (asks-leader script sound w b holds_all p low high can s other cache-now owners-now (ap is_for_others home))
      (rule-by false quick ∙ ap (request script (step_to started) call) none ∙ ask-rule started refl refl refl)

  -- And where it names one, that is asked.
  pub owner-asked : may_park call ≡ false → (owner : ℕ) → owner_in n.cache name ≡ Some owner
      → KeepsAs script w (events.Run p) (record b { call = call_in b.call p (InRequest owner) })
  owner-asked quick owner is =
      out-keeps script w b holds_all p low high s (InRequest owner) owner
      (frames.Request (n.caller.ticket + 1) n.pid call) cache-now
      (record {
        low = within.0;
        high = within.1;
        other = its.1;
        frame_is = refl;
        in_stream = λ t q. refl;
        not_held = λ m. refl;
        not_in_hand = refl;
        not_waiting = λ name. refl;
        not_made = refl;
        no_end = refl;
        no_lease_place = λ k. refl;
        about = eq-eqb p p refl;
        about_none = λ y d. ne_eqb p y (λ e. d (sym e));
        no_cancel = λ y. refl;
        plain = refl;
        no_birth = refl;
        no_lease = λ k. refl;
        no_name = λ m. refl;
        may_be = its.0;
        home = ap (λ h. may_be_in (InRequest owner) h call) home ∙ ap not quick;
        used_up = tt;
        between = its;
        to_be_made = λ x made. made;
        owners = owners-now;
      })
      (rule-by false quick ∙ ap (request script (step_to started) call) is
      ∙ ap (λ t. if t then ask script (step_to started) call
      else Some (send (step_to started) owner (frames.Request (n.caller.ticket + 1) n.pid call)))
      (ne_eqb owner n.number (λ e. its.1 (e ∙ node-holds.number))))
    where
      its : (is_born_in w owner ≡ true) × (owner ≢ p)
      its = node-holds.owners name owner (Contains-from_lookup same-name-is name owner n.cache is)

      within : (1 ≤ owner) × (owner ≤ node_count script)
      within = born-in-range script w holds_all.shape owner its.0
