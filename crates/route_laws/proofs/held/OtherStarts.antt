-- A node other than the leader starts a call of its process that others may carry out: it serves the call where it
-- holds the name, asks the owner that its cache names, or asks the leader.
use Rattle.std.proofs.Common.{◌≡◌, ◌≢◌, ℕ, ◌≤◌, Bool, true, false, Option, Some, None, refl, [], inr}
use Rattle.std.proofs.lemmas.Bool.{false≢true}
use Rattle.pico_base.specs.declared.call.Home.{Home}
use Rattle.pico_base.specs.declared.call.Home.TheVariants as homes
use Rattle.pico_base.specs.declared.numbers.Name.{Name}
use Rattle.pico_base.specs.declared.script.Event.TheVariants as events
use Rattle.pico_base.specs.declared.script.Script.{Script}
use Rattle.pico_base.specs.Home.{home_of}
use Rattle.kernel_model.specs.Script.{IsSoundScript}
use Rattle.waiting_model.specs.Calls.{may_park}
use Rattle.node_model.specs.Cache.{owner_in}
use Rattle.world_model.specs.Calls.{is_for_others}
use Rattle.world_model.specs.Node.{Node, can_run, holds as node_holds}
use Rattle.world_model.specs.World.{World, node_count}
use Rattle.world_laws.specs.Places.{Beside, CallPlace, InAsk, InRequest, call_in}
use Rattle.world_laws.specs.Sights.{node_of}
use Rattle.world_laws.specs.Invariant.{Holds}
use Rattle.world_laws.proofs.Steps.{KeepsAs}
use Rattle.rule_laws.proofs.own.Asks.{keys-asked, removal-asked}
use Rattle.rule_laws.proofs.own.Moved.{AfterRun, moved-alone}
use Rattle.rule_laws.proofs.own.OwnCases.{Keeps}
use Rattle.rule_laws.proofs.own.Requests.{at-asked, owner-asked, waiting-asked}
use Rattle.rule_laws.proofs.own.Runs.{Starts}
use Rattle.route_laws.specs.Ready.{HasFewNodes}
use Rattle.route_laws.proofs.held.HeldStarts.{held-call-keeps}

module _ (script : Script) (sound : IsSoundScript script) (w : World) (b : Beside) (holds : Holds script w [] b) (p : ℕ)
    (low : 1 ≤ p) (high : p ≤ node_count script) (can : can_run (node_of w p) ≡ true) (s : Starts script w b p)
    (other : p ≢ 1) (few : HasFewNodes script) where
  abbrev n : Node
  n = node_of w p

  abbrev Runs : Type 0
  Runs = Keeps script w (events.Run p) (AfterRun b p)

  -- the call is in this place then
  moves-out : (place : CallPlace) → KeepsAs script w (events.Run p) (record b { call = call_in b.call p place }) → Runs
  moves-out place keeps =
      record {
        beside = record b { call = call_in b.call p place };
        keeps = keeps;
        after = inr (moved-alone b.call (call_in b.call p place) p (λ z. Unit {0}) place (λ y. refl) tt);
      }

  by-owner : (name : Name) → home_of n.pid s.call ≡ homes.At name → node_holds n name ≡ false
      → may_park s.call ≡ false → (o : Option ℕ) → owner_in n.cache name ≡ o → Runs
  by-owner name home elsewhere quick None is =
      moves-out InAsk (at-asked script sound w b holds p low high can s other name home elsewhere quick is)
  by-owner name home elsewhere quick (Some owner) is =
      moves-out (InRequest owner)
      (owner-asked script sound w b holds p low high can s other name home elsewhere quick owner is)

  by-waits : (name : Name) → home_of n.pid s.call ≡ homes.At name → node_holds n name ≡ false → (t : Bool)
      → may_park s.call ≡ t → Runs
  by-waits name home elsewhere true parks =
      moves-out InAsk (waiting-asked script sound w b holds p low high can s other name home elsewhere parks)
  by-waits name home elsewhere false quick = by-owner name home elsewhere quick (owner_in n.cache name) refl

  by-held : (name : Name) → home_of n.pid s.call ≡ homes.At name → (t : Bool) → node_holds n name ≡ t → Runs
  by-held name home true held =
      held-call-keeps script sound w b holds p low high can s other few name home held
  by-held name home false elsewhere = by-waits name home elsewhere (may_park s.call) refl

  -- Such a node starts a call on a name.
  pub at-starts : (name : Name) → home_of n.pid s.call ≡ homes.At name → Keeps script w (events.Run p) (AfterRun b p)
  at-starts name home = by-held name home (node_holds n name) refl

  by-home : (home : Home) → home_of n.pid s.call ≡ home → is_for_others home ≡ true → Runs
  by-home (homes.At name) is h = at-starts name is
  by-home (homes.Removal name) is h =
      moves-out InAsk (removal-asked script sound w b holds p low high can s other name is)
  by-home homes.Keys is h =
      moves-out InAsk (keys-asked script sound w b holds p low high can s other is)
  by-home homes.Own is h = absurd (false≢true h)
  by-home homes.Parent is h = absurd (false≢true h)

  -- Such a node starts any call that others may carry out.
  pub others-start : is_for_others (home_of (node_of w p).pid s.call) ≡ true
      → Keeps script w (events.Run p) (AfterRun b p)
  others-start others = by-home (home_of n.pid s.call) refl others
