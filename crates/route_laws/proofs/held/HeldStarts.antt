-- A node other than the leader starts a call of its process on a name that it holds: it serves the call, and notes who
-- read. The call is over at once, or waits there.
use Rattle.std.proofs.Common.{◌≡◌, ◌≢◌, ℕ, ◌≤◌, true, if◌then◌else◌, [], ap, ◌∙◌, inr}
use Rattle.pico_base.specs.declared.call.Call.{Call}
use Rattle.pico_base.specs.declared.call.Home.TheVariants as homes
use Rattle.pico_base.specs.declared.numbers.Name.{Name}
use Rattle.pico_base.specs.declared.script.Event.TheVariants as events
use Rattle.pico_base.specs.declared.script.Script.{Script}
use Rattle.pico_base.specs.Home.{home_of}
use Rattle.rpc_frame.specs.declared.asked.Asked.{Asked}
use Rattle.kernel_laws.proofs.Plain.{of-some}
use Rattle.kernel_model.specs.Script.{IsSoundScript}
use Rattle.waiting_model.specs.Calls.{may_park}
use Rattle.node_model.specs.Cache.{look, owner_in}
use Rattle.world_model.specs.Calls.{is_for_others}
use Rattle.world_model.specs.Node.{Node, asked_here, can_run, holds as node_holds}
use Rattle.world_model.specs.Serving.{serve_asked}
use Rattle.world_model.specs.Starting.{ask, request, run, start_by}
use Rattle.world_model.specs.Step.{step_to}
use Rattle.world_model.specs.World.{World, node_count, world_after}
use Rattle.entry_laws.proofs.Names.{same-name}
use Rattle.world_laws.specs.Places.{Beside, InTable, IsInHand}
use Rattle.world_laws.specs.Sights.{is_born_in, is_born_stage, node_of}
use Rattle.world_laws.specs.Callers.{is_on}
use Rattle.world_laws.specs.Families.{NodeHolds}
use Rattle.world_laws.specs.Invariant.{Holds}
use Rattle.world_laws.proofs.Steps.{run-steps}
use Rattle.rule_laws.proofs.own.Moved.{AfterRun, moved-twice}
use Rattle.rule_laws.proofs.own.OwnCases.{Keeps}
use Rattle.rule_laws.proofs.own.Runs.{Starts, run-is}
use Rattle.route_laws.specs.Ready.{HasFewNodes}
use Rattle.route_laws.proofs.sent.NoCheckpoint.{in-table}
use Rattle.route_laws.proofs.served.Noting.{ServesAndNotes, serves-elsewhere}
use Rattle.route_laws.proofs.first.Calm.{OwesAs, own-strikes-not, served-calm}
use Rattle.route_laws.proofs.first.Starts.{calm-keeps, somewhere, start-in-hand, started_asked, started_beside, started_node, started-asked-here, started-asks, started-here}

module _ (script : Script) (sound : IsSoundScript script) (w : World) (b : Beside) (holds : Holds script w [] b) (p : ℕ)
    (low : 1 ≤ p) (high : p ≤ node_count script) (can : can_run (node_of w p) ≡ true) (s : Starts script w b p)
    (other : p ≢ 1) (few : HasFewNodes script) (name : Name)
    (home : home_of (node_of w p).pid s.call ≡ homes.At name) (held : node_holds (node_of w p) name ≡ true) where
  abbrev n : Node
  n = node_of w p

  abbrev call : Call
  call = s.call

  node-was : NodeHolds script b.pids (is_born_in w) p n
  node-was = holds.nodes p low high

  others : is_for_others (home_of n.pid call) ≡ true
  others = ap is_for_others home

  -- the node that has started it, and the call as it is asked for
  abbrev started : Node
  started = started_node script w b holds p low high s n.cache node-was.owners others

  abbrev asked : Asked
  asked = started_asked script w b holds p low high s n.cache node-was.owners others

  abbrev in-hand : Beside
  in-hand = started_beside script w b holds p low high s n.cache node-was.owners others

  -- the name's deed is in the node's table
  deed : b.deed name ≡ InTable p
  deed = in-table script w [] b holds p (ap is_born_stage s.stage) name held

  rule : run script n ≡ serve_asked script (step_to started) name asked
  rule =
      run-is script sound w b holds p low high can s
      ∙ ap (start_by script (step_to started) call s.row) home
      ∙ ap (λ t. if t then serve_asked script (step_to started) name (asked_here started call)
      else if may_park call then ask script (step_to started) call
      else request script (step_to (record started { cache = look n.cache name })) call (owner_in n.cache name)) held
      ∙ ap (serve_asked script (step_to started) name)
      (started-asked-here script w b holds p low high s n.cache node-was.owners others)

  here : node_of (world_after w p (step_to started)) p ≡ started
  here = started-here script w b holds p low high s n.cache node-was.owners others

  serves : ServesAndNotes script w p (step_to started) asked [] in-hand name
  serves =
      serves-elsewhere script w p (step_to started) asked [] in-hand
      (start-in-hand script w b holds p low high s n.cache node-was.owners others)
      (record {
        low = low;
        high = high;
        born = ap (λ (m : Node). is_born_stage m.stage) here ∙ ap is_born_stage s.stage;
      })
      (started-asks script w b holds p low high s n.cache node-was.owners others) name home deed few other

  -- The call is served at the node, and all holds.
  pub held-call-keeps : Keeps script w (events.Run p) (AfterRun b p)
  held-call-keeps =
      record {
        beside = serves.beside;
        keeps = record {
          next = world_after w p serves.next;
          is_step = run-steps script w p serves.next holds.shape low high (rule ∙ serves.is);
          holds = calm-keeps script w p serves.next serves.beside serves.holds
              (of-some (OwesAs (step_to started)) (serve_asked script (step_to started) name asked) serves.next
              (served-calm script (step_to started) asked name
              (own-strikes-not started name call (ap (is_on name) home ∙ same-name name))) serves.is);
        };
        after = inr (somewhere b.call serves.beside.call p
            (moved-twice b.call serves.beside.call p IsInHand _ serves.moved));
      }
