-- The leader routes a call on a name that it holds: it serves the call, and notes who read.
use Rattle.std.proofs.Common.{◌≡◌, if◌then◌else◌, List, ◌∷◌, Some, ap, sym, ◌∙◌, inl}
use Rattle.std.proofs.lemmas.Bool.{eq-eqb}
use Rattle.pico_base.specs.declared.call.Home.TheVariants as homes
use Rattle.pico_base.specs.declared.numbers.Name.{Name}
use Rattle.pico_base.specs.declared.script.Script.{Script}
use Rattle.pico_base.specs.Home.{home_of}
use Rattle.rpc_frame.specs.declared.asked.Asked.{Asked}
use Rattle.node_model.specs.declared.held.Held.{Held}
use Rattle.node_model.specs.declared.held.Held.TheVariants.{Request}
use Rattle.node_model.specs.Directory.{Directory, At, place_of, maker, maker_stays, route, route_by}
use Rattle.world_model.specs.Node.{Node}
use Rattle.world_model.specs.Routes.{forward, route_call, route_home}
use Rattle.world_model.specs.Routes as routing
use Rattle.world_model.specs.Serving.{serve_asked}
use Rattle.world_model.specs.Step.{Step}
use Rattle.world_model.specs.World.{World, world_after}
use Rattle.world_laws.specs.Places.{Beside}
use Rattle.world_laws.specs.Sights.{node_of, directory_of}
use Rattle.rule_laws.proofs.own.Moved.{IsMoved}
use Rattle.route_laws.specs.Ready.{HasFewNodes}
use Rattle.route_laws.specs.Watching.{WatchesAsOwner}
use Rattle.route_laws.proofs.Owed.{HoldsAt, IsServedPlace}
use Rattle.route_laws.proofs.hand.HandMoves.{IsCallOf}
use Rattle.route_laws.proofs.hand.ReadRoutes.{HasRoute, is_served_here}
use Rattle.route_laws.proofs.hand.Routes.{leader-here, leader-number}
use Rattle.route_laws.proofs.hand.Served.{IsAtLeader, at-leader}
use Rattle.route_laws.proofs.served.Noting.{ServesAndNotes, serves-at-leader}
use Rattle.route_laws.proofs.served.Replies.{IsAtWork}

module _ (script : Script) (v : World) (s : Step) (asked : Asked) (rest : List Held) (b : Beside)
    (holds : HoldsAt script v 1 s (Request asked ∷ rest) b) (at : IsAtWork script (world_after v 1 s) 1)
    (asks : IsCallOf script asked) (few : HasFewNodes script) (watches : WatchesAsOwner s.node) (name : Name)
    (on : home_of asked.pid asked.call ≡ homes.At name)
    (place : place_of (directory_of (world_after v 1 s)) name ≡ Some (At 1)) where
  abbrev w : World
  w = world_after v 1 s

  abbrev d : Directory
  d = directory_of w

  table : IsAtLeader w b name
  table = at-leader script w (Request asked ∷ rest) b name holds place

  serves : ServesAndNotes script v 1 s asked rest b name
  serves = serves-at-leader script v s asked rest b holds at asks name on table.deed_is few watches place

  here : node_of w 1 ≡ s.node
  here = leader-here script v s asked rest b holds asks

  served-route : route_call script s asked ≡ Some serves.next
  served-route =
      ap (route_home script s asked) on
      ∙ ap (λ (m : Node). routing.route_by script s name asked (route m.leader.directory name)) (sym here)
      ∙ ap (λ o. routing.route_by script s name asked (route_by o (maker_stays d (maker d name)) (maker d name))) place
      ∙ ap (λ t. if t then serve_asked script s name asked else Some (forward s 1 asked))
      (eq-eqb 1 s.node.number (sym (leader-number script v s asked rest b holds asks)))
      ∙ serves.is

  -- The call is served, and the name moves to one who has read it often.
  pub route-to-leader : HasRoute script v s asked rest b
  route-to-leader =
      let moved : IsMoved b.call (serves.beside).call asked.caller (IsServedPlace s.node asked) = serves.moved
      in record {
        beside = serves.beside;
        keeps = record { next = serves.next; is_route = served-route; holds = serves.holds };
        moved = record {
          place = moved.place;
          calls = moved.calls;
          fits = is_served_here name moved.fits (inl on)
              (ap (λ (m : Node). place_of m.leader.directory name) (sym here) ∙ place);
        };
      }
