-- What the route of a call in hand comes to: where the call is then, and that all holds.
use Rattle.std.proofs.Common.{◌≡◌, ◌≢◌, ℕ, List, Option, Some}
use Rattle.pico_base.specs.declared.call.Home.TheVariants as homes
use Rattle.pico_base.specs.declared.numbers.Name.{Name}
use Rattle.pico_base.specs.declared.script.Script.{Script}
use Rattle.pico_base.specs.Home.{home_of}
use Rattle.rpc_frame.specs.declared.asked.Asked.{Asked}
use Rattle.node_model.specs.declared.held.Held.{Held}
use Rattle.node_model.specs.declared.route.Route.TheVariants as routes
use Rattle.node_model.specs.Directory.{At, Coming, place_of, route}
use Rattle.world_model.specs.Node.{Node}
use Rattle.world_model.specs.Step.{Step}
use Rattle.world_model.specs.World.{World}
use Rattle.world_laws.specs.Places.{Beside, CallPlace, IsHeld, SentByPlace, SentByRange}
use Rattle.rule_laws.proofs.own.Moved.{IsCarriedOut, IsMoved}
use Rattle.route_laws.proofs.Owed.{IsServedPlace}
use Rattle.route_laws.proofs.hand.Routes.{IsOn, RouteKeeps}

-- Where a call is once it is routed: it is carried out, or served here; or on its way to the name's owner or to the
-- node that has its number's range; or held for the name, which comes or is asked back.
pub data PlaceFits (n : Node) (asked : Asked) (place : CallPlace) : Type 0 where
  is_carried_out : IsCarriedOut place → PlaceFits n asked place
  is_served_here : (name : Name) → IsServedPlace n asked place → IsOn name (home_of asked.pid asked.call)
      → place_of n.leader.directory name ≡ Some (At 1) → PlaceFits n asked place
  goes_to_owner : (name : Name) (node : ℕ) → place ≡ SentByPlace node → home_of asked.pid asked.call ≡ homes.At name
      → place_of n.leader.directory name ≡ Some (At node) → node ≢ 1 → PlaceFits n asked place
  goes_by_range : (name : Name) (node : ℕ) → place ≡ SentByRange node → IsOn name (home_of asked.pid asked.call)
      → route n.leader.directory name ≡ routes.Range node → PlaceFits n asked place
  is_held : (name : Name) (to : Option ℕ) (items : List Held) → place ≡ IsHeld name
      → IsOn name (home_of asked.pid asked.call) → place_of n.leader.directory name ≡ Some (Coming to items)
      → PlaceFits n asked place
  is_asked_back : (name : Name) (node : ℕ) → place ≡ IsHeld name → home_of asked.pid asked.call ≡ homes.Removal name
      → place_of n.leader.directory name ≡ Some (At node) → node ≢ 1 → PlaceFits n asked place

-- The call has a route that keeps all, with something beside the world: this call is in another place, which fits the
-- route, and some may be woken.
pub record HasRoute (script : Script) (v : World) (s : Step) (asked : Asked) (rest : List Held) (b : Beside) : Type 0
  where
    pub beside : Beside
    pub keeps : RouteKeeps script v s asked rest beside
    pub moved : IsMoved b.call beside.call asked.caller (PlaceFits s.node asked)
