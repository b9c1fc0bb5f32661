-- A call as others are asked for it, and whether it can be routed.
use Rattle.std.specs.Prelude.{ℕ, Bool, true, not, ◌||◌, nat_eq, if◌then◌else◌, Option, None}
use Rattle.pico_base.specs.declared.call.Call.{Call}
use Rattle.pico_base.specs.declared.numbers.Name.{Name}
use Rattle.pico_base.specs.declared.script.Script.{Script}
use Rattle.rpc_frame.specs.declared.asked.Asked.{Asked}
use Rattle.node_model.specs.declared.route.Route.{Route}
use Rattle.node_model.specs.declared.route.Route.TheVariants as routes
use Rattle.world_model.specs.Node.{Node, holds}
use Rattle.world_model.specs.Step.{Step}
use Rattle.world_model.specs.Routes.{route_call}

abbrev pub asked_by : ℕ → ℕ → ℕ → Call → Asked
asked_by caller ticket pid call = record { caller = caller; ticket = ticket; pid = pid; call = call }

-- where the name is at this node, its deed is held here
abbrev pub may_route_by : Node → Name → Route → Bool
may_route_by n name (routes.At node) = not (nat_eq node n.number) || holds n name
may_route_by n name _ = true

-- the call is routed where that is allowed
abbrev pub route_if : Bool → Script → Step → Asked → Option Step
route_if allowed script step asked = if allowed then route_call script step asked else None
