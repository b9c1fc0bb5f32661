-- Whether a parcel may be taken.
use Rattle.std.specs.Prelude.{ℕ, Bool, true, false, not, ◌&&◌, nat_eq, if◌then◌else◌}
use Rattle.std.specs.List.{list_any}
use Rattle.pico_base.specs.declared.numbers.Name.TheVariants.{Proc}
use Rattle.rpc_frame.specs.declared.deed.Parcel.{Parcel}
use Rattle.node_model.specs.declared.route.Route.{Route}
use Rattle.node_model.specs.declared.route.Route.TheVariants as routes
use Rattle.node_model.specs.Kinds.{Named, get_named}
use Rattle.node_model.specs.Leases.{leases_hold}
use Rattle.node_serve.specs.declared.body.Body.{Body}
use Rattle.node_serve.specs.Ending.{lets}
use Rattle.world_model.specs.Node.{Node}
use Rattle.world_model.specs.Calls.{is_from_leader}
use Rattle.world_model.specs.Ends.{names_in}

-- The end rule applies to a parcel that fits: the parent is at this node and lets the process end, or it is at another
-- one or on its way.
abbrev pub may_end_by : Named Body → ℕ → Parcel → Route → Bool
may_end_by bodies number parcel (routes.At node) =
    if nat_eq node number then lets parcel.pid (get_named bodies (Proc parcel.parent)) else true
may_end_by bodies number parcel routes.Coming = true
may_end_by bodies number parcel (routes.Range node) = false
may_end_by bodies number parcel routes.Nobody = false

-- the exit comes from the leader, and no number of the parcel is still to be given here
abbrev pub may_take_exit : Node → ℕ → Parcel → Bool
may_take_exit n from parcel = is_from_leader n from && not (list_any (leases_hold n.leases) (names_in parcel))
