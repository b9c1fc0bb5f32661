-- The leader sends a call to where it can be carried out, or holds it until the name has come.
use Rattle.std.specs.Prelude.{ℕ, Bool, true, false, nat_eq, if◌then◌else◌, Option, Some, None}
use Rattle.std.specs.Option.{option_map}
use Rattle.pico_base.specs.declared.call.Home.{Home}
use Rattle.pico_base.specs.declared.call.Home.TheVariants as homes
use Rattle.pico_base.specs.declared.numbers.Name.{Name}
use Rattle.pico_base.specs.declared.script.Script.{Script}
use Rattle.pico_base.specs.Home.{home_of}
use Rattle.rpc_frame.specs.declared.asked.Asked.{Asked}
use Rattle.rpc_frame.specs.declared.frame.Frame.TheVariants as frames
use Rattle.waiting_model.specs.Calls.{withdrawn_from}
use Rattle.node_model.specs.declared.held.Held.{Held}
use Rattle.node_model.specs.declared.held.Held.TheVariants.{Request}
use Rattle.node_model.specs.declared.route.Route.{Route}
use Rattle.node_model.specs.declared.route.Route.TheVariants as routes
use Rattle.node_model.specs.Kinds.{get_named}
use Rattle.node_model.specs.Directory.{Directory, route, recall, hold}
use Rattle.node_model.specs.Bodies.{Body, Removed}
use Rattle.world_model.specs.Node.{Leader}
use Rattle.world_model.specs.Step.{Step, with_node, with_leader, with_directory, send}
use Rattle.world_model.specs.Serving.{serve_asked, serve_nobody, withdraw_here}
use Rattle.world_model.specs.Keys.{without_key, get_by_key}

abbrev pub hold_item : Step → Name → Held → Step
hold_item step name item = with_node step (with_directory step.node (hold step.node.leader.directory name item))

-- the name's deed is asked back from its owner, and goes to this node then, if to one
abbrev pub recall_from : Step → Name → Option ℕ → ℕ → Step
recall_from step name to owner =
    send (with_node step (with_directory step.node (recall step.node.leader.directory name to))) owner
    (frames.Recall name)

-- a removal at another node waits until the name's deed has come
abbrev pub recall_and_hold : Step → Name → Held → ℕ → Step
recall_and_hold step name item owner =
    let d : Directory = hold (recall step.node.leader.directory name None) name item
    in send (with_node step (with_directory step.node d)) owner (frames.Recall name)

-- whether a name with this body was removed already
abbrev pub was_removed : Option Body → Bool
was_removed (Some Removed) = true
was_removed body = false

-- No key leads to a name once it is removed. A removal of what was removed already is refused, and the keys stay.
abbrev pub keys_after : Bool → Leader → Name → Leader
keys_after true l name = l
keys_after false l name = without_key l name

abbrev pub unbind_name : Bool → Name → Step → Step
unbind_name refused name step = with_node step (with_leader step.node (keys_after refused step.node.leader name))

abbrev pub forward : Step → ℕ → Asked → Step
forward step to asked = send step to (frames.Forward asked)

abbrev pub route_by : Script → Step → Name → Asked → Route → Option Step
route_by script step name asked (routes.At node) =
    if nat_eq node step.node.number then serve_asked script step name asked else Some (forward step node asked)
route_by script step name asked routes.Coming = Some (hold_item step name (Request asked))
route_by script step name asked (routes.Range node) = Some (forward step node asked)
route_by script step name asked routes.Nobody = Some (serve_nobody script step name asked)

-- a removal of a name that is at this node
abbrev pub remove_here : Script → Step → Name → Asked → Option Step
remove_here script step name asked =
    option_map (unbind_name (was_removed (get_named step.node.deeds name)) name) (serve_asked script step name asked)

-- a removal is carried out by the leader alone
abbrev pub remove_by : Script → Step → Name → Asked → Route → Option Step
remove_by script step name asked (routes.At node) =
    if nat_eq node step.node.number
    then remove_here script step name asked
    else Some (recall_and_hold step name (Request asked) node)
remove_by script step name asked elsewhere = route_by script step name asked elsewhere

abbrev pub route_home : Script → Step → Asked → Home → Option Step
route_home script step asked homes.Own = None
route_home script step asked homes.Keys = get_by_key script step asked asked.call
route_home script step asked (homes.At name) = route_by script step name asked (route step.node.leader.directory name)
route_home script step asked (homes.Removal name) =
    remove_by script step name asked (route step.node.leader.directory name)
route_home script step asked homes.Parent = None

-- the route rule
abbrev pub route_call : Script → Step → Asked → Option Step
route_call script step asked = route_home script step asked (home_of asked.pid asked.call)

-- ---- withdrawals

abbrev pub cancel : Step → ℕ → Asked → Step
cancel step to asked = send step to (frames.Cancel asked)

-- A withdrawal goes the way of its call, which is in front of it. Where the name is nobody's, the call has its reply,
-- or goes to a node that leaves and doesn't wait there.
abbrev pub cancel_by : Script → Step → Name → Asked → Route → Step
cancel_by script step name asked (routes.At node) =
    if nat_eq node step.node.number then withdraw_here script step name asked else cancel step node asked
cancel_by script step name asked routes.Coming = hold_item step name (Request asked)
cancel_by script step name asked (routes.Range node) = cancel step node asked
cancel_by script step name asked routes.Nobody = step

abbrev pub route_cancel : Script → Step → Name → Asked → Step
route_cancel script step name asked = cancel_by script step name asked (route step.node.leader.directory name)

-- what the leader held: a call, or the end of a wait
abbrev pub route_held_by : Script → Step → Asked → Option Name → Option Step
route_held_by script step asked None = route_call script step asked
route_held_by script step asked (Some name) = Some (route_cancel script step name asked)

abbrev pub route_held : Script → Step → Asked → Option Step
route_held script step asked = route_held_by script step asked (withdrawn_from asked.call)
