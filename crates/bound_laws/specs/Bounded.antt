-- What each world of a run has, with no thought of who owns what: numbers of nodes are those of nodes of the script,
-- and tables stand by rising number. It holds in the middle of an event, too, while the leader has calls and parcels in
-- hand.
use Rattle.std.specs.Prelude.{◌≡◌, ◌≤◌, ℕ, Bool, List, [], Option, Some, None, Ok}
use Rattle.std.specs.List.{AllByRecursion}
use Rattle.pico_base.specs.declared.call.Call.TheVariants as calls
use Rattle.pico_base.specs.declared.numbers.Kind.{Kind}
use Rattle.pico_base.specs.declared.numbers.Name.{Name}
use Rattle.pico_base.specs.declared.script.Script.{Script}
use Rattle.rpc_frame.specs.declared.frame.Frame.{Frame}
use Rattle.rpc_frame.specs.declared.frame.Frame.TheVariants as frames
use Rattle.number_maps.specs.Rising.{IsRising}
use Rattle.kernel_model.specs.SemaphoreSet.{SemaphoreSet, new_set}
use Rattle.node_model.specs.declared.held.Held.{Held}
use Rattle.node_model.specs.declared.held.Held.TheVariants.{Request, Ending}
use Rattle.node_model.specs.Bodies.{Body, Deeds, waiters_of}
use Rattle.node_model.specs.Directory.{Directory, Place, At, Coming, place_of}
use Rattle.node_model.specs.Kinds.{Named, for_kind, get_named}
use Rattle.world_model.specs.Node.{Node}
use Rattle.world_model.specs.Step.{Step}
use Rattle.world_model.specs.World.{IsNode, World, node_count}
use Rattle.world_laws.specs.Invariant.{IsShaped}
use Rattle.world_laws.specs.Sights.{node_of, frames_to}
use Rattle.route_laws.specs.Watching.{AreWatchesOf}

-- a map from names stands by rising number, kind by kind
pub record AllRise {V : Type 0} (m : Named V) : Type 0 where
  pub processes : IsRising m.processes
  pub queues : IsRising m.queues
  pub sets : IsRising m.sets

-- ---- what a node has

-- whoever waits at a queue or a set that is held waits with a call of a node
abbrev pub WaitersAreOfNodes : Script → Body → Type 0
WaitersAreOfNodes script body = AllByRecursion (λ w. IsNode script w.caller) (waiters_of body)

abbrev pub HeldNamesNodes : Script → Option Body → Type 0
HeldNamesNodes script None = Unit {0}
HeldNamesNodes script (Some body) = WaitersAreOfNodes script body

pub record DeedsAreBounded (script : Script) (deeds : Deeds) : Type 0 where
  pub rise : AllRise deeds
  pub waiters : (name : Name) → HeldNamesNodes script (get_named deeds name)

-- a call, or the withdrawal of one, is of a node; a parcel says nothing of nodes
abbrev pub ItemIsOfNode : Script → Held → Type 0
ItemIsOfNode script (Request asked) = IsNode script asked.caller
ItemIsOfNode script (Ending parcel) = Unit {0}

abbrev pub ItemsAreOfNodes : Script → List Held → Type 0
ItemsAreOfNodes script items = AllByRecursion (ItemIsOfNode script) items

abbrev pub LeadsToNode : Script → Option ℕ → Type 0
LeadsToNode script None = Unit {0}
LeadsToNode script (Some to) = IsNode script to

-- a name is at a node, or is bound for one, and the calls that are held for it are of nodes
abbrev pub PlaceNamesNodes : Script → Option Place → Type 0
PlaceNamesNodes script None = Unit {0}
PlaceNamesNodes script (Some (At node)) = IsNode script node
PlaceNamesNodes script (Some (Coming to items)) = LeadsToNode script to × ItemsAreOfNodes script items

pub record NamesNodes (script : Script) (d : Directory) : Type 0 where
  pub places : (name : Name) → PlaceNamesNodes script (place_of d name)
  pub ranges : (kind : Kind) → AllByRecursion (IsNode script) (for_kind d.ranges kind)

pub record NodeIsBounded (script : Script) (n : Node) : Type 0 where
  pub number : IsNode script n.number
  pub parent_node : IsNode script n.parent_node
  -- the fork under way is of a block of the script, and a set that is asked for without a key has a size that there is
  pub fork : (block : ℕ) → n.caller.under_way ≡ Some (calls.Fork block) → IsNode script block
  pub size : (count : ℕ) (create excl : Bool) → n.caller.under_way ≡ Some (calls.SemGet None count create excl)
      → (set : SemaphoreSet) × (new_set count ≡ Ok set)
  pub deeds : DeedsAreBounded script n.deeds
  -- the node owns what it watches
  pub watches : AreWatchesOf n.number n.watches
  pub cache : AllByRecursion (λ e. IsNode script e.1) n.cache
  pub directory : NamesNodes script n.leader.directory
  pub queue_keys : IsRising n.leader.queue_keys
  pub set_keys : IsRising n.leader.set_keys

-- ---- what is on its way

-- what a frame says of nodes is of nodes of the script
abbrev pub FrameNamesNodes : Script → Frame → Type 0
FrameNamesNodes script (frames.Forward asked) = IsNode script asked.caller
FrameNamesNodes script (frames.Bounce asked) = IsNode script asked.caller
FrameNamesNodes script (frames.Placed name node) = IsNode script node
FrameNamesNodes script (frames.Suggest name node) = IsNode script node
FrameNamesNodes script (frames.Leaving pid parent parent_node) = IsNode script parent_node
FrameNamesNodes script (frames.Cancel asked) = IsNode script asked.caller
FrameNamesNodes script frame = Unit {0}

-- from a node, and to one
pub record FrameIsBounded (script : Script) (to sender : ℕ) (frame : Frame) : Type 0 where
  pub receiver : IsNode script to
  pub sender_is : IsNode script sender
  pub says : FrameNamesNodes script frame

-- ---- a step, and a world

pub record SendIsBounded (script : Script) (to_and_frame : ℕ × Frame) : Type 0 where
  pub receiver : IsNode script to_and_frame.0
  pub says : FrameNamesNodes script to_and_frame.1

pub record StepIsBounded (script : Script) (s : Step) : Type 0 where
  pub node : NodeIsBounded script s.node
  pub sends : AllByRecursion (SendIsBounded script) s.sends

pub record IsBounded (script : Script) (w : World) (hand : List Held) : Type 0 where
  pub nodes : (p : ℕ) → 1 ≤ p → p ≤ node_count script → NodeIsBounded script (node_of w p)
  pub streams : (to sender : ℕ) → AllByRecursion (FrameIsBounded script to sender) (frames_to w to sender)
  pub in_hand : ItemsAreOfNodes script hand

-- a node for each block, a stream for each pair of nodes, and bounds: each step keeps these by themselves
pub record IsShapedAndBounded (script : Script) (w : World) : Type 0 where
  pub shape : IsShaped script w
  pub bounded : IsBounded script w []

-- A step of the leader in the middle of its event, with this in hand, is good: it is bounded, and so is the world that
-- the event began with, without the frame that was taken.
pub record IsGood (script : Script) (v : World) (s : Step) (hand : List Held) : Type 0 where
  pub shape : IsShaped script v
  pub bounded : IsBounded script v []
  pub step_is : StepIsBounded script s
  pub items : ItemsAreOfNodes script hand
