-- Each node's log: the turns that it made, in its order, each with a stamp. When the logs of all nodes agree about the
-- frames that went between them they are consistent.
use Rattle.std.specs.Prelude.{◌≡◌, ℕ, ◌<◌, Bool, true, false, ◌||◌, nat_eq, if◌then◌else◌, List, [], ◌∷◌, ◌++◌, map, Option, Some, None}
use Rattle.std.specs.List.{flat_map, AllByRecursion}
use Rattle.pico_base.specs.declared.script.Script.{Script}
use Rattle.rpc_frame.specs.declared.frame.Frame.{Frame}
use Rattle.stamp_merge.specs.declared.Stamped.{Stamped}
use Rattle.stamp_merge.specs.Merge.{StampsRise}
use Rattle.world_model.specs.Node.{Node, opening_node, is_born, can_run}
use Rattle.world_model.specs.Step.{Step}
use Rattle.world_model.specs.Starting.{run}
use Rattle.world_model.specs.Turn.{take_frame}
use Rattle.world_model.specs.World.{IsNode, is_checkpoint}

-- a frame with the stamp of the event that sent it
pub record StampedFrame : Type 0 where
  pub stamp : ℕ
  pub frame : Frame

abbrev pub frame_of : StampedFrame → Frame
frame_of stamped = stamped.frame

-- what a turn takes in: nothing where the node's process starts a call, or a frame from another node
pub data Input : Type 0 where
  Runs : Input
  Takes : ℕ → StampedFrame → Input

-- a turn as the log has it: its stamp, what it took in, and what it did
pub record Logged : Type 0 where
  pub stamp : ℕ
  pub input : Input
  pub step : Step

abbrev pub Log : Type 0
Log = List Logged

-- a turn as an item of its node's log
abbrev pub item_of : ℕ → Logged → Stamped Logged
item_of node turn = record { stamp = turn.stamp; node = node; item = turn }

-- the turns of a node, each with its stamp and the node
abbrev pub items_in : ℕ → Log → List (Stamped Logged)
items_in node log = map (item_of node) log

-- the machine's turn, where the event is enabled
abbrev pub turn_on : Script → Node → Input → Option Step
turn_on script n Runs = if can_run n then run script n else None
turn_on script n (Takes from taken) =
    if is_born n || is_checkpoint taken.frame then take_frame script n from taken.frame else None

-- the turn is the machine's, and the log goes on from the node that it leaves
pub record Makes (script : Script) (n : Node) (turn : Logged) (Rest : Node → Type 0) : Type 0 where
  pub turns : turn_on script n turn.input ≡ Some turn.step
  pub rest : Rest turn.step.node

-- from this node the log's turns lead to that one
abbrev pub LeadsTo : Script → Node → Log → Node → Type 0
LeadsTo script n [] last = n ≡ last
LeadsTo script n (turn ∷ log) last = Makes script n turn (λ next. LeadsTo script next log last)

-- ---- the frames of a log

abbrev pub frame_if : Bool → Frame → List Frame
frame_if true frame = frame ∷ []
frame_if false frame = []

-- the frames that a turn sends to a node, in order
abbrev pub sent_to : ℕ → List (ℕ × Frame) → List Frame
sent_to to sends = flat_map (λ s. frame_if (nat_eq s.0 to) s.1) sends

abbrev pub stamped : ℕ → Frame → StampedFrame
stamped stamp frame = record { stamp = stamp; frame = frame }

abbrev pub sends_of : ℕ → Logged → List StampedFrame
sends_of to turn = map (stamped turn.stamp) (sent_to to turn.step.sends)

-- all that a log sends to a node, with the stamps of the events that sent it
abbrev pub sent_in : ℕ → Log → List StampedFrame
sent_in to log = flat_map (sends_of to) log

abbrev pub taken_if : Bool → StampedFrame → List StampedFrame
taken_if b taken = if b then taken ∷ [] else []

abbrev pub takes_of : ℕ → Input → List StampedFrame
takes_of from Runs = []
takes_of from (Takes sender taken) = taken_if (nat_eq sender from) taken

-- all that a log takes from a node, with the stamps that it found on it
abbrev pub taken_in : ℕ → Log → List StampedFrame
taken_in from log = flat_map (λ turn. takes_of from turn.input) log

-- ---- consistent logs

-- what is taken comes from a node of the script, and was sent by an event with a lower stamp
abbrev pub IsTakenLater : Script → ℕ → Input → Type 0
IsTakenLater script stamp Runs = Unit {0}
IsTakenLater script stamp (Takes from taken) = IsNode script from × (taken.stamp < stamp)

-- frames go between nodes of the script, each later than it was sent
pub record GoesBetween (script : Script) (turn : Logged) : Type 0 where
  pub taken : IsTakenLater script turn.stamp turn.input
  pub sent : AllByRecursion (λ s. IsNode script s.0) turn.step.sends

-- The log of each node is the machine's from the opening node on, with rising stamps. What a node took from another,
-- with what is still on its way, is what that one sent to it. `last` are the nodes afterwards, and `untaken` is what is
-- on its way, to a node from another.
pub record AreConsistent (script : Script) (logs : ℕ → Log) (last : ℕ → Node)
    (untaken : ℕ → ℕ → List StampedFrame) : Type 0 where
  pub rise : (p : ℕ) → IsNode script p → StampsRise (items_in p (logs p))
  pub leads : (p : ℕ) → IsNode script p → LeadsTo script (opening_node p) (logs p) (last p)
  pub streams : (p q : ℕ) → IsNode script p → IsNode script q
      → taken_in q (logs p) ++ untaken p q ≡ sent_in p (logs q)
  pub between : (p : ℕ) → IsNode script p → AllByRecursion (GoesBetween script) (logs p)
