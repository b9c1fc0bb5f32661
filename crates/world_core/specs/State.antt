-- What a state of the program stands for: a world, where none of its nodes is spent.
use Rattle.std.specs.Prelude.{◌≡◌, ℕ, ◌-◌, ◌<◌, ◌≤◌, List, [], ◌∷◌, length, map, set, get_or, Option, Some, None}
use Rattle.pico_base.specs.declared.script.Event.{Event}
use Rattle.rpc_frame.specs.declared.frame.Frame.{Frame}
use Rattle.world_model.specs.Node.{Node}
use Rattle.kernel_model.specs.Script.{IsSoundScript}
use Rattle.world_model.specs.World.{World, Streams, node_at, with_all_sent, after_turn, step}
use Rattle.world_model.specs.Run.{IsReachableWorld}
use Rattle.node_core.specs.declared.turn.Input.{Input}
use Rattle.node_core.specs.Step.{step_of}
use Rattle.world_core.specs.declared.state.State.{State}
use Rattle.pico_base.specs.declared.reply.Entry.{Entry}
use Rattle.world_core.specs.Behind.{behind}
use Rattle.world_core.specs.Counts.{counts_of}

-- the nodes that aren't spent
abbrev pub whole : List (Option Node) → List Node
whole [] = []
whole (None ∷ nodes) = whole nodes
whole (Some node ∷ nodes) = node ∷ whole nodes

abbrev pub AreWhole : List (Option Node) → Type 0
AreWhole nodes = nodes ≡ map Some (whole nodes)

abbrev pub world_of : State → World
world_of s = record {
  script = s.script;
  nodes = whole s.nodes.items;
  streams = s.inboxes.items;
  journal = s.made.entries;
}

-- each node has a stream from each
abbrev pub IsSquare : Streams → Type 0
IsSquare streams = (k : ℕ) → k < length streams → length (get_or streams k []) ≡ length streams

-- nodes that aren't spent, and what is on its way to each of them
pub record AreSeats (nodes : List (Option Node)) (streams : Streams) : Type 0 where
  pub whole : AreWhole nodes
  pub few : length nodes ≤ 32
  pub width : length streams ≡ length nodes
  pub square : IsSquare streams

-- The counts beside the nodes are how many events of each node may come next,
abbrev pub AreCounted : State → Type 0
AreCounted s = s.counts ≡ counts_of s.nodes.items s.inboxes.items

-- and whatever this node's is said to be, the others' are so.
abbrev pub OthersAreCounted : State → ℕ → Type 0
OthersAreCounted s p = (count : ℕ) → set s.counts (p - 1) count
    ≡ set (counts_of s.nodes.items s.inboxes.items) (p - 1) count

-- Frames of this node may go their ways: it is one of the nodes, none of which is spent, and the counts are right.
pub record MaySend (from : ℕ) (nodes : List (Option Node)) (streams : Streams) (counts : List ℕ) : Type 0 where
  pub seats : AreSeats nodes streams
  pub there : from ≤ length streams
  pub counted : counts ≡ counts_of nodes streams

-- Frames of this node have gone their ways: each stands in its stream behind those that were sent before, the counts
-- are right again, and none is left.
pub record HaveGone (from : ℕ) (nodes : List (Option Node)) (streams : Streams) (sends : List (ℕ × Frame))
    (next : Streams) (counts : List ℕ) (left : List (ℕ × Frame)) : Type 0 where
  pub sent : next ≡ with_all_sent from streams sends
  pub counted : counts ≡ counts_of nodes next
  pub emptied : left ≡ []

-- Runs of a sound script lead to it behind entries that were let go, and its counts are right.
pub record IsAlive (s : State) : Type 0 where
  pub counted : AreCounted s
  pub nodes : AreWhole s.nodes.items
  pub sound : IsSoundScript s.script
  pub told : List Entry
  pub reachable : IsReachableWorld s.script (behind told (world_of s))

-- the frames that the turn of a node made have gone their ways, and nodes, script and journal are as they were
pub record IsSent (s : State) (p : ℕ) (next : State) : Type 0 where
  pub counted : AreCounted next
  pub script : next.script ≡ s.script
  pub nodes : next.nodes ≡ s.nodes
  pub entries : next.made.entries ≡ s.made.entries
  pub streams : next.inboxes.items ≡ with_all_sent p s.inboxes.items s.made.sends

-- a node had its turn
pub record IsAfterTurn (s : State) (p : ℕ) (input : Input) (next : State) : Type 0 where
  pub counted : AreCounted next
  pub nodes : AreWhole next.nodes.items
  pub node : Node
  pub here : node_at (world_of s) p ≡ Some node
  pub taken : after_turn (world_of s) p (step_of s.script node input) ≡ Some (world_of next)

-- an event was carried out
pub record IsStep (s : State) (e : Event) (next : State) : Type 0 where
  pub counted : AreCounted next
  pub nodes : AreWhole next.nodes.items
  pub taken : step (world_of s) e ≡ Some (world_of next)
