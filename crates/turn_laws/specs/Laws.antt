-- What a node's turn does in a world that a run of a sound script leads to. A node that makes its turns in a thread of
-- its own sees only itself and the frame that it takes; what it can't see is said here.
use Rattle.std.specs.Prelude.{◌≡◌, ◌≢◌, ◌≤◌, ℕ, Bool, true, false, ◌||◌, List, ◌∷◌, length, Some, IsSome}
use Rattle.std.specs.List.{AllByRecursion}
use Rattle.pico_base.specs.declared.script.Event.{Event}
use Rattle.pico_base.specs.declared.script.Script.{Script}
use Rattle.rpc_frame.specs.declared.frame.Frame.{Frame}
use Rattle.frame_bytes.specs.Limits.{IsWithinLimits}
use Rattle.kernel_model.specs.Script.{IsSoundScript}
use Rattle.world_model.specs.Lives.{is_forked_by}
use Rattle.world_model.specs.Node.{Node, is_born, can_run}
use Rattle.world_model.specs.Run.{IsReachableWorld, IsRunOf}
use Rattle.world_model.specs.Step.{Step}
use Rattle.world_model.specs.World.{IsNode, World, is_checkpoint, node_at, stream}
use Rattle.log_laws.specs.Logs.{Input, Runs, Takes, turn_on}
use Rattle.log_laws.specs.Follows.{IsThere}

-- ---- a turn of a node of a world

-- a run leads to the world, node p of it stands as n, and what the turn takes in is there
pub record IsTurnIn (script : Script) (w : World) (p : ℕ) (n : Node) (input : Input) : Type 0 where
  pub reachable : IsReachableWorld script w
  pub is_node : IsNode script p
  pub node : node_at w p ≡ Some n
  pub there : IsThere script w p input

-- ---- what it sends

-- to another node of the script, a frame within the limits of frames
pub record GoesToAnother (script : Script) (p : ℕ) (to_and_frame : ℕ × Frame) : Type 0 where
  pub receiver : IsNode script to_and_frame.0
  pub other : to_and_frame.0 ≢ p
  pub within : IsWithinLimits to_and_frame.1

-- A turn sends frames to other nodes, each within the limits.
abbrev pub SendsGoToOthers : Type 0
SendsGoToOthers =
    (script : Script) (w : World) (p : ℕ) (n : Node) (input : Input) (s : Step) → IsSoundScript script
    → IsTurnIn script w p n input → turn_on script n input ≡ Some s → AllByRecursion (GoesToAnother script p) s.sends

-- ---- whether there is one

-- the node's process can start a call; or the node is born, or takes a Checkpoint
abbrev pub may_turn : Node → Input → Bool
may_turn n Runs = can_run n
may_turn n (Takes from taken) = is_born n || is_checkpoint taken.frame

-- Where the event is enabled, the node has a rule for it.
abbrev pub EnabledTurnsHaveSteps : Type 0
EnabledTurnsHaveSteps =
    (script : Script) (w : World) (p : ℕ) (n : Node) (input : Input) → IsSoundScript script
    → IsTurnIn script w p n input → may_turn n input ≡ true → IsSome (turn_on script n input)

-- ---- birth

-- What the node whose block forks another sends that one first is its Checkpoint.
abbrev pub UnbornTakeTheirCheckpoint : Type 0
UnbornTakeTheirCheckpoint =
    (script : Script) (w : World) (p q : ℕ) (n : Node) (frame : Frame) (rest : List Frame) → IsSoundScript script
    → IsReachableWorld script w → IsNode script p → node_at w p ≡ Some n → is_born n ≡ false
    → is_forked_by script q p ≡ true → stream w p q ≡ frame ∷ rest → is_checkpoint frame ≡ true

-- ---- how many there are

-- at most 32 events for each of a script's calls
abbrev pub max_events : ℕ
max_events = 640000

abbrev pub RunsAreFew : Type 0
RunsAreFew =
    (script : Script) (events : List Event) (w : World) → IsSoundScript script → IsRunOf script events w
    → length events ≤ max_events
