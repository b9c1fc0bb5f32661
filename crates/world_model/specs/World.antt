-- A world: the nodes of a script, the frames on the way between them, and the journal of what they carried out.
use Rattle.std.specs.Prelude.{ℕ, zero, suc, ◌+◌, ◌-◌, ◌≤◌, Bool, true, false, ◌&&◌, ◌||◌, nat_lt, List, [], ◌∷◌, ◌++◌, length, map, replicate, set, get_or, slice_get, fold, Option, Some, None}
use Rattle.pico_base.specs.declared.script.Script.{Script}
use Rattle.pico_base.specs.declared.script.Event.{Event}
use Rattle.pico_base.specs.declared.script.Event.TheVariants as events
use Rattle.pico_base.specs.declared.reply.Entry.{Entry}
use Rattle.rpc_frame.specs.declared.frame.Frame.{Frame}
use Rattle.rpc_frame.specs.declared.frame.Frame.TheVariants as frames
use Rattle.world_model.specs.Node.{Node, opening_node, is_born, can_run}
use Rattle.world_model.specs.Step.{Step}
use Rattle.world_model.specs.Starting.{run}
use Rattle.world_model.specs.Turn.{take_frame}

-- for each node a row of streams, one for each node that sends to it, each in the order of sending
abbrev pub Streams : Type 0
Streams = List (List (List Frame))

-- node k stands at place k - 1, and so do the streams to it and from it
pub record World : Type 0 where
  pub script : Script
  pub nodes : List Node
  pub streams : Streams
  pub journal : List Entry

-- so many numbers, from the first on
abbrev pub numbers : ℕ → ℕ → List ℕ
numbers first zero = []
numbers first (suc count) = first ∷ numbers (first + 1) count

-- how many nodes there are
abbrev pub node_count : Script → ℕ
node_count script = length script.blocks

-- the number of a node of the script
pub record IsNode (script : Script) (p : ℕ) : Type 0 where
  pub low : 1 ≤ p
  pub high : p ≤ node_count script

abbrev pub size : World → ℕ
size w = node_count w.script

-- node 1 is born with process 1, nothing is on its way, and nothing was carried out
abbrev pub opening_world : Script → World
opening_world script =
    record {
      script = script;
      nodes = map opening_node (numbers 1 (node_count script));
      streams = replicate (node_count script) (replicate (node_count script) []);
      journal = [];
    }

abbrev pub node_at : World → ℕ → Option Node
node_at w p = slice_get w.nodes (p - 1)

-- the frames on the way to one node from another
abbrev pub stream_in : Streams → ℕ → ℕ → List Frame
stream_in streams to from = get_or (get_or streams (to - 1) []) (from - 1) []

abbrev pub stream : World → ℕ → ℕ → List Frame
stream w to from = stream_in w.streams to from

abbrev pub with_stream : Streams → ℕ → ℕ → List Frame → Streams
with_stream streams to from frames_left =
    set streams (to - 1) (set (get_or streams (to - 1) []) (from - 1) frames_left)

-- each frame that a node sends goes to the end of the stream to its receiver
abbrev pub with_sent : ℕ → Streams → ℕ × Frame → Streams
with_sent from streams sent = with_stream streams sent.0 from (stream_in streams sent.0 from ++ sent.1 ∷ [])

abbrev pub with_all_sent : ℕ → Streams → List (ℕ × Frame) → Streams
with_all_sent from streams sends = fold (with_sent from) streams sends

-- the world after a node's step
abbrev pub world_after : World → ℕ → Step → World
world_after w p taken_step =
    record w {
      nodes = set w.nodes (p - 1) taken_step.node;
      streams = with_all_sent p w.streams taken_step.sends;
      journal = w.journal ++ taken_step.entries;
    }

abbrev pub after_turn : World → ℕ → Option Step → Option World
after_turn w p None = None
after_turn w p (Some taken_step) = Some (world_after w p taken_step)

-- an event: a node starts its next call, or takes the first frame of a stream to it

abbrev pub runs_at : World → ℕ → Option Node → Option World
runs_at w p None = None
runs_at w p (Some n) = after_turn w p (run w.script n)

-- a frame is taken by this rule
abbrev pub takes_with : (Script → Node → ℕ → Frame → Option Step) → World → ℕ → ℕ → Option Node → List Frame
    → Option World
takes_with rule w p from None frames_there = None
takes_with rule w p from (Some n) [] = None
takes_with rule w p from (Some n) (frame ∷ frames_left) =
    after_turn (record w { streams = with_stream w.streams p from frames_left }) p (rule w.script n from frame)

abbrev pub takes_at : World → ℕ → ℕ → Option Node → List Frame → Option World
takes_at w p from n frames_there = takes_with take_frame w p from n frames_there

abbrev pub step : World → Event → Option World
step w (events.Run p) = runs_at w p (node_at w p)
step w (events.Take p from) = takes_at w p from (node_at w p) (stream w p from)

-- Which events are enabled. A node that isn't born takes a Checkpoint alone.

abbrev pub is_checkpoint : Frame → Bool
is_checkpoint (frames.Checkpoint pid parent deed vars) = true
is_checkpoint frame = false

abbrev pub is_run_enabled : Option Node → Bool
is_run_enabled None = false
is_run_enabled (Some n) = can_run n

abbrev pub is_take_enabled : Option Node → List Frame → Bool
is_take_enabled None frames_there = false
is_take_enabled (Some n) [] = false
is_take_enabled (Some n) (frame ∷ frames_left) = is_born n || is_checkpoint frame

-- the number of a node is at least 1
abbrev pub is_number : ℕ → Bool
is_number p = nat_lt 0 p

abbrev pub is_enabled : World → Event → Bool
is_enabled w (events.Run p) = is_number p && is_run_enabled (node_at w p)
is_enabled w (events.Take p from) = is_number p && is_number from && is_take_enabled (node_at w p) (stream w p from)
