-- What nodes did, as logs that lead to a world, and one event more of that world: it is one turn more at the end of its
-- node's log. So events that come when all logs are there may be logged behind them.
use Rattle.std.specs.Prelude.{◌≡◌, ℕ, ◌+◌, ◌<◌, nat_eq, if◌then◌else◌, true, List, [], ◌∷◌, ◌++◌, map, Some}
use Rattle.std.specs.List.{AllByRecursion}
use Rattle.pico_base.specs.declared.script.Script.{Script}
use Rattle.pico_base.specs.declared.script.Event.{Event}
use Rattle.rpc_frame.specs.declared.frame.Frame.{Frame}
use Rattle.world_model.specs.Node.{Node}
use Rattle.world_model.specs.World.{IsNode, World, node_at, stream, step, is_enabled}
use Rattle.world_model.specs.Run.{IsRunOf}
use Rattle.world_model.specs.Schedule.{node_of}
use Rattle.log_laws.specs.Logs.{StampedFrame, frame_of, Input, Runs, Takes, Log, turn_on, AreConsistent}
use Rattle.log_laws.specs.Merge.{NodeTurn, IsMerge, event_of, events_of, entries_of}
use Rattle.log_laws.specs.Journal.{JournalEntry, entered, IsJournalOf}
use Rattle.log_laws.specs.EventLogs.{event_item}

-- ---- logs that lead to a world

-- The logs are consistent, these turns are their merge, and the turns' events lead to the world: there each node is the
-- last of its log, on each stream are the frames that no log took, and the journal is what the turns entered.
pub record IsRunOfLogs (script : Script) (logs : ℕ → Log) (turns : List NodeTurn) (w : World) : Type 0 where
  pub last : ℕ → Node
  pub untaken : ℕ → ℕ → List StampedFrame
  pub consistent : AreConsistent script logs last untaken
  pub merge : IsMerge script logs turns
  pub runs : IsRunOf script (events_of turns) w
  pub node : (p : ℕ) → IsNode script p → node_at w p ≡ Some (last p)
  pub stream_is : (p q : ℕ) → IsNode script p → IsNode script q → stream w p q ≡ map frame_of (untaken p q)
  pub journal : w.journal ≡ entries_of turns

-- the world to which the events of a merge of consistent logs lead
abbrev pub LogsLeadThere : Type 0
LogsLeadThere =
    (script : Script) (logs : ℕ → Log) (last : ℕ → Node) (untaken : ℕ → ℕ → List StampedFrame) (turns : List NodeTurn)
    (w : World) → AreConsistent script logs last untaken → IsMerge script logs turns
    → IsRunOf script (events_of turns) w → IsRunOfLogs script logs turns w

-- ---- a turn of that world

-- the frame stands first in the stream to a node from another
pub record StandsFirst (script : Script) (w : World) (p from : ℕ) (frame : Frame) : Type 0 where
  pub sender : IsNode script from
  pub rest : List Frame
  pub first : stream w p from ≡ frame ∷ rest

-- what a turn takes in is there: nothing is needed where the node's process starts a call
abbrev pub IsThere : Script → World → ℕ → Input → Type 0
IsThere script w p Runs = Unit {0}
IsThere script w p (Takes from taken) = StandsFirst script w p from taken.frame

-- the event as a turn: the machine's turn on the node as it stands in the world
pub record IsTurnOf (script : Script) (w : World) (e : Event) (t : NodeTurn) : Type 0 where
  pub event : event_of t ≡ e
  pub is_node : IsNode script t.node
  pub node : Node
  pub here : node_at w t.node ≡ Some node
  pub there : IsThere script w t.node t.turn.input
  pub turns : turn_on script node t.turn.input ≡ Some t.turn.step

-- the frames that it sends go to nodes of the script
abbrev pub SendsToNodes : Script → World → Event → Type 0
SendsToNodes script w e =
    (t : NodeTurn) → IsTurnOf script w e t → AllByRecursion (λ s. IsNode script s.0) t.turn.step.sends

-- ---- one turn more

-- the logs with this turn behind its node's
abbrev pub logs_after : (ℕ → Log) → NodeTurn → ℕ → Log
logs_after logs t p = if nat_eq t.node p then logs p ++ t.turn ∷ [] else logs p

-- all stamps are below this one
abbrev pub AreBelow : ℕ → List NodeTurn → Type 0
AreBelow stamp turns = AllByRecursion (λ t. t.turn.stamp < stamp) turns

-- The event is a turn with this stamp. With it behind its node's log the logs lead to the next world, whose journal has
-- the turn's entries behind those that were there.
pub record TurnFollows (script : Script) (logs : ℕ → Log) (turns : List NodeTurn) (w : World) (e : Event)
    (next : World) (stamp : ℕ) : Type 0 where
  pub turn : NodeTurn
  pub made : IsTurnOf script w e turn
  pub item : event_item turn ≡ record { stamp = stamp; node = node_of e; item = e }
  pub stamped : turn.turn.stamp ≡ stamp
  pub node : turn.node ≡ node_of e
  pub entries : next.journal ≡ w.journal ++ turn.turn.step.entries
  pub below : AreBelow (stamp + 1) (turns ++ turn ∷ [])
  pub run : IsRunOfLogs script (logs_after logs turn) (turns ++ turn ∷ []) next

-- An event that is enabled where logs lead to, under a stamp above all others, follows them.
abbrev pub EventsFollow : Type 0
EventsFollow =
    (script : Script) (logs : ℕ → Log) (turns : List NodeTurn) (w : World) (e : Event) (next : World) (stamp : ℕ)
    → IsRunOfLogs script logs turns w → is_enabled w e ≡ true → step w e ≡ Some next → SendsToNodes script w e
    → AreBelow stamp turns → TurnFollows script logs turns w e next stamp

-- Its entries are entered behind the others, under its stamp and its node.
abbrev pub JournalsFollow : Type 0
JournalsFollow =
    (script : Script) (logs : ℕ → Log) (turns : List NodeTurn) (journal : List JournalEntry) (t : NodeTurn)
    → IsMerge script logs turns → IsJournalOf script logs journal → IsNode script t.node
    → AreBelow t.turn.stamp turns → IsJournalOf script (logs_after logs t) (journal ++ entered t.node t.turn)
