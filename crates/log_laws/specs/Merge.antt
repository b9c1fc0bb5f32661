-- The merge of the logs of a script's nodes: all their turns, by stamp, and by node where stamps are equal.
use Rattle.std.specs.Prelude.{ℕ, zero, suc, List, [], ◌∷◌, map}
use Rattle.std.specs.List.{flat_map, AllByRecursion}
use Rattle.pico_base.specs.declared.script.Script.{Script}
use Rattle.pico_base.specs.declared.script.Event.{Event}
use Rattle.pico_base.specs.declared.script.Event.TheVariants as events
use Rattle.pico_base.specs.declared.reply.Entry.{Entry}
use Rattle.stamp_merge.specs.declared.Stamped.{Stamped}
use Rattle.stamp_merge.specs.Merge as stamps
use Rattle.world_model.specs.World.{node_count}
use Rattle.log_laws.specs.Logs.{Input, Runs, Takes, Logged, Log, item_of, items_in}

-- what `stamp_merge` asks for: in each log the stamps rise, and each is of another node
pub record MayMerge {T : Type 0} (logs : List (List (Stamped T))) : Type 0 where
  pub rise : AllByRecursion stamps.StampsRise logs
  pub own_nodes : stamps.HaveOwnNodes logs

-- the logs of so many nodes from this one on, by rising node
abbrev pub logs_from : ℕ → ℕ → (ℕ → Log) → List (List (Stamped Logged))
logs_from node zero logs = []
logs_from node (suc count) logs = items_in node (logs node) ∷ logs_from (suc node) count logs

-- the logs of the script's nodes
abbrev pub logs_of : Script → (ℕ → Log) → List (List (Stamped Logged))
logs_of script logs = logs_from 1 (node_count script) logs

-- ---- their turns

-- a turn and the node that made it
pub record NodeTurn : Type 0 where
  pub node : ℕ
  pub turn : Logged

-- as an item of its node's log
abbrev pub turn_item : NodeTurn → Stamped Logged
turn_item t = item_of t.node t.turn

-- the turn that an item is
abbrev pub turn_of : Stamped Logged → NodeTurn
turn_of e = record { node = e.node; turn = e.item }

-- the turns of the nodes' logs, as `stamp_merge` merges them
abbrev pub IsMerge : Script → (ℕ → Log) → List NodeTurn → Type 0
IsMerge script logs turns = stamps.IsMerge (logs_of script logs) (map turn_item turns)

-- ---- what comes of them

-- the machine's event of a turn
abbrev pub event_at : ℕ → Input → Event
event_at p Runs = events.Run p
event_at p (Takes from taken) = events.Take p from

abbrev pub event_of : NodeTurn → Event
event_of t = event_at t.node t.turn.input

abbrev pub events_of : List NodeTurn → List Event
events_of turns = map event_of turns

-- the entries that the turns made, in order
abbrev pub entries_of : List NodeTurn → List Entry
entries_of turns = flat_map (λ t. t.turn.step.entries) turns
