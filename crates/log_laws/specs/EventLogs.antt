-- The logs of events that nodes keep while they make their turns, and the turns of which a merge of these logs is made.
use Rattle.std.specs.Prelude.{◌≡◌, ℕ, zero, suc, List, [], ◌∷◌, map}
use Rattle.pico_base.specs.declared.script.Script.{Script}
use Rattle.pico_base.specs.declared.script.Event.{Event}
use Rattle.stamp_merge.specs.declared.Stamped.{Stamped}
use Rattle.stamp_merge.specs.Merge as stamps
use Rattle.world_model.specs.World.{IsNode, node_count}
use Rattle.log_laws.specs.Logs.{Logged, Log, items_in}
use Rattle.log_laws.specs.Merge.{MayMerge, NodeTurn, IsMerge, event_at, events_of}

-- a turn's event as an item of its node's log
abbrev pub event_item_of : ℕ → Logged → Stamped Event
event_item_of node turn = record { stamp = turn.stamp; node = node; item = event_at node turn.input }

abbrev pub event_log : ℕ → Log → List (Stamped Event)
event_log node log = map (event_item_of node) log

-- the logs of so many nodes from this one on, by rising node
abbrev pub event_logs_from : ℕ → ℕ → (ℕ → Log) → List (List (Stamped Event))
event_logs_from node zero logs = []
event_logs_from node (suc count) logs = event_log node (logs node) ∷ event_logs_from (suc node) count logs

-- the logs of the script's nodes
abbrev pub event_logs_of : Script → (ℕ → Log) → List (List (Stamped Event))
event_logs_of script logs = event_logs_from 1 (node_count script) logs

-- ---- they may be merged

abbrev pub EventLogsMayMerge : Type 0
EventLogsMayMerge = (script : Script) (logs : ℕ → Log)
    → ((p : ℕ) → IsNode script p → stamps.StampsRise (items_in p (logs p))) → MayMerge (event_logs_of script logs)

-- ---- what comes of it

abbrev pub event_item : NodeTurn → Stamped Event
event_item t = event_item_of t.node t.turn

-- The merged events are those of turns, each under the stamp and the node of its turn, and these turns are the merge of
-- the nodes' logs.
pub record HasTurns (script : Script) (logs : ℕ → Log) (merged : List (Stamped Event)) : Type 0 where
  pub turns : List NodeTurn
  pub merge : IsMerge script logs turns
  pub items : merged ≡ map event_item turns
  pub events : map (λ e. e.item) merged ≡ events_of turns

-- `stamp_merge`'s merge of the nodes' events is that of the nodes' turns
abbrev pub EventsMergeAsTurns : Type 0
EventsMergeAsTurns = (script : Script) (logs : ℕ → Log) (merged : List (Stamped Event))
    → stamps.IsMerge (event_logs_of script logs) merged → HasTurns script logs merged
