-- The laws of threads that have ended.
use Rattle.std.specs.Prelude.{◌≡◌, ℕ, ◌+◌, true, List, length, map, Some, None}
use Rattle.pico_base.specs.declared.script.Script.{Script}
use Rattle.pico_base.specs.declared.script.Event.{Event}
use Rattle.stamp_merge.specs.declared.Stamped as merged
use Rattle.stamp_merge.specs.Merge as stamps
use Rattle.journal_core.specs.declared.stamped.Stamped.{Stamped}
use Rattle.kernel_model.specs.Script.{IsSoundScript}
use Rattle.world_model.specs.World.{IsNode, World, step, is_enabled}
use Rattle.log_laws.specs.Logs.{Log}
use Rattle.log_laws.specs.Merge.{MayMerge, NodeTurn, events_of}
use Rattle.log_laws.specs.Journal.{IsJournalOf}
use Rattle.log_laws.specs.EventLogs.{event_item, event_log}
use Rattle.log_laws.specs.Follows.{IsRunOfLogs, AreBelow, TurnFollows}
use Rattle.log_model.specs.Views.{LoggedNode}
use Rattle.thread_laws.specs.Joined.{AreJoined, kept_logs, journal_of}

-- The nodes' logs may be merged.
abbrev pub NodesMayMerge : Type 0
NodesMayMerge = (script : Script) (nodes : ℕ → LoggedNode) (journal : List Stamped) → AreJoined script nodes journal
    → MayMerge (kept_logs script nodes)

-- What the threads did, each by itself: turns whose logs are consistent and lead to a world. The merged events are
-- theirs, the journal is theirs and the world's, and no node met a fault.
pub record IsRunOfThreads (script : Script) (nodes : ℕ → LoggedNode) (journal : List Stamped)
    (merged : List (merged.Stamped Event)) : Type 0 where
  pub logs : ℕ → Log
  pub turns : List NodeTurn
  pub world : World
  pub run : IsRunOfLogs script logs turns world
  pub kept : (p : ℕ) → IsNode script p → (nodes p).log ≡ event_log p (logs p)
  pub items : merged ≡ map event_item turns
  pub events : map (λ e. e.item) merged ≡ events_of turns
  pub journal_is : IsJournalOf script logs (journal_of journal)
  pub entries : map (λ e. e.entry) journal ≡ world.journal
  pub below : AreBelow (length turns + 1) turns
  pub no_fault : (p : ℕ) → IsNode script p → (nodes p).fault ≡ None

abbrev pub ThreadsMakeARun : Type 0
ThreadsMakeARun =
    (script : Script) (nodes : ℕ → LoggedNode) (journal : List Stamped) (merged : List (merged.Stamped Event))
    → IsSoundScript script → AreJoined script nodes journal → stamps.IsMerge (kept_logs script nodes) merged
    → IsRunOfThreads script nodes journal merged

-- An enabled event of a world to which logs lead is one turn more, under any stamp above all others.
abbrev pub StepsFollow : Type 0
StepsFollow =
    (script : Script) (logs : ℕ → Log) (turns : List NodeTurn) (w : World) (e : Event) (next : World) (stamp : ℕ)
    → IsSoundScript script → IsRunOfLogs script logs turns w → is_enabled w e ≡ true → step w e ≡ Some next
    → AreBelow stamp turns → TurnFollows script logs turns w e next stamp
