-- What consistent logs come to: one run of the machine.
use Rattle.std.specs.Prelude.{◌≡◌, ℕ, List, map, Some}
use Rattle.pico_base.specs.declared.script.Script.{Script}
use Rattle.world_model.specs.Node.{Node}
use Rattle.world_model.specs.World.{IsNode, World, node_at, stream}
use Rattle.world_model.specs.Run.{IsRunOf}
use Rattle.stamp_merge.specs.declared.Stamped.{Stamped}
use Rattle.stamp_merge.specs.Merge as stamps
use Rattle.log_laws.specs.Logs.{StampedFrame, frame_of, Logged, Log, items_in, AreConsistent}
use Rattle.log_laws.specs.Merge.{MayMerge, logs_of, NodeTurn, turn_of, IsMerge, events_of, entries_of}
use Rattle.log_laws.specs.Journal.{JournalEntry, IsJournalOf, plain_entries}

-- Logs may be merged where the stamps of each rise.
abbrev pub LogsMayMerge : Type 0
LogsMayMerge = (script : Script) (logs : ℕ → Log)
    → ((p : ℕ) → IsNode script p → stamps.StampsRise (items_in p (logs p))) → MayMerge (logs_of script logs)

-- The events are a run of the machine. Its nodes are those that the logs lead to, the frames on their way are those
-- that no log took, and its journal is what the turns entered.
pub record IsRunOfTurns (script : Script) (turns : List NodeTurn) (last : ℕ → Node)
    (untaken : ℕ → ℕ → List StampedFrame) : Type 0 where
  pub world : World
  pub runs : IsRunOf script (events_of turns) world
  pub node : (p : ℕ) → IsNode script p → node_at world p ≡ Some (last p)
  pub stream_is : (p q : ℕ) → IsNode script p → IsNode script q → stream world p q ≡ map frame_of (untaken p q)
  pub journal : world.journal ≡ entries_of turns

abbrev pub ConsistentLogsAreRuns : Type 0
ConsistentLogsAreRuns =
    (script : Script) (logs : ℕ → Log) (last : ℕ → Node) (untaken : ℕ → ℕ → List StampedFrame) (turns : List NodeTurn)
    → AreConsistent script logs last untaken → IsMerge script logs turns → IsRunOfTurns script turns last untaken

-- So `stamp_merge`'s merge of consistent logs is one, of the turns that its items are.
abbrev pub MergedLogsAreRuns : Type 0
MergedLogsAreRuns =
    (script : Script) (logs : ℕ → Log) (last : ℕ → Node) (untaken : ℕ → ℕ → List StampedFrame)
    (merged : List (Stamped Logged)) → AreConsistent script logs last untaken
    → stamps.IsMerge (logs_of script logs) merged → IsRunOfTurns script (map turn_of merged) last untaken

-- A journal of the logs has the entries of their merge in its order.
abbrev pub OneJournal : Type 0
OneJournal =
    (script : Script) (logs : ℕ → Log) (turns : List NodeTurn) (journal : List JournalEntry)
    → IsMerge script logs turns → IsJournalOf script logs journal → plain_entries journal ≡ entries_of turns
