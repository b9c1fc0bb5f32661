-- What a run with threads comes to, whatever the threads did: logs of the nodes that agree about the frames between
-- them, whose events by stamp and node are one run of the machine, to rest; its journal; and what each thread left.
use Rattle.std.specs.Prelude.{◌≡◌, ◌<◌, ◌≤◌, ℕ, ◌+◌, List, [], ◌∷◌, ◌++◌, length, map, Some}
use Rattle.std.specs.List.{AllByRecursion}
use Rattle.pico_base.specs.declared.script.Script.{Script}
use Rattle.pico_base.specs.declared.script.Event.{Event}
use Rattle.stamp_merge.specs.declared.Stamped.{Stamped}
use Rattle.stamp_merge.specs.Merge.{items_of, StampsRise}
use Rattle.world_model.specs.Run.{IsAtRest}
use Rattle.world_model.specs.World.{World, node_count}
use Rattle.log_laws.specs.Logs.{Log}
use Rattle.log_laws.specs.Merge.{NodeTurn}
use Rattle.log_laws.specs.Journal.{IsJournalOf}
use Rattle.log_laws.specs.EventLogs.{event_item, event_log}
use Rattle.log_laws.specs.Follows.{IsRunOfLogs}
use Rattle.log_model.specs.Views.{Parting}
use Rattle.thread_laws.specs.Joined.{journal_of}
use Rattle.pico_run.specs.declared.rested.Rested.{Rested}
use Rattle.pico_run.specs.Turning.{quiet_turns}

-- ---- what the threads left

-- A thread's log is the first part of its node's events, and it was quiet when it left.
pub record IsParting (logs : ℕ → Log) (node : ℕ) (p : Parting) : Type 0 where
  pub node_is : p.node ≡ node
  pub quiet : quiet_turns ≤ p.quiet
  pub later : List (Stamped Event)
  pub log : event_log node (logs node) ≡ p.log ++ later

-- by rising node, from this one on
abbrev pub ArePartings : (ℕ → Log) → ℕ → List Parting → Type 0
ArePartings logs node [] = Unit {0}
ArePartings logs node (p ∷ ps) = IsParting logs node p × ArePartings logs (node + 1) ps

-- The events of the threads come first. Those that were stepped behind them have rising stamps above all of theirs.
pub record HasThreadsFirst (events : List (Stamped Event)) (partings : List Parting) : Type 0 where
  pub first : List (Stamped Event)
  pub later : List (Stamped Event)
  pub whole : events ≡ first ++ later
  pub logs : AllByRecursion (λ (p : Parting). items_of p.node first ≡ p.log) partings
  pub rise : StampsRise later
  pub above : AllByRecursion (λ e. AllByRecursion (λ f. e.stamp < f.stamp) later) first

-- ---- all of it

pub record IsRested (script : Script) (r : Rested) : Type 0 where
  pub logs : ℕ → Log
  pub turns : List NodeTurn
  pub world : World
  pub is_world : r.world ≡ Some world
  -- the logs are consistent, and their turns, by stamp and node, are a run of the machine that leads to the world
  pub run : IsRunOfLogs script logs turns world
  pub events : r.events ≡ map event_item turns
  -- each entry has the stamp of its event and the seat of the node that made it, and the entries are the world's
  pub journal : IsJournalOf script logs (journal_of r.journal)
  pub entries : map (λ e. e.entry) r.journal ≡ world.journal
  pub rest : IsAtRest world
  pub count : length r.partings ≡ node_count script
  pub partings : ArePartings logs 1 r.partings
  pub threads : HasThreadsFirst r.events r.partings
