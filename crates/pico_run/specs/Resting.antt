-- A run on its way to rest, behind what the threads did.
use Rattle.std.specs.Prelude.{◌≡◌, ℕ, ◌+◌, ◌≤◌, List, [], ◌∷◌, ◌++◌, length, map, drop, Option, Some}
use Rattle.pico_base.specs.declared.script.Script.{Script}
use Rattle.pico_base.specs.declared.script.Event.{Event}
use Rattle.stamp_merge.specs.declared.Stamped as merged
use Rattle.stamp_merge.specs.Merge.{AreInOrder}
use Rattle.journal_core.specs.declared.stamped.Stamped.{Stamped}
use Rattle.journal_core.specs.Journal.{under}
use Rattle.kernel_model.specs.Script.{IsSoundScript}
use Rattle.world_model.specs.World.{World, node_count, step}
use Rattle.world_model.specs.Schedule.{node_of}
use Rattle.log_laws.specs.Logs.{Log}
use Rattle.log_laws.specs.Merge.{NodeTurn}
use Rattle.log_laws.specs.Journal.{IsJournalOf}
use Rattle.log_laws.specs.EventLogs.{event_item}
use Rattle.log_laws.specs.Follows.{IsRunOfLogs, AreBelow}
use Rattle.log_model.specs.Views.{Parting}
use Rattle.thread_laws.specs.Joined.{journal_of}
use Rattle.pico_run.specs.declared.rested.Rested.{Rested}
use Rattle.pico_run.specs.Rested.{ArePartings, HasThreadsFirst}

abbrev pub logs_in : List Parting → List (List (merged.Stamped Event))
logs_in partings = map (λ p. p.log) partings

-- All that is said of a run at rest, but that it rests. Its stamps are in order, and no higher than its number of
-- events.
pub record IsGoing (script : Script) (r : Rested) : Type 0 where
  pub logs : ℕ → Log
  pub turns : List NodeTurn
  pub world : World
  pub is_world : r.world ≡ Some world
  pub run : IsRunOfLogs script logs turns world
  pub events : r.events ≡ map event_item turns
  pub journal : IsJournalOf script logs (journal_of r.journal)
  pub entries : map (λ e. e.entry) r.journal ≡ world.journal
  pub count : length r.partings ≡ node_count script
  pub partings : ArePartings logs 1 r.partings
  pub threads : HasThreadsFirst r.events r.partings
  pub order : AreInOrder r.events
  pub below : AreBelow (length turns + 1) turns

-- it is a run of a sound script, which has this node
pub record CanGoOn (r : Rested) (last : ℕ) : Type 0 where
  pub script : Script
  pub sound : IsSoundScript script
  pub going : IsGoing script r
  pub there : last ≤ node_count script

-- an event was carried out: it stands behind the others, and its entries behind those that were there
pub record IsMade (e : Event) (stamp : ℕ) (world next_world : Option World) (events more_events : List
    (merged.Stamped Event))
    (journal more_journal : List Stamped) : Type 0 where
  pub now : World
  pub is_now : world ≡ Some now
  pub next : World
  pub is_next : next_world ≡ Some next
  pub steps : step now e ≡ Some next
  pub events_are : more_events ≡ events ++ record { stamp = stamp; node = node_of e; item = e } ∷ []
  pub journal_is : more_journal ≡ journal ++ under stamp (node_of e) (drop (length now.journal) next.journal)
