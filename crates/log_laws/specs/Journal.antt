-- The journal of nodes that share one: each entry with the stamp of its event and the node that made it.
use Rattle.std.specs.Prelude.{◌≡◌, ℕ, ◌≤◌, Bool, nat_eq, if◌then◌else◌, List, [], ◌∷◌, map}
use Rattle.std.specs.List.{flat_map, AllByRecursion}
use Rattle.pico_base.specs.declared.script.Script.{Script}
use Rattle.pico_base.specs.declared.reply.Entry.{Entry}
use Rattle.world_model.specs.World.{IsNode}
use Rattle.log_laws.specs.Logs.{Logged, Log}

pub record JournalEntry : Type 0 where
  pub stamp : ℕ
  pub node : ℕ
  pub entry : Entry

abbrev pub journal_entry : ℕ → ℕ → Entry → JournalEntry
journal_entry node stamp entry = record { stamp = stamp; node = node; entry = entry }

-- what a turn enters
abbrev pub entered : ℕ → Logged → List JournalEntry
entered node turn = map (journal_entry node turn.stamp) turn.step.entries

abbrev pub entry_if : Bool → JournalEntry → List JournalEntry
entry_if b e = if b then e ∷ [] else []

-- one node's entries
abbrev pub entries_by : ℕ → List JournalEntry → List JournalEntry
entries_by p journal = flat_map (λ e. entry_if (nat_eq e.node p) e) journal

-- stamps don't fall
abbrev pub StampsDontFall : List JournalEntry → Type 0
StampsDontFall [] = Unit {0}
StampsDontFall (first ∷ rest) = AllByRecursion (λ e. first.stamp ≤ e.stamp) rest × StampsDontFall rest

-- entries with one stamp are of one node
abbrev pub OneNodeAStamp : List JournalEntry → Type 0
OneNodeAStamp [] = Unit {0}
OneNodeAStamp (first ∷ rest) =
    AllByRecursion (λ e. e.stamp ≡ first.stamp → e.node ≡ first.node) rest × OneNodeAStamp rest

-- Each node's entries are those of its turns, under their stamps. Stamps don't fall, and different events have
-- different stamps.
pub record IsJournalOf (script : Script) (logs : ℕ → Log) (journal : List JournalEntry) : Type 0 where
  pub each : (p : ℕ) → IsNode script p → entries_by p journal ≡ flat_map (entered p) (logs p)
  pub nodes : AllByRecursion (λ e. IsNode script e.node) journal
  pub order : StampsDontFall journal
  pub apart : OneNodeAStamp journal

-- the entries, without stamps and nodes
abbrev pub plain_entries : List JournalEntry → List Entry
plain_entries journal = map (λ e. e.entry) journal
