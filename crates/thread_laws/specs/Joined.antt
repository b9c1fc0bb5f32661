-- What is known of a script's nodes when their threads have ended: what each of them kept true, that of each stream
-- what was sent is what was taken and a rest, and that the journal has of each seat what it appended.
use Rattle.std.specs.Prelude.{◌≡◌, ◌≢◌, ℕ, nat_eq, if◌then◌else◌, List, [], ◌∷◌, ◌++◌, map}
use Rattle.pico_base.specs.declared.script.Script.{Script}
use Rattle.pico_base.specs.declared.script.Event.{Event}
use Rattle.stamp_merge.specs.declared.Stamped as merged
use Rattle.stream_pair.specs.declared.piece.Piece.{Piece}
use Rattle.journal_core.specs.declared.stamped.Stamped.{Stamped}
use Rattle.journal_core.specs.Journal.{of_seat, BeginsWith, IsInOrder, IsOfSeats}
use Rattle.world_model.specs.World.{IsNode, numbers, node_count}
use Rattle.log_laws.specs.Journal.{JournalEntry}
use Rattle.log_model.specs.Views.{Line, LoggedNode}
use Rattle.log_model.specs.Logged.{IsLogged}

-- all that was sent to this node, and all that was taken from it
abbrev pub sent_on : List Line → ℕ → List Piece
sent_on [] other = []
sent_on (line ∷ lines) other = if nat_eq line.other other then line.out.sent else sent_on lines other

abbrev pub taken_on : List Line → ℕ → List Piece
taken_on [] other = []
taken_on (line ∷ lines) other = if nat_eq line.other other then line.into.taken else taken_on lines other

-- the pieces that one node sent to another are those that this one took, and others behind them
abbrev pub IsSettled : LoggedNode → LoggedNode → Type 0
IsSettled sender receiver =
    (rest : List Piece) × (sent_on sender.lines receiver.number ≡ taken_on receiver.lines sender.number ++ rest)

pub record AreJoined (script : Script) (nodes : ℕ → LoggedNode) (journal : List Stamped) : Type 0 where
  pub number : (p : ℕ) → IsNode script p → (nodes p).number ≡ p
  pub logged : (p : ℕ) → IsNode script p → IsLogged script (nodes p)
  pub settled : (p q : ℕ) → IsNode script p → IsNode script q → p ≢ q → IsSettled (nodes p) (nodes q)
  pub own : (p : ℕ) → IsNode script p → of_seat p journal ≡ (nodes p).seat.own
  pub seen : (p : ℕ) → IsNode script p → BeginsWith journal (nodes p).seat.seen
  pub order : IsInOrder journal
  pub seats : IsOfSeats (node_count script) journal

-- the logs that the nodes kept, by rising node
abbrev pub kept_logs : Script → (ℕ → LoggedNode) → List (List (merged.Stamped Event))
kept_logs script nodes = map (λ p. (nodes p).log) (numbers 1 (node_count script))

-- an entry of the journal, with its seat as the node that made it
abbrev pub entry_of_node : Stamped → JournalEntry
entry_of_node e = record { stamp = e.stamp; node = e.seat; entry = e.entry }

abbrev pub journal_of : List Stamped → List JournalEntry
journal_of journal = map entry_of_node journal
