-- What each kind of step tells the seat that makes it.
use Rattle.std.specs.Prelude.{◌≡◌, ◌≢◌, ℕ, ◌%◌, ◌^◌, true, false, Some, None, List, [], ◌∷◌, ◌++◌, length, drop}
use Rattle.atomic_table.specs.Table.{Me}
use Rattle.journal_core.specs.declared.stamped.Stamped.{Stamped}
use Rattle.journal_core.specs.declared.view.View.{View}
use Rattle.journal_core.specs.Journal.{BeginsWith, IsInOrder}

-- a seat's view, and the journal that it has taken
abbrev pub Mine : Type 0
Mine = Me (List Stamped) View

-- the seat with a ticket
abbrev pub waiting : View → ℕ → View
waiting v t = record v { ticket = Some t }

-- the seat with the journal, and so having seen it
abbrev pub holding : View → List Stamped → View
holding v journal = record v { taken = true; seen = journal }

-- the seat after it has put this journal back: what is new in it is its own
abbrev pub done : View → List Stamped → View
done v journal =
    record v { ticket = None; taken = false; seen = journal; own = v.own ++ drop (length v.seen) journal }

-- the ticket is what the word showed
abbrev pub Draws : Mine → ℕ → Mine → Type 0
Draws m n m' = (t : ℕ) × (n ≡ t % 2 ^ 64) × (m' ≡ (waiting m.0 t, m.1))

-- the seat has the journal, which begins with what it had seen, and it has seen it
abbrev pub Takes : View → Mine → Type 0
Takes v m' =
    (journal : List Stamped) × (m' ≡ (holding v journal, (0, journal) ∷ [])) × BeginsWith journal v.seen
    × IsInOrder journal

-- where its ticket is served, the seat takes the journal, and else nothing changes
abbrev pub Looks : Mine → ℕ → Mine → Type 0
Looks m n m' = (t : ℕ) → m.0.ticket ≡ Some t → (n ≡ t % 2 ^ 64 → Takes m.0 m') × (n ≢ t % 2 ^ 64 → m' ≡ m)

abbrev pub PutsBack : Mine → Mine → Type 0
PutsBack m m' = (journal : List Stamped) → m.1 ≡ (0, journal) ∷ [] → m' ≡ (done m.0 journal, [])
