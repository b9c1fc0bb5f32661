-- The rule of the journal's lock: what holds between any two steps of any seats. The word 0 is the next ticket, the
-- word
-- 1 the ticket that is served, and the one slot has the journal.
use Rattle.std.specs.Prelude.{◌≡◌, ◌⊎◌, ℕ, ◌+◌, ◌%◌, ◌^◌, ◌<◌, ◌≤◌, true, false, Option, Some, None, List, [], ◌∷◌, ◌++◌, length}
use mathlib.Core.Option as table
use lib.ListN.{get_elem?}
use Rattle.atomic_table.specs.Table.{State}
use Rattle.journal_core.specs.declared.stamped.Stamped.{Stamped}
use Rattle.journal_core.specs.declared.view.Share.{Share}
use Rattle.journal_core.specs.declared.view.View.{View}
use Rattle.journal_core.specs.Journal.{of_seat, BeginsWith, IsInOrder, IsOfSeats}

-- a seat with this number that has done nothing yet
abbrev pub fresh_view : ℕ → ℕ → View
fresh_view number given =
    record { number = number; own = []; seen = []; ticket = None; taken = false; joined = []; given = given }

-- the first seat, when it is the only one
abbrev pub first_view : View
first_view = fresh_view 1 1

-- a seat that was joined into another
abbrev pub spent_view : View
spent_view = fresh_view 0 0

-- the seat that gets the next number, and the first seat as it gives that number out
abbrev pub newcomer : ℕ → View
newcomer given = fresh_view (given + 1) 0

abbrev pub one_more_given : View → View
one_more_given v = record v { given = v.given + 1 }

-- the first seat, with the share of one seat more
abbrev pub with_share : View → View → View
with_share v w = record v { joined = v.joined ++ record { own = w.own; seen = w.seen } ∷ [] }

-- how many of these seats have a ticket
abbrev pub tickets_of : Option ℕ → ℕ
tickets_of None = 0
tickets_of (Some t) = 1

abbrev pub tickets_out : List View → ℕ
tickets_out [] = 0
tickets_out (v ∷ vs) = tickets_of v.ticket + tickets_out vs

-- What is true besides: the journal, the place among the seats of the one that has taken it, how many tickets were
-- served
-- and drawn, the place of the seat that drew each ticket, and how many seats were joined and how many numbers given
-- out.
-- Places begin at 0.
pub record Book : Type 0 where
  pub journal : List Stamped
  pub holder : Option ℕ
  pub served : ℕ
  pub drawn : ℕ
  pub drawer : ℕ → ℕ
  pub joined : ℕ
  pub given : ℕ

-- what the slot has: the journal, or nothing where a seat has taken it
abbrev pub slot_of : Option ℕ → List Stamped → table.Option (List Stamped)
slot_of None journal = table.some journal
slot_of (Some holder) journal = table.none

-- the share of the seat number k + 2 is that seat's entries in the journal, which begins with what the seat had seen
pub record FitsShare (journal : List Stamped) (k : ℕ) (share : Share) : Type 0 where
  pub own : of_seat (k + 2) journal ≡ share.own
  pub seen : BeginsWith journal share.seen

-- what the rule says of the seat at this place
pub record Fits (book : Book) (place : ℕ) (v : View) : Type 0 where
  -- the journal has just its own entries of it
  pub own : 1 ≤ v.number → of_seat v.number book.journal ≡ v.own
  -- the journal begins with what it has seen
  pub seen : BeginsWith book.journal v.seen
  -- its ticket is one of those that are out, and nobody else's
  pub ticket : (t : ℕ) → v.ticket ≡ Some t → (book.served ≤ t) × (t < book.drawn) × (book.drawer t ≡ place)
  -- if it has taken the journal, it is served, and has seen just that journal
  pub taken : v.taken ≡ true
      → (book.holder ≡ Some place) × (v.ticket ≡ Some book.served) × (v.seen ≡ book.journal) × (1 ≤ v.number)
  -- its number is its own: the numbers up to joined + 1, past the first, are those of joined seats
  pub number : 1 ≤ v.number → (v.number ≡ place + 1) × ((v.number ≡ 1) ⊎ (book.joined + 1 < v.number))
  -- the first seat has the shares of all joined seats, and the count of numbers given out
  pub first : v.number ≡ 1 → (length v.joined ≡ book.joined) × (v.given ≡ book.given)
  pub others : (v.number ≡ 1) ⊎ (v.joined ≡ [])
  -- a share is what the seat that was joined had
  pub shares : (k : ℕ) (share : Share) → get_elem? v.joined k ≡ table.some share → FitsShare book.journal k share

-- the rule, with what is true besides
pub record IsKept (seats : ℕ) (book : Book) (s : State (List Stamped) View) : Type 0 where
  -- the two words, modulo 2^64
  pub words : s.words ≡ (book.drawn % 2 ^ 64) ∷ (book.served % 2 ^ 64) ∷ []
  -- the journal is in the slot exactly where no seat has taken it
  pub slot : s.homes ≡ slot_of book.holder book.journal ∷ []
  pub held : (place : ℕ) → book.holder ≡ Some place
      → (v : View) × (get_elem? s.views place ≡ table.some v) × (v.taken ≡ true)
  -- as many tickets are out as were drawn and not yet served, so they are all of these
  pub tickets : book.drawn ≡ book.served + tickets_out s.views
  -- each seat was given one number, and there are fewer than 2^64
  pub numbers : length s.views ≡ book.given
  pub most : (book.joined < book.given) × (book.given ≤ seats) × (seats < 2 ^ 64)
  -- the journal's stamps don't fall, entries with one stamp are of one seat, and no seat's number wasn't given out
  pub order : IsInOrder book.journal
  pub within : IsOfSeats book.given book.journal
  -- and each seat fits
  pub each : (place : ℕ) (v : View) → get_elem? s.views place ≡ table.some v → Fits book place v

-- the rule of a lock with this many seats
abbrev pub Kept : ℕ → State (List Stamped) View → Type 0
Kept seats s = (book : Book) × IsKept seats book s
