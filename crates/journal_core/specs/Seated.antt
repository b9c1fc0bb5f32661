-- What contracts see of a lock and of its seats, and what an append and a close say of them.
use Rattle.std.specs.Prelude.{◌≡◌, ℕ, ◌+◌, ◌-◌, ◌^◌, ◌<◌, ◌≤◌, List, [], ◌∷◌, ◌++◌, length, max}
use Rattle.atomic_table.specs.Seated.{TableId}
use Rattle.pico_base.specs.declared.reply.Entry.{Entry}
use Rattle.journal_core.specs.declared.stamped.Stamped.{Stamped}
use Rattle.journal_core.specs.declared.fault.AppendFault.{AppendFault}
use Rattle.journal_core.specs.declared.fault.AppendFault.TheVariants.{Memory, StampEnd}
use Rattle.journal_core.specs.Journal.{of_seat, last_stamp, under, BeginsWith, IsInOrder, IsOfSeats}

-- a lock: which one it is, and how many seats it has
pub record Lock : Type 0 where
  pub id : TableId
  pub seats : ℕ

-- a seat: of which lock, its number, the entries that it has appended, and the journal that it has seen
pub record Seated : Type 0 where
  pub lock : TableId
  pub number : ℕ
  pub own : List Stamped
  pub seen : List Stamped

-- the next stamp, where there is one: one more than the larger of floor and last stamp
abbrev pub IsStamp : ℕ → ℕ → Type 0
IsStamp stamp larger = (larger < 2 ^ 63 - 1) × (stamp ≡ larger + 1)

-- StampEnd, and no other fault, where no stamp is left
abbrev pub IsCause : AppendFault → ℕ → Type 0
IsCause Memory larger = larger < 2 ^ 63 - 1
IsCause (StampEnd last) larger = (2 ^ 63 - 1 ≤ larger) × (last ≡ larger)

-- the entries were appended under this stamp, behind the journal that was found
pub record Appends (floor : ℕ) (entries : List Entry) (old new : Seated) (stamp : ℕ) : Type 0 where
  pub found : List Stamped
  pub begins : BeginsWith found old.seen
  pub stamped : IsStamp stamp (max floor (last_stamp found))
  pub own : new.own ≡ old.own ++ under stamp old.number entries
  pub seen : new.seen ≡ found ++ under stamp old.number entries
  pub order : IsInOrder new.seen

-- nothing was appended: the seat has seen the journal that was found, and this is why
pub record Refuses (floor : ℕ) (old new : Seated) (fault : AppendFault) : Type 0 where
  pub begins : BeginsWith new.seen old.seen
  pub own : new.own ≡ old.own
  pub cause : IsCause fault (max floor (last_stamp new.seen))
  pub order : IsInOrder new.seen

-- seats of this lock, whose numbers go up from here
abbrev pub AreNumbered : TableId → ℕ → List Seated → Type 0
AreNumbered lock number [] = Unit {0}
AreNumbered lock number (s ∷ ss) = (s.lock ≡ lock) × (s.number ≡ number) × AreNumbered lock (number + 1) ss

-- all seats of the lock, by number
abbrev pub AreAll : Lock → List Seated → Type 0
AreAll lock seats = AreNumbered lock.id 1 seats × (length seats ≡ lock.seats)

-- nothing was appended or seen by these yet
abbrev pub AreNew : List Seated → Type 0
AreNew [] = Unit {0}
AreNew (s ∷ ss) = (s.own ≡ []) × (s.seen ≡ []) × AreNew ss

-- of each seat the journal has just its own entries, in their order, and it begins with what the seat has seen
abbrev pub HasAllOf : List Stamped → List Seated → Type 0
HasAllOf journal [] = Unit {0}
HasAllOf journal (s ∷ ss) = (of_seat s.number journal ≡ s.own) × BeginsWith journal s.seen × HasAllOf journal ss

-- the journal at the end: what all seats have appended, in order, and no entry of another seat
pub record Closes (lock : Lock) (seats : List Seated) (journal : List Stamped) : Type 0 where
  pub whole : HasAllOf journal seats
  pub order : IsInOrder journal
  pub others : IsOfSeats lock.seats journal
