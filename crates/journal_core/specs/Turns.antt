-- What the private steps of an append and of a close say of the raw seat at the table.
use Rattle.std.specs.Prelude.{◌≡◌, ℕ, ◌≤◌, true, false, None, Result, MatchResult, List, [], ◌∷◌, ◌++◌, map, max}
use Rattle.atomic_table.specs.Seated.{TableId}
use Rattle.pico_base.specs.declared.reply.Entry.{Entry}
use Rattle.journal_core.specs.declared.fault.AppendFault.{AppendFault}
use Rattle.journal_core.specs.declared.stamped.Stamped.{Stamped}
use Rattle.journal_core.specs.declared.view.Share.{Share}
use Rattle.journal_core.specs.declared.view.View.{View}
use Rattle.journal_core.specs.Journal.{last_stamp, under, BeginsWith, IsInOrder}
use Rattle.journal_core.specs.Seated.{Seated, IsStamp, IsCause}
use Rattle.journal_core.specs.Steps.{Mine, waiting, holding}

-- a table with two words and one slot
abbrev pub IsBoard : TableId → Type 0
IsBoard table = (table.words ≡ 2) × (table.slots ≡ 1)

-- a seat between two appends
abbrev pub IsFree : Mine → Type 0
IsFree m = (m.0.ticket ≡ None) × (m.0.taken ≡ false) × (m.1 ≡ []) × (1 ≤ m.0.number)

-- the journal is out of its slot, which has an empty one for now, and begins with what the seat had seen
abbrev pub HasTaken : View → List Stamped → Mine → Type 0
HasTaken v journal m =
    ((t : ℕ) × (m ≡ (holding (waiting v t) journal, (0, []) ∷ []))) × BeginsWith journal v.seen × IsInOrder journal

-- each of these entries is of this seat
abbrev pub IsOf : ℕ → List Stamped → Type 0
IsOf seat [] = Unit {0}
IsOf seat (e ∷ es) = (e.seat ≡ seat) × IsOf seat es

-- the seat has taken the journal, and this one is the same with entries of its own behind
pub record CanPut (m : Mine) (journal : List Stamped) : Type 0 where
  pub old : List Stamped
  pub slot : m.1 ≡ (0, old) ∷ []
  pub taken : m.0.taken ≡ true
  pub added : List Stamped
  pub is : journal ≡ m.0.seen ++ added
  pub own : IsOf m.0.number added
  pub order : IsInOrder journal

-- what a seat leaves behind when it is joined into the first one
abbrev pub share_of : Seated → Share
share_of s = record { own = s.own; seen = s.seen }

-- the first of these seats, with the shares of the others
abbrev pub HasGathered : View → List Seated → Type 0
HasGathered v [] = ⊥
HasGathered v (s ∷ ss) =
    (v.number ≡ 1) × (v.taken ≡ false) × (v.own ≡ s.own) × (v.seen ≡ s.seen) × (v.joined ≡ map share_of ss)

-- the journal now is the one found, with these entries behind it where a stamp was given
abbrev pub Adds : ℕ → ℕ → List Entry → List Stamped → List Stamped → Result ℕ AppendFault → Type 0
Adds floor seat entries found now answer =
    MatchResult answer
    (λ stamp. IsStamp stamp (max floor (last_stamp found)) × (now ≡ found ++ under stamp seat entries))
    (λ fault. IsCause fault (max floor (last_stamp found)) × (now ≡ found))
