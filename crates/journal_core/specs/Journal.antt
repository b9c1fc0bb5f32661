-- Journals, as lists of entries with their stamps and seats.
use Rattle.std.specs.Prelude.{◌≡◌, ◌⊎◌, ◌==◌, ℕ, ◌<◌, ◌≤◌, List, [], ◌∷◌, ◌++◌, map, filter}
use Rattle.pico_base.specs.declared.reply.Entry.{Entry}
use Rattle.journal_core.specs.declared.stamped.Stamped.{Stamped}

-- the entries of this seat, in order
abbrev pub of_seat : ℕ → List Stamped → List Stamped
of_seat seat = filter (λ e. e.seat == seat)

-- the last stamp of these, and `last` where there is none
abbrev pub stamp_after : ℕ → List Stamped → ℕ
stamp_after last [] = last
stamp_after last (e ∷ es) = stamp_after e.stamp es

-- the last stamp; of an empty journal it is 0
abbrev pub last_stamp : List Stamped → ℕ
last_stamp journal = stamp_after 0 journal

-- these entries, appended by this seat under one stamp
abbrev pub under : ℕ → ℕ → List Entry → List Stamped
under stamp seat entries = map (λ (entry : Entry). record { stamp = stamp; seat = seat; entry = entry }) entries

-- the journal is longer, or the same, and begins with this one
abbrev pub BeginsWith : List Stamped → List Stamped → Type 0
BeginsWith journal front = (rest : List Stamped) × (journal ≡ front ++ rest)

-- the later one has the greater stamp; or both have one stamp, and then one seat
abbrev pub Follows : Stamped → Stamped → Type 0
Follows earlier later = (earlier.stamp < later.stamp) ⊎ ((earlier.stamp ≡ later.stamp) × (earlier.seat ≡ later.seat))

abbrev pub AllFollow : Stamped → List Stamped → Type 0
AllFollow earlier [] = Unit {0}
AllFollow earlier (e ∷ es) = Follows earlier e × AllFollow earlier es

-- stamps don't fall, and entries with one stamp have one seat
abbrev pub IsInOrder : List Stamped → Type 0
IsInOrder [] = Unit {0}
IsInOrder (e ∷ es) = AllFollow e es × IsInOrder es

-- each entry is of one of the seats 1 to `seats`
abbrev pub IsOfSeats : ℕ → List Stamped → Type 0
IsOfSeats seats [] = Unit {0}
IsOfSeats seats (e ∷ es) = (1 ≤ e.seat) × (e.seat ≤ seats) × IsOfSeats seats es
