-- A lock, from the parts that it is kept in.
use Rattle.std.specs.Prelude.{◌≤◌}
use Rattle.journal_core.specs.declared.lock.JournalLock.TheInside.{Inside}
use Rattle.journal_core.specs.Seated.{Lock}
use Rattle.journal_core.specs.Turns.{IsBoard}

abbrev pub lock_of : Inside → Lock
lock_of l = record { id = l.table.shared.table_id; seats = l.table.shared.key }

-- two words and one slot, and at least one seat
abbrev pub IsLock : Inside → Type 0
IsLock l = IsBoard l.table.shared.table_id × (1 ≤ l.table.shared.key)
