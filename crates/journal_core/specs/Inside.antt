-- A seat, between two appends, from the parts that it is kept in.
use Rattle.std.specs.Prelude.{◌≡◌, ◌≤◌, false, None, []}
use Rattle.journal_core.specs.declared.seat.JSeat.TheInside.{Inside}
use Rattle.journal_core.specs.Seated.{Seated}

abbrev pub seated : Inside → Seated
seated s =
    record { lock = s.seat.table_id; number = s.seat.me.0.number; own = s.seat.me.0.own; seen = s.seat.me.0.seen }

-- it has no ticket and no journal, and no seat was joined into it
pub record IsIdle (s : Inside) : Type 0 where
  pub number : s.number ≡ s.seat.me.0.number
  pub numbered : 1 ≤ s.seat.me.0.number
  pub slots : s.seat.me.1 ≡ []
  pub ticket : s.seat.me.0.ticket ≡ None
  pub taken : s.seat.me.0.taken ≡ false
  pub joined : s.seat.me.0.joined ≡ []
