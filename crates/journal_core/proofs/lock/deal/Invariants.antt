use Rattle.std.proofs.Common.{◌≡◌, ◌+◌, [], length}
use Rattle.journal_core.specs.Rule.{fresh_view}
use Rattle.journal_core.specs.Seated.{AreNumbered, AreNew}
use Rattle.journal_core.proofs.lock.deal.Given as goal

-- what the first seat has given out so far, and the seats that have these numbers
abbrev pub invariant-loop-given : goal.invariant-loop-given
invariant-loop-given l =
    (l.first.table_id ≡ l.board.table_id) × (l.first.me ≡ (fresh_view 1 l.given, []))
    × AreNumbered l.board.table_id 2 l.seats.items × AreNew l.seats.items × (length l.seats.items + 1 ≡ l.given)
