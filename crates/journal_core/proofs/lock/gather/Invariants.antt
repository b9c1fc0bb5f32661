use Rattle.std.proofs.Common.{◌≡◌}
use Rattle.journal_core.proofs.Gathering.{Gathers}
use Rattle.journal_core.proofs.lock.gather.Given as goal

-- the shares of those that were joined, and then those of the seats that are left, are all shares
abbrev pub invariant-loop-next : goal.invariant-loop-next
invariant-loop-next l =
    (l.first.table_id ≡ l.board.table_id) × Gathers l.board.table_id l.first.me.0 l.next-iterator.rest.items l.fn.seats
