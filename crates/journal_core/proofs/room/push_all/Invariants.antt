use Rattle.std.proofs.Common.{◌≡◌, ◌+◌, ◌≤◌, ◌++◌, length}
use Rattle.std.specs.Prelude.{vec_len, vec_capacity}
use Rattle.journal_core.specs.Journal.{under}
use Rattle.journal_core.proofs.room.push_all.Given as goal

-- what is there and what is left, and there is room for it
abbrev pub invariant-loop-entry : goal.invariant-loop-entry
invariant-loop-entry l =
    (l.journal.items ++ under l.stamp l.seat l.entry-iterator.rest.items ≡ l.fn.journal.items
    ++ under l.stamp l.seat l.fn.entries)
    × (vec_len l.journal + length l.entry-iterator.rest.items ≤ vec_capacity l.journal)
