use Rattle.std.proofs.Common.{◌≡◌, ◌+◌, ◌≤◌, ◌++◌, length, map, vec_len}
use Rattle.std.specs.Prelude.{vec_capacity}
use Rattle.node_log.specs.Ends.{end_of}
use Rattle.node_log.proofs.logged.ends_of.Given as goal

-- what is there and what is left, and there is room for it
abbrev pub invariant-loop-line : goal.invariant-loop-line
invariant-loop-line l =
    (l.room.items ++ map end_of l.line-iterator.rest.items ≡ map end_of l.fn.lines.items)
    × (vec_len l.room + length l.line-iterator.rest.items ≤ vec_capacity l.room)
