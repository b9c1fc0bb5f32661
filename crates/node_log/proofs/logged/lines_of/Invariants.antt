use Rattle.std.proofs.Common.{◌≡◌, ◌+◌, ◌≤◌, ◌++◌, length, map, vec_len}
use Rattle.std.specs.Prelude.{vec_capacity}
use Rattle.std.specs.List.{AllByRecursion}
use Rattle.node_log.specs.Ends.{IsUntaken, line_of}
use Rattle.node_log.proofs.logged.lines_of.Given as goal

-- what is there and what is left, and there is room for it
abbrev pub invariant-loop-end : goal.invariant-loop-end
invariant-loop-end l =
    (l.lines.items ++ map line_of l.end-iterator.rest.items ≡ map line_of l.fn.ends)
    × (vec_len l.lines + length l.end-iterator.rest.items ≤ vec_capacity l.lines)
    × AllByRecursion IsUntaken l.end-iterator.rest.items
