use Rattle.std.proofs.Common.{length}
use Rattle.sandbox_set.proofs.Nodes.{AreCounted}
use Rattle.sandbox_set.proofs.part.nodes_with.Given as goal

abbrev pub invariant-loop-line : goal.invariant-loop-line
invariant-loop-line l = AreCounted l.fn.before l.fn.script l.nodes l.lines l.rest

abbrev pub decreases-loop-line : goal.decreases-loop-line
decreases-loop-line l = length l.rest
