use Rattle.std.proofs.Common.{length}
use Rattle.sandbox_set.proofs.Cuts.{IsCutAt}
use Rattle.sandbox_set.proofs.part.Part.of.Given as goal

-- none of the lines so far ends the script
abbrev pub invariant-loop-line : goal.invariant-loop-line
invariant-loop-line l = IsCutAt l.bytes l.behind l.lines

abbrev pub decreases-loop-line : goal.decreases-loop-line
decreases-loop-line l = length l.behind
