use Rattle.std.proofs.Common.{length}
use Rattle.check_input.proofs.Places.{IsAt}
use Rattle.check_input.proofs.parts.Parts.of.Given as goal

abbrev pub invariant-loop-line : goal.invariant-loop-line
invariant-loop-line l = IsAt l.bytes l.before l.size l.rest

abbrev pub decreases-loop-line : goal.decreases-loop-line
decreases-loop-line l = length l.rest
