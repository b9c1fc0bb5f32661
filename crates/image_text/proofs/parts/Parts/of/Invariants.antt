use Rattle.std.proofs.Common.{length}
use Rattle.image_text.proofs.Places.{IsAt}
use Rattle.image_text.proofs.parts.Parts.of.Given as goal

abbrev pub invariant-loop-line : goal.invariant-loop-line
invariant-loop-line l = IsAt l.bytes l.before l.size l.rest

abbrev pub decreases-loop-line : goal.decreases-loop-line
decreases-loop-line l = length l.rest
