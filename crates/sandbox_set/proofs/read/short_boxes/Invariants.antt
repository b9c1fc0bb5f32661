use Rattle.std.proofs.Common.{length}
use Rattle.sandbox_set.proofs.Sandboxes.{IsRead}
use Rattle.sandbox_set.proofs.read.short_boxes.Given as goal

abbrev pub invariant-loop-line : goal.invariant-loop-line
invariant-loop-line l = IsRead l.fn.bytes l.reading.boxes l.reading.nodes l.reading.number l.rest

abbrev pub decreases-loop-line : goal.decreases-loop-line
decreases-loop-line l = length l.rest
