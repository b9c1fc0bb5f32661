use Rattle.std.proofs.Common.{false}
use Rattle.node_lines.specs.Lines.{may_look}
use Rattle.node_lines.proofs.Fronts.{LookedSoFar}
use Rattle.node_lines.proofs.looks.note_silence.Given as goal

-- the lines of a front were looked at, and nothing was found
abbrev pub invariant-loop-line : goal.invariant-loop-line
invariant-loop-line l = LookedSoFar (may_look l.only) l.line-index l.initial.lines false l.lines
