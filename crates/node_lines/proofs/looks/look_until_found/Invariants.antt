use Rattle.node_lines.specs.Lines.{may_look}
use Rattle.node_lines.proofs.Fronts.{LookedSoFar}
use Rattle.node_lines.proofs.looks.look_until_found.Given as goal

-- the lines of a front were looked at, and the looks go on
abbrev pub invariant-loop-line : goal.invariant-loop-line
invariant-loop-line g l = LookedSoFar (may_look l.only) l.line-index l.initial.lines l.part l.lines
