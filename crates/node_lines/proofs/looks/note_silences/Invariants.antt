use Rattle.std.proofs.Common.{◌≡◌}
use Rattle.node_lines.specs.Lines.{after_silence}
use Rattle.node_lines.proofs.Fronts.{map_front}
use Rattle.node_lines.proofs.looks.note_silences.Given as goal

-- the lines of a front have the looks
abbrev pub invariant-loop-line : goal.invariant-loop-line
invariant-loop-line l = l.lines ≡ map_front (after_silence l.looks) l.line-index l.initial.lines
