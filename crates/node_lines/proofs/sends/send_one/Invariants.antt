use Rattle.std.proofs.Common.{◌≡◌, [], ◌∷◌}
use Rattle.log_model.specs.Turns.{with_sent}
use Rattle.node_lines.specs.Lines.{AreSameLines}
use Rattle.node_lines.proofs.Fronts.{map_front}
use Rattle.node_lines.proofs.sends.send_one.Given as goal

-- the lines of a front have what goes to them, and each is the line that it was
abbrev pub invariant-loop-line : goal.invariant-loop-line
invariant-loop-line g l =
    (l.lines ≡ map_front (with_sent l.stamp ((l.to, l.frame) ∷ [])) l.line-index l.initial.lines)
    × AreSameLines l.initial.lines l.lines
