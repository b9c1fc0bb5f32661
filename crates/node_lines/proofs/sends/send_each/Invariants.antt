use Rattle.std.proofs.Common.{◌≡◌, map, drop}
use Rattle.frame_bytes.specs.Ranges.{IsFrame}
use Rattle.log_model.specs.Turns.{with_sent}
use Rattle.node_lines.specs.Lines.{AreSameLines}
use Rattle.node_lines.proofs.Fronts.{AllFront}
use Rattle.node_lines.proofs.sends.send_each.Given as goal

-- with what is left to be sent the lines have all of it, and each is the line that it was; what was sent has a spelling
abbrev pub invariant-loop-to : goal.invariant-loop-to
invariant-loop-to g l =
    (map (with_sent l.stamp (drop l.to-index l.sends)) l.lines ≡ map (with_sent l.stamp l.sends) l.initial.lines)
    × AreSameLines l.initial.lines l.lines
    × AllFront (λ s. IsFrame s.1) l.to-index l.sends
