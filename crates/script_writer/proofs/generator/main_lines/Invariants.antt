use Rattle.std.proofs.Common.{◌≡◌, ◌∷◌}
use Rattle.std.specs.List.{flat_map}
use Rattle.script_writer.specs.Generated as spec
use Rattle.script_writer.proofs.generator.main_lines.Given as goal

-- the lines for the workers so far
abbrev pub invariant-loop-before : goal.invariant-loop-before
invariant-loop-before l =
    l.lines ≡ spec.make spec.main_queue ∷ flat_map (spec.lines_for l.messages) (spec.upto l.before)
