use Rattle.std.proofs.Common.{◌≡◌, ◌∷◌, map}
use Rattle.script_writer.specs.Generated as spec
use Rattle.script_writer.proofs.generator.script_with.Given as goal

-- the blocks so far
abbrev pub invariant-loop-before : goal.invariant-loop-before
invariant-loop-before l = l.blocks ≡ spec.main l.messages l.workers ∷ map (spec.worker l.messages) (spec.upto l.before)
