use Rattle.std.proofs.Common.{◌≡◌, length}
use Rattle.script_reader.specs.Words.{lines_of}
use Rattle.sandbox_set.specs.Boxes as spec
use Rattle.sandbox_set.proofs.part.is_wordless.Given as goal

-- no line so far has words
abbrev pub invariant-loop-line : goal.invariant-loop-line
invariant-loop-line l = spec.is_wordless (lines_of l.rest) ≡ spec.is_wordless (lines_of l.fn.script)

abbrev pub decreases-loop-line : goal.decreases-loop-line
decreases-loop-line l = length l.rest
