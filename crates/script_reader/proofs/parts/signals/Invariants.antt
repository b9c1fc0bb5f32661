use Rattle.std.proofs.Common.{◌≡◌, false, length}
use Rattle.pico_base.specs.Signal.{everywhere}
use Rattle.script_reader.specs.Words.{pieces}
use Rattle.script_reader.specs.Parts.{signals_with}
use Rattle.script_reader.proofs.parts.signals.Given as goal

-- the names left, behind those so far
abbrev pub invariant-loop-name : goal.invariant-loop-name
invariant-loop-name l = signals_with l.set (pieces 44 l.rest) ≡ signals_with (everywhere false) (pieces 44 l.fn.word)

abbrev pub decreases-loop-name : goal.decreases-loop-name
decreases-loop-name l = length l.rest
