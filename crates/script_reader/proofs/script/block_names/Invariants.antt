use Rattle.std.proofs.Common.{◌≡◌, length}
use Rattle.std.specs.Prelude.{fold}
use Rattle.script_reader.specs.Words.{lines_of}
use Rattle.script_reader.specs.Says.{opening_at, with_opening, names_of}
use Rattle.script_reader.proofs.script.block_names.Given as goal

-- the names so far, and those of the lines left, are those of all lines
abbrev pub invariant-loop-bytes : goal.invariant-loop-bytes
invariant-loop-bytes l =
    fold (λ names line. with_opening names (opening_at line)) l.names (lines_of l.rest) ≡ names_of (lines_of l.fn.text)

abbrev pub decreases-loop-bytes : goal.decreases-loop-bytes
decreases-loop-bytes l = length l.rest
