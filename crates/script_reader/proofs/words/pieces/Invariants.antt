use Rattle.std.proofs.Common.{◌≡◌, ◌++◌, length}
use Rattle.script_reader.specs.Words.{pieces, texts}
use Rattle.script_reader.proofs.words.pieces.Given as goal

-- the pieces so far, and those that are left
abbrev pub invariant-loop-piece : goal.invariant-loop-piece
invariant-loop-piece l = texts l.pieces.items ++ pieces l.byte l.rest ≡ pieces l.byte l.fn.word

abbrev pub decreases-loop-piece : goal.decreases-loop-piece
decreases-loop-piece l = length l.rest
