use Rattle.std.proofs.Common.{length}
use Rattle.text_fields.proofs.PlainRuns.{Reads}
use Rattle.text_fields.proofs.texts.text_bytes.Given as goal

-- the text so far, and what is left
abbrev pub invariant-loop-byte : goal.invariant-loop-byte
invariant-loop-byte l = Reads l.fn.bytes l.text.items l.rest

abbrev pub decreases-loop-byte : goal.decreases-loop-byte
decreases-loop-byte l = length l.rest
