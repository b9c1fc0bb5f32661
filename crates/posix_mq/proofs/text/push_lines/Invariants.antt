use Rattle.std.proofs.Common.{drop}
use Rattle.posix_mq.proofs.Telling.{Told}
use Rattle.posix_mq.proofs.text.push_lines.Given as goal

-- so far, and what is left
abbrev pub invariant-loop-entry : goal.invariant-loop-entry
invariant-loop-entry l =
    Told l.script l.given l.journal l.fn.out.items l.out.items l.tally l.places.entries (drop l.entry-index l.journal)
