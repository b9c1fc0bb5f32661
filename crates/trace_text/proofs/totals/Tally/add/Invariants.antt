use Rattle.std.proofs.Common.{◌≡◌, List, ◌++◌, take}
use Rattle.pico_base.specs.declared.reply.Entry.{Entry}
use Rattle.trace_text.specs.Totals.{tally_of}
use Rattle.trace_text.proofs.totals.Tally.add.Given as goal

-- the entries so far, behind those that were counted before
abbrev pub invariant-loop-entry : goal.invariant-loop-entry
invariant-loop-entry l =
    (before : List Entry) → l.initial.self ≡ tally_of before
    → l.self ≡ tally_of (before ++ take l.entry-index l.entries)
