use Rattle.std.proofs.Common.{◌≡◌, ◌++◌, take}
use Rattle.journal_core.specs.Journal.{under}
use Rattle.pico_run.proofs.resting.copy_entries.Given as goal

-- so far
abbrev pub invariant-loop-entry : goal.invariant-loop-entry
invariant-loop-entry l = l.journal ≡ l.fn.journal ++ under l.fn.stamp l.fn.node (take l.entry-index l.entries)
