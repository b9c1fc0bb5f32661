use Rattle.std.proofs.Common.{◌≡◌, ◌++◌, drop}
use Rattle.posix_mq.proofs.progress.copy_vars.Given as goal

-- so far, and what is left
abbrev pub invariant-loop-entry : goal.invariant-loop-entry
invariant-loop-entry l = l.copy.entries ++ drop l.entry-index l.vars.entries ≡ l.vars.entries
