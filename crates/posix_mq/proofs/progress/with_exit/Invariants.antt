use Rattle.std.proofs.Common.{◌≡◌, ◌++◌, drop}
use Rattle.kernel_model.specs.Script as script
use Rattle.posix_mq.proofs.progress.with_exit.Given as goal

-- so far, and what is left
abbrev pub invariant-loop-line : goal.invariant-loop-line
invariant-loop-line l = l.made.items ++ script.with_exit (drop l.line-index l.lines) ≡ script.with_exit l.lines
