use Rattle.std.proofs.Common.{◌≡◌, ◌++◌, drop}
use Rattle.mq_model.specs.Lines as lines
use Rattle.posix_mq.proofs.script.lines_given.Given as goal

-- so far, and what is left
abbrev pub invariant-loop-line : goal.invariant-loop-line
invariant-loop-line l = l.made ++ lines.lines_given (drop l.line-index l.lines) l.rest ≡ lines.lines_given l.lines l.own
