use Rattle.std.proofs.Common.{◌≡◌, take, map}
use Rattle.posix_mq.specs.Given as kept
use Rattle.posix_mq.proofs.script.kept_lines.Given as goal

-- so far
abbrev pub invariant-loop-line : goal.invariant-loop-line
invariant-loop-line l = l.made ≡ map kept.given_line (take l.line-index l.lines)
