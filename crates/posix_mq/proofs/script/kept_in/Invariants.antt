use Rattle.std.proofs.Common.{◌≡◌, take, map}
use Rattle.posix_mq.specs.Given as kept
use Rattle.posix_mq.proofs.script.kept_in.Given as goal

-- so far
abbrev pub invariant-loop-block : goal.invariant-loop-block
invariant-loop-block l = l.made ≡ map kept.given_lines (take l.block-index l.blocks)
