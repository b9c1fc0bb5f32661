use Rattle.std.proofs.Common.{◌≡◌, take, map}
use Rattle.mq_model.specs.SystemV as spec
use Rattle.posix_mq.proofs.system_v.block_for.Given as goal

-- so far
abbrev pub invariant-loop-line : goal.invariant-loop-line
invariant-loop-line l = l.lines ≡ map spec.system_v_line (take l.line-index l.block.lines)
