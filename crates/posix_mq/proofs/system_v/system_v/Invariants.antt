use Rattle.std.proofs.Common.{◌≡◌, take, map}
use Rattle.mq_model.specs.SystemV as spec
use Rattle.posix_mq.proofs.system_v.system_v.Given as goal

-- so far
abbrev pub invariant-loop-block : goal.invariant-loop-block
invariant-loop-block l = l.blocks ≡ map spec.system_v_block (take l.block-index l.given.blocks)
