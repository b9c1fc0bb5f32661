use Rattle.std.proofs.Common.{arith}
use Rattle.frame_bytes.proofs.LengthLaws.{length-steps}
use Rattle.frame_bytes.proofs.lengths.steps_len.Goals as goal

pub returns-clause-len : goal.returns-clause-len
returns-clause-len c = omega (arith, length-steps c.args.steps.now)
