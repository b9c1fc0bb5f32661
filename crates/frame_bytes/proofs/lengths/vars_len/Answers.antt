use Rattle.std.proofs.Common.{arith}
use Rattle.frame_bytes.proofs.LengthLaws.{length-vars}
use Rattle.frame_bytes.proofs.lengths.vars_len.Goals as goal

pub returns-clause-len : goal.returns-clause-len
returns-clause-len c = omega (arith, length-vars c.args.vars.now)
