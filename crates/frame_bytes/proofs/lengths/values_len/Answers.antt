use Rattle.std.proofs.Common.{arith}
use Rattle.frame_bytes.proofs.LengthLaws.{length-words}
use Rattle.frame_bytes.proofs.lengths.values_len.Goals as goal

pub returns-clause-len : goal.returns-clause-len
returns-clause-len c = omega (arith, length-words c.args.values.now)
