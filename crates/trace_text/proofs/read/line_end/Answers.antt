use Rattle.std.proofs.Common.{eqb}
use Rattle.trace_text.proofs.FirstByte.{position_of_first}
use Rattle.trace_text.proofs.read.line_end.Goals as goal

pub returns : goal.returns
returns c = position_of_first (λ b. eqb b 10) c.args.bytes.now c.memchr.result c.memchr.ensures
