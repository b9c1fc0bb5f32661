use Rattle.std.proofs.Common.{eqb}
use Rattle.script_reader.proofs.Cuts.{position_of_first}
use Rattle.script_reader.proofs.words.first_quote.Goals as goal

pub returns : goal.returns
returns c = position_of_first (λ b. eqb b 34) c.args.bytes.now c.memchr.result c.memchr.ensures
