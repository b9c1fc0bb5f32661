use Rattle.std.proofs.Common.{arith}
use Rattle.std.proofs.lemmas.Str.{utf8_valid_len_le}
use Rattle.sandbox_set.proofs.read.read.Goals as goal

pub short_boxes-requires-clause-text : goal.short_boxes-requires-clause-text
short_boxes-requires-clause-text c =
    omega (arith, utf8_valid_len_le c.args.bytes.now, c.valid_len-valid.ensures, c.if-valid-bytes.false)
