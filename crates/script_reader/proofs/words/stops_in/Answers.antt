use Rattle.std.proofs.Common.{arith}
use Rattle.script_reader.proofs.Marked.{parts_of_front}
use Rattle.script_reader.proofs.words.stops_in.Goals as goal

pub returns : goal.returns
returns c =
    parts_of_front 64 c.args.text.now c.args.len c.blanks_in-blanks.result c.with_bit.result c.bits_below.result
    (omega arith) c.requires.room c.requires.short (omega arith) c.blanks_in-blanks.ensures c.with_bit.ensures.set
    c.with_bit.ensures.kept c.bits_below.ensures.kept c.bits_below.ensures.over
