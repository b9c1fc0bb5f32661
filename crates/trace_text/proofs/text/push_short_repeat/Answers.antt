use Rattle.trace_text.proofs.Digits.{short_repeat}
use Rattle.trace_text.proofs.text.push_short_repeat.Goals as goal

pub returns : goal.returns
returns c =
    rw (short_repeat c.args.count c.args.byte c.requires.0 c.requires.1)
    (rw (c.pair-tens.ensures.tens, c.pair-tens.ensures.units) at c.push.ensures)
