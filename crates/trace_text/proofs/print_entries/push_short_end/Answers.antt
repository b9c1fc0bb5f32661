use Rattle.trace_text.proofs.Digits.{short_end}
use Rattle.trace_text.proofs.print_entries.push_short_end.Goals as goal

pub returns : goal.returns
returns c = rw (short_end c.args.number c.args.node c.requires.0 c.requires.1) c.push.ensures
