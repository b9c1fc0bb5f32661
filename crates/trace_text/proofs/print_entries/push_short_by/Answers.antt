use Rattle.trace_text.proofs.Digits.{short_by}
use Rattle.trace_text.proofs.print_entries.push_short_by.Goals as goal

pub returns : goal.returns
returns c = rw (short_by c.args.node c.requires) c.push.ensures
