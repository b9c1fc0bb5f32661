use Rattle.trace_text.proofs.Digits.{longer_by}
use Rattle.trace_text.proofs.print_entries.push_longer_by.Goals as goal

pub returns : goal.returns
returns c = rw (longer_by c.args.node c.requires.0 c.requires.1) c.push.ensures
