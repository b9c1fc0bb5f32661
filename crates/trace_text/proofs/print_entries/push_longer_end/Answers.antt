use Rattle.trace_text.proofs.Digits.{longer_end}
use Rattle.trace_text.proofs.print_entries.push_longer_end.Goals as goal

pub returns : goal.returns
returns c =
    rw (longer_end c.args.number c.args.node c.requires.0 c.requires.1 c.requires.2) c.push.ensures
