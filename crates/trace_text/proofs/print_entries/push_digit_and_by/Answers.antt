use Rattle.trace_text.proofs.Digits.{digit_and_by}
use Rattle.trace_text.proofs.print_entries.push_digit_and_by.Goals as goal

pub returns : goal.returns
returns c = rw (digit_and_by c.args.number c.requires) c.push.ensures
