use Rattle.trace_text.proofs.Digits.{short_add}
use Rattle.trace_text.proofs.print_semaphores.push_short_add.Goals as goal

pub returns : goal.returns
returns c = rw (short_add c.args.num c.args.add c.requires.0 c.requires.1) c.push.ensures
