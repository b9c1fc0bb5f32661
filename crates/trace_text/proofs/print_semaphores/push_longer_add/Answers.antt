use Rattle.trace_text.proofs.Digits.{longer_add}
use Rattle.trace_text.proofs.print_semaphores.push_longer_add.Goals as goal

pub returns : goal.returns
returns c = rw (longer_add c.args.num c.args.add c.requires.0 c.requires.1 c.requires.2) c.push.ensures
