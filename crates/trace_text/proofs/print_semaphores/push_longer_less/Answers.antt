use Rattle.trace_text.proofs.Digits.{longer_less}
use Rattle.trace_text.proofs.print_semaphores.push_longer_less.Goals as goal

pub returns : goal.returns
returns c = rw (longer_less c.args.num c.args.less c.requires.0 c.requires.1 c.requires.2) c.push.ensures
