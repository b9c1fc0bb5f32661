use Rattle.trace_text.proofs.Digits.{short_less}
use Rattle.trace_text.proofs.print_semaphores.push_short_less.Goals as goal

pub returns : goal.returns
returns c = rw (short_less c.args.num c.args.less c.requires.0 c.requires.1) c.push.ensures
