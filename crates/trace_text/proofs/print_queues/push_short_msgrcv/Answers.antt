use Rattle.trace_text.proofs.Digits.{short_msgrcv}
use Rattle.trace_text.proofs.print_queues.push_short_msgrcv.Goals as goal

pub returns : goal.returns
returns c = rw (short_msgrcv c.args.id c.args.class c.requires.0 c.requires.1) c.push.ensures
