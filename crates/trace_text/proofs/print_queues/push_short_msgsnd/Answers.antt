use Rattle.trace_text.proofs.Digits.{short_msgsnd}
use Rattle.trace_text.proofs.print_queues.push_short_msgsnd.Goals as goal

pub returns : goal.returns
returns c = rw (short_msgsnd c.args.id c.args.class c.requires.0 c.requires.1) c.push.ensures
