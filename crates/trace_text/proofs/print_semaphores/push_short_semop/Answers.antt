use Rattle.trace_text.proofs.Digits.{short_semop}
use Rattle.trace_text.proofs.print_semaphores.push_short_semop.Goals as goal

pub returns : goal.returns
returns c = rw (short_semop c.args.id c.requires) c.push.ensures
