use Rattle.waiting_laws.proofs.Removals.{queue-removals}
use Rattle.waiting_laws.proofs.queue_removals_wake_all.Goals as goal

pub returns : goal.returns
returns c = queue-removals
