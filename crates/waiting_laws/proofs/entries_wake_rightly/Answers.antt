use Rattle.waiting_laws.proofs.Woken.{reachable-wakes}
use Rattle.waiting_laws.proofs.entries_wake_rightly.Goals as goal

pub returns : goal.returns
returns c = reachable-wakes
