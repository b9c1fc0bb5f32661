use Rattle.waiting_laws.proofs.Removals.{set-removals}
use Rattle.waiting_laws.proofs.set_removals_wake_all.Goals as goal

pub returns : goal.returns
returns c = set-removals
