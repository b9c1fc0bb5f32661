use Rattle.waiting_laws.proofs.Settled.{entries-settle}
use Rattle.waiting_laws.proofs.entries_settle.Goals as goal

pub returns : goal.returns
returns c = entries-settle
