use Rattle.waiting_laws.proofs.Entries.{reachable-patience}
use Rattle.waiting_laws.proofs.reachable_waits_find_nothing.Goals as goal

pub returns : goal.returns
returns c = reachable-patience
