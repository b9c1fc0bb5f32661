use Rattle.waiting_laws.proofs.Histories.{histories-as-before}
use Rattle.waiting_laws.proofs.histories_are_as_before.Goals as goal

pub returns : goal.returns
returns c = histories-as-before
