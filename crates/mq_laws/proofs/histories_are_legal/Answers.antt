use Rattle.mq_laws.proofs.Legal.{histories-legal}
use Rattle.mq_laws.proofs.histories_are_legal.Goals as goal

pub returns : goal.returns
returns c = histories-legal
