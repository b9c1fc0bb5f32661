use Rattle.mq_laws.proofs.Fits.{histories-fit}
use Rattle.mq_laws.proofs.histories_fit.Goals as goal

pub returns : goal.returns
returns c = histories-fit
