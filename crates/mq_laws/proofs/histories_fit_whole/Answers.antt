use Rattle.mq_laws.proofs.Fits.{histories-fit-whole}
use Rattle.mq_laws.proofs.histories_fit_whole.Goals as goal

pub returns : goal.returns
returns c = histories-fit-whole
