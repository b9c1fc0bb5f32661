use Rattle.mq_laws.proofs.Together.{kernels-together}
use Rattle.mq_laws.proofs.kernels_step_together.Goals as goal

pub returns : goal.returns
returns c = kernels-together
