use Rattle.waiting_laws.proofs.Settled.{reachable-settled}
use Rattle.waiting_laws.proofs.reachable_kernels_are_settled.Goals as goal

pub returns : goal.returns
returns c = reachable-settled
