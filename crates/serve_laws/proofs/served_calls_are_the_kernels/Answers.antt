use Rattle.serve_laws.proofs.Steps.{served-calls}
use Rattle.serve_laws.proofs.served_calls_are_the_kernels.Goals as goal

pub returns : goal.returns
returns c = served-calls
