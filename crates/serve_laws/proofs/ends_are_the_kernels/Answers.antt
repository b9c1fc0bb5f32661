use Rattle.serve_laws.proofs.Ends.{ends-are-the-kernels}
use Rattle.serve_laws.proofs.ends_are_the_kernels.Goals as goal

pub returns : goal.returns
returns c = ends-are-the-kernels
