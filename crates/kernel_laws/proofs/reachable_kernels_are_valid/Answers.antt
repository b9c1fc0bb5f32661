use Rattle.kernel_laws.proofs.ValidLaws.{reachable_kernels_are_valid_lemma}
use Rattle.kernel_laws.proofs.reachable_kernels_are_valid.Goals as goal

pub returns : goal.returns
returns c = reachable_kernels_are_valid_lemma
