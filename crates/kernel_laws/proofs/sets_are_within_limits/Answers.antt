use Rattle.kernel_laws.proofs.SetLaws.{sets_are_within_limits_lemma}
use Rattle.kernel_laws.proofs.sets_are_within_limits.Goals as goal

pub returns : goal.returns
returns c = sets_are_within_limits_lemma
