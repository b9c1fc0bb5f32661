use Rattle.kernel_laws.proofs.Refusals.{refusals_change_nothing_lemma}
use Rattle.kernel_laws.proofs.refusals_change_nothing.Goals as goal

pub returns : goal.returns
returns c = refusals_change_nothing_lemma
