use Rattle.kernel_laws.proofs.NumberLaws.{set_removals_last_lemma}
use Rattle.kernel_laws.proofs.set_removals_last.Goals as goal

pub returns : goal.returns
returns c = set_removals_last_lemma
