use Rattle.kernel_laws.proofs.NumberLaws.{queue_removals_last_lemma}
use Rattle.kernel_laws.proofs.queue_removals_last.Goals as goal

pub returns : goal.returns
returns c = queue_removals_last_lemma
