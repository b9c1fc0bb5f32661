use Rattle.kernel_laws.proofs.NumberLaws.{removed_queues_stay_removed_lemma}
use Rattle.kernel_laws.proofs.removed_queues_stay_removed.Goals as goal

pub returns : goal.returns
returns c = removed_queues_stay_removed_lemma
