use Rattle.kernel_laws.proofs.QueueLaws.{queues_are_within_limits_lemma}
use Rattle.kernel_laws.proofs.queues_are_within_limits.Goals as goal

pub returns : goal.returns
returns c = queues_are_within_limits_lemma
