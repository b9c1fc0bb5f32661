use Rattle.log_laws.proofs.MayMerge.{logs_may_merge_lemma}
use Rattle.log_laws.proofs.logs_may_merge.Goals as goal

pub returns : goal.returns
returns c = logs_may_merge_lemma
