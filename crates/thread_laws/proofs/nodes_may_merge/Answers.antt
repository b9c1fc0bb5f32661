use Rattle.thread_laws.proofs.Runs.{nodes_may_merge_lemma}
use Rattle.thread_laws.proofs.nodes_may_merge.Goals as goal

pub returns : goal.returns
returns c = nodes_may_merge_lemma
