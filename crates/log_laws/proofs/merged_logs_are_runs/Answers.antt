use Rattle.log_laws.proofs.Merged.{merged_logs_are_runs_lemma}
use Rattle.log_laws.proofs.merged_logs_are_runs.Goals as goal

pub returns : goal.returns
returns c = merged_logs_are_runs_lemma
