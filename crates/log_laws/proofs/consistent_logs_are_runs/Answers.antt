use Rattle.log_laws.proofs.Whole.{consistent_logs_are_runs_lemma}
use Rattle.log_laws.proofs.consistent_logs_are_runs.Goals as goal

pub returns : goal.returns
returns c = consistent_logs_are_runs_lemma
