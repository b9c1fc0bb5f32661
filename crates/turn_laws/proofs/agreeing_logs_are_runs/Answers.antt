use Rattle.turn_laws.proofs.AgreeingLogs.{agreeing_logs_are_runs_lemma}
use Rattle.turn_laws.proofs.agreeing_logs_are_runs.Goals as goal

pub returns : goal.returns
returns c = agreeing_logs_are_runs_lemma
