use Rattle.run_laws.proofs.Schedules.{schedules_are_runs_lemma}
use Rattle.run_laws.proofs.schedules_are_runs.Goals as goal

pub returns : goal.returns
returns c = schedules_are_runs_lemma
