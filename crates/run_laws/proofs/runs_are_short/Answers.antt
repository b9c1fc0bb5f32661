use Rattle.run_laws.proofs.Runs.{runs_are_short_lemma}
use Rattle.run_laws.proofs.runs_are_short.Goals as goal

pub returns : goal.returns
returns c = runs_are_short_lemma
