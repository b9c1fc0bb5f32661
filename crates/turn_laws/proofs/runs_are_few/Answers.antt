use Rattle.turn_laws.proofs.Counts.{runs_are_few_lemma}
use Rattle.turn_laws.proofs.runs_are_few.Goals as goal

pub returns : goal.returns
returns c = runs_are_few_lemma
