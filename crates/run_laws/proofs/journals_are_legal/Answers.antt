use Rattle.run_laws.proofs.Runs.{journals_are_legal_lemma}
use Rattle.run_laws.proofs.journals_are_legal.Goals as goal

pub returns : goal.returns
returns c = journals_are_legal_lemma
