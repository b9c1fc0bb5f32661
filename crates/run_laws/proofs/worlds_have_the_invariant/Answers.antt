use Rattle.run_laws.proofs.Runs.{worlds_have_the_invariant_lemma}
use Rattle.run_laws.proofs.worlds_have_the_invariant.Goals as goal

pub returns : goal.returns
returns c = worlds_have_the_invariant_lemma
