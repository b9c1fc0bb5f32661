use Rattle.turn_laws.proofs.Forkers.{one_forks_lemma}
use Rattle.turn_laws.proofs.one_forks.Goals as goal

pub returns : goal.returns
returns c = one_forks_lemma
