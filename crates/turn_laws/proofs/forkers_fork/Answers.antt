use Rattle.turn_laws.proofs.Forkers.{forkers_fork_lemma}
use Rattle.turn_laws.proofs.forkers_fork.Goals as goal

pub returns : goal.returns
returns c = forkers_fork_lemma
