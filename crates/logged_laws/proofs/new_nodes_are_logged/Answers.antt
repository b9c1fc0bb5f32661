use Rattle.logged_laws.proofs.Whole.{new_nodes_are_logged_lemma}
use Rattle.logged_laws.proofs.new_nodes_are_logged.Goals as goal

pub returns : goal.returns
returns c = new_nodes_are_logged_lemma
