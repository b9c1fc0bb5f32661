use Rattle.turn_laws.proofs.Sends.{sends_go_to_others_lemma}
use Rattle.turn_laws.proofs.sends_go_to_others.Goals as goal

pub returns : goal.returns
returns c = sends_go_to_others_lemma
