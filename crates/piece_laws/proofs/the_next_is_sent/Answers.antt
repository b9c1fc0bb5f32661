use Rattle.piece_laws.proofs.Taking.{the_next_is_sent_lemma}
use Rattle.piece_laws.proofs.the_next_is_sent.Goals as goal

pub returns : goal.returns
returns c = the_next_is_sent_lemma
