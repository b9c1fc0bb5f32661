use Rattle.piece_laws.proofs.Taking.{taken_are_sent_lemma}
use Rattle.piece_laws.proofs.taken_are_sent.Goals as goal

pub returns : goal.returns
returns c = taken_are_sent_lemma
