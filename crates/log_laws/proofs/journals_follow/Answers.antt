use Rattle.log_laws.proofs.JournalsFollow.{journals_follow_lemma}
use Rattle.log_laws.proofs.journals_follow.Goals as goal

pub returns : goal.returns
returns c = journals_follow_lemma
