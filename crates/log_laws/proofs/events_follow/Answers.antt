use Rattle.log_laws.proofs.Follows.{events_follow_lemma}
use Rattle.log_laws.proofs.events_follow.Goals as goal

pub returns : goal.returns
returns c = events_follow_lemma
