use Rattle.thread_laws.proofs.Follows.{steps_follow_lemma}
use Rattle.thread_laws.proofs.steps_follow.Goals as goal

pub returns : goal.returns
returns c = steps_follow_lemma c.sends_go_to_others.ensures
