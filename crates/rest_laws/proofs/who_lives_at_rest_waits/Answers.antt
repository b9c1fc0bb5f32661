use Rattle.rest_laws.proofs.Worlds.{who_lives_at_rest_waits_lemma}
use Rattle.rest_laws.proofs.who_lives_at_rest_waits.Goals as goal

pub returns : goal.returns
returns c = who_lives_at_rest_waits_lemma
