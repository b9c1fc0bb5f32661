use Rattle.rest_laws.proofs.Worlds.{none_lives_unless_stalled_lemma}
use Rattle.rest_laws.proofs.none_lives_unless_stalled.Goals as goal

pub returns : goal.returns
returns c = none_lives_unless_stalled_lemma
