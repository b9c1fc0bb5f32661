use Rattle.rest_laws.proofs.Worlds.{rest_is_whole_lemma}
use Rattle.rest_laws.proofs.rest_is_whole.Goals as goal

pub returns : goal.returns
returns c = rest_is_whole_lemma
