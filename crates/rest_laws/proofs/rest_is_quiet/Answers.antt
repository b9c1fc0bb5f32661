use Rattle.rest_laws.proofs.Worlds.{rest_is_quiet_lemma}
use Rattle.rest_laws.proofs.rest_is_quiet.Goals as goal

pub returns : goal.returns
returns c = rest_is_quiet_lemma
