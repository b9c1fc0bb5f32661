use Rattle.rest_laws.proofs.Worlds.{names_have_one_owner_lemma}
use Rattle.rest_laws.proofs.names_have_one_owner.Goals as goal

pub returns : goal.returns
returns c = names_have_one_owner_lemma
