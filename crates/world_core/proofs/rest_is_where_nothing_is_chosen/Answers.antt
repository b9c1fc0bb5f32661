use Rattle.world_core.proofs.Rest.{rest_is_where_nothing_is_chosen_lemma}
use Rattle.world_core.proofs.rest_is_where_nothing_is_chosen.Goals as goal

pub returns : goal.returns
returns c = rest_is_where_nothing_is_chosen_lemma
