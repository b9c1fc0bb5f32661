use Rattle.rest_laws.proofs.Worlds.{somebody_waits_where_stalled_lemma}
use Rattle.rest_laws.proofs.somebody_waits_where_stalled.Goals as goal

pub returns : goal.returns
returns c = somebody_waits_where_stalled_lemma
