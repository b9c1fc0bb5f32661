use Rattle.rest_laws.proofs.Worlds.{never_waits_never_stalls_lemma}
use Rattle.rest_laws.proofs.never_waits_never_stalls.Goals as goal

pub returns : goal.returns
returns c = never_waits_never_stalls_lemma
