use Rattle.logged_laws.proofs.Whole.{turns_keep_logs_lemma}
use Rattle.logged_laws.proofs.turns_keep_logs.Goals as goal

pub returns : goal.returns
returns c = turns_keep_logs_lemma
