use Rattle.log_laws.proofs.Follows.{logs_lead_there_lemma}
use Rattle.log_laws.proofs.logs_lead_there.Goals as goal

pub returns : goal.returns
returns c = logs_lead_there_lemma
