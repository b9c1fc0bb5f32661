use Rattle.turn_laws.proofs.AgreeingLogs.{agreeing_logs_are_consistent_lemma}
use Rattle.turn_laws.proofs.agreeing_logs_are_consistent.Goals as goal

pub returns : goal.returns
returns c = agreeing_logs_are_consistent_lemma
