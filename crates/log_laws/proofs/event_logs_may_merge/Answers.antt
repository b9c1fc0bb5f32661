use Rattle.log_laws.proofs.EventLogs.{event_logs_may_merge_lemma}
use Rattle.log_laws.proofs.event_logs_may_merge.Goals as goal

pub returns : goal.returns
returns c = event_logs_may_merge_lemma
