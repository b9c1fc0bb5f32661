use Rattle.log_laws.proofs.EventLogs.{events_merge_as_turns_lemma}
use Rattle.log_laws.proofs.events_merge_as_turns.Goals as goal

pub returns : goal.returns
returns c = events_merge_as_turns_lemma
