use Rattle.run_laws.proofs.Runs.{enabled_events_have_steps_lemma}
use Rattle.run_laws.proofs.enabled_events_have_steps.Goals as goal

pub returns : goal.returns
returns c = enabled_events_have_steps_lemma
