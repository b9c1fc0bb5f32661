use Rattle.turn_laws.proofs.Enabled.{enabled_turns_have_steps_lemma}
use Rattle.turn_laws.proofs.enabled_turns_have_steps.Goals as goal

pub returns : goal.returns
returns c = enabled_turns_have_steps_lemma
