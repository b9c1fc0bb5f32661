use Rattle.kernel_laws.proofs.ValidLaws.{signals_are_sound_lemma}
use Rattle.kernel_laws.proofs.signals_are_sound.Goals as goal

pub returns : goal.returns
returns c = signals_are_sound_lemma
