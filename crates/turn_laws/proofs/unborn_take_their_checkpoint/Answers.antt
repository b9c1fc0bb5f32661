use Rattle.turn_laws.proofs.Births.{unborn_take_their_checkpoint_lemma}
use Rattle.turn_laws.proofs.unborn_take_their_checkpoint.Goals as goal

pub returns : goal.returns
returns c = unborn_take_their_checkpoint_lemma
