use Rattle.log_laws.proofs.Drawn.{stamps_are_few_lemma}
use Rattle.log_laws.proofs.stamps_are_few.Goals as goal

pub returns : goal.returns
returns c = stamps_are_few_lemma
