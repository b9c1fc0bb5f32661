use Rattle.kernel_laws.proofs.NumberLaws.{used_numbers_stay_lemma}
use Rattle.kernel_laws.proofs.used_numbers_stay.Goals as goal

pub returns : goal.returns
returns c = used_numbers_stay_lemma
