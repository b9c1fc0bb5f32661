use Rattle.kernel_laws.proofs.EntryLaws.{entries_keep_validity_lemma}
use Rattle.kernel_laws.proofs.entries_keep_validity.Goals as goal

pub returns : goal.returns
returns c = entries_keep_validity_lemma
