use Rattle.log_laws.proofs.Journals.{one_journal_lemma}
use Rattle.log_laws.proofs.one_journal.Goals as goal

pub returns : goal.returns
returns c = one_journal_lemma
