use Rattle.kernel_laws.proofs.ValidLaws.{children_have_one_parent_lemma}
use Rattle.kernel_laws.proofs.children_have_one_parent.Goals as goal

pub returns : goal.returns
returns c = children_have_one_parent_lemma
