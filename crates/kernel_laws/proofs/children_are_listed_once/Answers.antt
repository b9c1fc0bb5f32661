use Rattle.kernel_laws.proofs.OnceAlong.{children_are_listed_once_lemma}
use Rattle.kernel_laws.proofs.children_are_listed_once.Goals as goal

pub returns : goal.returns
returns c = children_are_listed_once_lemma
