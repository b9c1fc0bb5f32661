use Rattle.kernel_laws.proofs.LifeLaws.{lives_go_one_way_lemma}
use Rattle.kernel_laws.proofs.lives_go_one_way.Goals as goal

pub returns : goal.returns
returns c = lives_go_one_way_lemma
