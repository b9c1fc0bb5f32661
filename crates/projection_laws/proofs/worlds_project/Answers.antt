use Rattle.projection_laws.proofs.Worlds.{worlds_project_lemma}
use Rattle.projection_laws.proofs.worlds_project.Goals as goal

pub returns : goal.returns
returns c = worlds_project_lemma
