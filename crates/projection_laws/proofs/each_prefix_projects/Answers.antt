use Rattle.projection_laws.proofs.Worlds.{each_prefix_projects_lemma}
use Rattle.projection_laws.proofs.each_prefix_projects.Goals as goal

pub returns : goal.returns
returns c = each_prefix_projects_lemma
