use Rattle.waiting_laws.proofs.Carrying.{nodes-dont-matter}
use Rattle.waiting_laws.proofs.nodes_dont_matter.Goals as goal

pub returns : goal.returns
returns c = nodes-dont-matter
