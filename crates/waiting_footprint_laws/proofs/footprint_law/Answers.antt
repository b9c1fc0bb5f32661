use Rattle.waiting_footprint_laws.proofs.Law.{the_law}
use Rattle.waiting_footprint_laws.proofs.footprint_law.Goals as goal

pub returns : goal.returns
returns c = the_law
