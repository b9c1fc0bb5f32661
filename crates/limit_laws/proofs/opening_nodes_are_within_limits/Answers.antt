use Rattle.limit_laws.proofs.Turns.{opening-within}
use Rattle.limit_laws.proofs.opening_nodes_are_within_limits.Goals as goal

pub returns : goal.returns
returns c = opening-within
