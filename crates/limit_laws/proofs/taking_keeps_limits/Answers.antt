use Rattle.limit_laws.proofs.Turns.{taken-within}
use Rattle.limit_laws.proofs.taking_keeps_limits.Goals as goal

pub returns : goal.returns
returns c = taken-within
