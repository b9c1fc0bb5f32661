use Rattle.limit_laws.proofs.Turns.{started-within}
use Rattle.limit_laws.proofs.running_keeps_limits.Goals as goal

pub returns : goal.returns
returns c = started-within
