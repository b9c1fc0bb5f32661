use Rattle.world_limit_laws.proofs.Worlds.{opening-is-within}
use Rattle.world_limit_laws.proofs.opening_worlds_are_within_limits.Goals as goal

pub returns : goal.returns
returns c = opening-is-within
