use Rattle.world_limit_laws.proofs.Worlds.{event-keeps-limits}
use Rattle.world_limit_laws.proofs.events_keep_limits.Goals as goal

pub returns : goal.returns
returns c = event-keeps-limits
