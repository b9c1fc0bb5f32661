use Rattle.waiting_laws.proofs.ParkWaits.{reachable-park-waits}
use Rattle.waiting_laws.proofs.reachable_kernels_park_waits.Goals as goal

pub returns : goal.returns
returns c = reachable-park-waits
