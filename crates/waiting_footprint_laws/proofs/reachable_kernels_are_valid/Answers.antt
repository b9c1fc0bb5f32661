use Rattle.waiting_footprint_laws.proofs.Reachable.{reachable-valid}
use Rattle.waiting_footprint_laws.proofs.reachable_kernels_are_valid.Goals as goal

pub returns : goal.returns
returns c = reachable-valid c.reachable_waits_find_nothing.ensures
