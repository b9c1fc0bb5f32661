use Rattle.node_state.proofs.Lists.{contained-as-found}
use Rattle.node_state.proofs.leases.holds.Goals as goal

pub returns : goal.returns
returns c = contained-as-found _ c.args.lease.now c.args.number c.holds.ensures.0 c.holds.ensures.1
