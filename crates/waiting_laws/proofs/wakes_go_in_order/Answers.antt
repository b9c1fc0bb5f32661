use Rattle.waiting_laws.proofs.Order.{wakes-in-order}
use Rattle.waiting_laws.proofs.wakes_go_in_order.Goals as goal

pub returns : goal.returns
returns c = wakes-in-order
