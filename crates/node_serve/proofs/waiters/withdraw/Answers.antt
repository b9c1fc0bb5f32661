use Rattle.std.proofs.Common.{refl, sym}
use Rattle.node_serve.proofs.Withdrawals.{withdraws-nowhere, withdraws-there}
use Rattle.node_serve.proofs.waiters.withdraw.Goals as goal

pub returns-in-Some : goal.returns-in-Some
returns-in-Some c =
    rw c.come_to.ensures
    (withdraws-there c.args.deeds.now.bodies c.args.name c.args.pid c.args.ticket c.in-Some.body.now
    c.take_out.new.body c.take_out.result c.rise.ensures (sym c.in-Some.ensures.value) c.take_out.ensures)

pub returns-in-None : goal.returns-in-None
returns-in-None c = (
  withdraws-nowhere c.args.deeds.now.bodies c.args.name c.args.pid c.args.ticket (sym c.in-None.ensures.value),
  refl,
)
