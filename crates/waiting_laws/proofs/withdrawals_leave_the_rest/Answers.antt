use Rattle.waiting_laws.proofs.Removals.{withdrawals}
use Rattle.waiting_laws.proofs.withdrawals_leave_the_rest.Goals as goal

pub returns : goal.returns
returns c = withdrawals
