use Rattle.sysv_sem.proofs.Taking.{AreCallers}
use Rattle.sysv_sem.proofs.Walk.{Reached}
use Rattle.sysv_sem.proofs.waiters.callers.Given as goal

abbrev pub invariant-loop : goal.invariant-loop
invariant-loop l = Reached l.waiters.nodes (AreCallers l.nodes.items) l.at l.counter
