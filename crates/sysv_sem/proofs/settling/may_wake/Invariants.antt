use Rattle.sysv_sem.proofs.Rounds.{WaitSo}
use Rattle.sysv_sem.proofs.Walk.{Reached}
use Rattle.sysv_sem.proofs.settling.may_wake.Given as goal

abbrev pub invariant-loop : goal.invariant-loop
invariant-loop l = Reached l.waiters.nodes (WaitSo l.row) l.at l.counter
