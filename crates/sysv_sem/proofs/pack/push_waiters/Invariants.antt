use Rattle.sysv_sem.proofs.Packing.{ArePacked}
use Rattle.sysv_sem.proofs.Walk.{Reached}
use Rattle.sysv_sem.proofs.pack.push_waiters.Given as goal

abbrev pub invariant-loop : goal.invariant-loop
invariant-loop l = Reached l.waiters.nodes (ArePacked l.fn.out.items l.out.items) l.at l.counter
