use Rattle.sysv_sem.proofs.Passing.{Passing}
use Rattle.sysv_sem.proofs.unpack.behind_semaphores.Given as goal

abbrev pub invariant-loop : goal.invariant-loop
invariant-loop l = Passing l.count l.counter l.bytes l.rest
