use Rattle.std.proofs.Common.{◌≡◌, None, find}
use Rattle.sysv_sem.specs.Waiters.{is_asked}
use Rattle.sysv_sem.proofs.Walk.{Reached}
use Rattle.sysv_sem.proofs.waiters.slot_of.Given as goal

abbrev pub invariant-loop : goal.invariant-loop
invariant-loop l = Reached l.waiters.nodes (λ ws. find (is_asked l.pid l.ticket) ws ≡ None) l.at l.counter
