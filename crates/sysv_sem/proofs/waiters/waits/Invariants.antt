use Rattle.std.proofs.Common.{◌≡◌, false, nat_eq}
use Rattle.std.specs.List.{list_any}
use Rattle.sysv_sem.proofs.Walk.{Reached}
use Rattle.sysv_sem.proofs.waiters.waits.Given as goal

abbrev pub invariant-loop : goal.invariant-loop
invariant-loop l = Reached l.waiters.nodes (λ ws. list_any (λ w. nat_eq l.pid w.pid) ws ≡ false) l.at l.counter
