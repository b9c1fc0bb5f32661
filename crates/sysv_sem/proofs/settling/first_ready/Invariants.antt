use Rattle.std.proofs.Common.{◌≡◌}
use Rattle.sysv_sem.proofs.Rounds.{WaitSo}
use Rattle.sysv_sem.proofs.Walk.{Reached}
use Rattle.sysv_sem.proofs.settling.first_ready.Given as goal

abbrev pub invariant-loop : goal.invariant-loop
invariant-loop l =
    record { same : l.row ≡ l.fn.row; reached : Reached l.waiters.nodes (WaitSo l.fn.row) l.at l.counter }
