use Rattle.std.proofs.Common.{◌≡◌, drop}
use Rattle.std.specs.List.{list_all}
use Rattle.sysv_sem.specs.Reading.{waits}
use Rattle.sysv_sem.proofs.unpack.all_wait.Given as goal

-- all wait where those who are left do
abbrev pub invariant-loop-waiter : goal.invariant-loop-waiter
invariant-loop-waiter l =
    record {
      same : l.row ≡ l.fn.row;
      rest : list_all (waits l.fn.row) (drop l.waiter-index l.waiters) ≡ list_all (waits l.fn.row) l.waiters;
    }
