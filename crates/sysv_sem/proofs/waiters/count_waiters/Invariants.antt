use Rattle.std.proofs.Common.{◌≡◌, ◌≤◌}
use Rattle.std.specs.List.{count_by}
use Rattle.waiting_model.specs.SemaphoreSet.{stop_of, steps_of}
use Rattle.sysv_sem.specs.Calls.{tests}
use Rattle.sysv_sem.proofs.Walk.{Reached}
use Rattle.sysv_sem.proofs.waiters.count_waiters.Given as goal

abbrev pub invariant-loop : goal.invariant-loop
invariant-loop l =
    record {
      same : l.row ≡ l.fn.row;
      few : l.count ≤ l.counter;
      reached : Reached l.waiters.nodes
          (λ ws. l.count ≡ count_by (λ w. tests l.fn.look l.fn.num (stop_of l.fn.row (steps_of w.call))) ws) l.at
          l.counter;
    }
