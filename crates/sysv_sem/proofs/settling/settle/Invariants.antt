use Rattle.std.proofs.Common.{◌≡◌, ◌≤◌, ◌-◌, length, vec_capacity}
use Rattle.sysv_sem.specs.Settling.{SettlesOn}
use Rattle.sysv_sem.specs.Waiters.{held, waiters_in, try_steps}
use Rattle.sysv_sem.proofs.settling.settle.Given as goal

abbrev pub invariant-loop-round : goal.invariant-loop-round
invariant-loop-round l =
    record {
      as_many : length l.wakes.items ≡ l.round;
      room : length l.fn.waiters.nodes ≤ vec_capacity l.wakes;
      settles : SettlesOn try_steps (held l.fn.row l.fn.waiters.nodes) l.wakes.items
          (length (waiters_in l.fn.waiters.nodes) - l.round) (held l.row l.waiters.nodes);
    }
