use Rattle.std.proofs.Common.{◌≤◌, length, vec_len, vec_capacity}
use Rattle.sysv_sem.proofs.Taking.{AreTakers}
use Rattle.sysv_sem.proofs.Walk.{Reached}
use Rattle.sysv_sem.proofs.waiters.note_takers.Given as goal

abbrev pub invariant-loop : goal.invariant-loop
invariant-loop l =
    record {
      reached : Reached l.waiters.nodes (AreTakers l.pids.items) l.at l.counter;
      few : vec_len l.pids ≤ l.counter;
      room : length l.waiters.nodes ≤ vec_capacity l.pids;
    }
