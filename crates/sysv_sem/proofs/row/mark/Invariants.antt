use Rattle.std.proofs.Common.{◌≡◌, length, take}
use Rattle.std.specs.List.{fold}
use Rattle.kernel_model.specs.SemaphoreSet.{mark}
use Rattle.sysv_sem.proofs.row.mark.Given as goal

abbrev pub invariant-loop-step : goal.invariant-loop-step
invariant-loop-step l =
    record {
      as_many : length l.semaphores.items ≡ length l.initial.semaphores.items;
      marked : l.semaphores.items ≡ fold (mark l.pid) l.initial.semaphores.items (take l.step-index l.steps);
    }
