use Rattle.std.proofs.Common.{◌≡◌, ◌++◌, length, take, drop}
use Rattle.kernel_model.specs.SemaphoreSet.{with_values}
use Rattle.sysv_sem.proofs.row.write_values.Given as goal

abbrev pub invariant-loop-place : goal.invariant-loop-place
invariant-loop-place l =
    record {
      as_many : length l.semaphores.items ≡ length l.initial.semaphores.items;
      written : l.semaphores.items ≡ take l.place (with_values l.initial.semaphores.items l.values)
          ++ drop l.place l.initial.semaphores.items;
    }
