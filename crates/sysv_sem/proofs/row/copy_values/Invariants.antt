use Rattle.std.proofs.Common.{◌≡◌, ◌++◌, length, take, drop}
use Rattle.kernel_model.specs.SemaphoreSet.{values_of}
use Rattle.sysv_sem.proofs.row.copy_values.Given as goal

abbrev pub invariant-loop-place : goal.invariant-loop-place
invariant-loop-place l =
    record {
      as_many : length l.values.items ≡ length l.initial.values.items;
      copied : l.values.items ≡ take l.place (values_of l.semaphores) ++ drop l.place l.initial.values.items;
    }
