use Rattle.std.proofs.Common.{◌≡◌, length, drop}
use Rattle.kernel_model.specs.SemaphoreSet.{try_ops, try_from}
use Rattle.sysv_sem.proofs.trial.try_in_order.Given as goal

abbrev pub invariant-loop-place : goal.invariant-loop-place
invariant-loop-place l =
    record {
      as_many : length l.values.items ≡ length l.initial.values.items;
      rest : try_ops l.initial.values.items l.steps ≡ try_from l.place l.values.items (drop l.place l.steps);
    }
