use Rattle.std.proofs.Common.{◌≡◌, ◌≤◌, length, map, take, vec_capacity}
use Rattle.mono_kernel.specs.Waiters.{eidrm_for}
use Rattle.mono_kernel.proofs.awaited_queue.refusals_of.Given as goal

abbrev pub invariant-loop-waiter : goal.invariant-loop-waiter
invariant-loop-waiter l =
    record {
      as_many : length l.woken.items ≡ l.waiter-index;
      room : length l.waiters ≤ vec_capacity l.woken;
      told : l.woken.items ≡ map eidrm_for (take l.waiter-index l.waiters);
    }
