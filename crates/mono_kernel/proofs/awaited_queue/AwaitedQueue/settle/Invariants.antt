use Rattle.std.proofs.Common.{◌≡◌, ◌≤◌, ◌-◌, length, vec_capacity}
use Rattle.waiting_model.specs.Queue.{try_queue}
use Rattle.mono_kernel.specs.Settling.{SettlesOn}
use Rattle.mono_kernel.proofs.awaited_queue.AwaitedQueue.settle.Given as goal

abbrev pub invariant-loop-round : goal.invariant-loop-round
invariant-loop-round l =
    record {
      as_many : length l.woken.items ≡ l.round;
      room : length l.initial.self.waiters ≤ vec_capacity l.woken;
      settles : SettlesOn try_queue l.initial.self l.woken.items (length l.initial.self.waiters - l.round) l.self;
    }
