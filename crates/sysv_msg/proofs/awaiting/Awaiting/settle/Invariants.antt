use Rattle.std.proofs.Common.{◌≡◌, ◌≤◌, ◌-◌, length, vec_capacity}
use Rattle.waiting_model.specs.Queue.{try_queue}
use Rattle.waiter_fields.specs.Settling.{SettlesOn}
use Rattle.sysv_msg.proofs.awaiting.Awaiting.settle.Given as goal

abbrev pub invariant-loop-round : goal.invariant-loop-round
invariant-loop-round l =
    record {
      as_many : length l.wakes.items ≡ l.round;
      room : length l.initial.self.waiters ≤ vec_capacity l.wakes;
      settles : SettlesOn try_queue l.initial.self l.wakes.items (length l.initial.self.waiters - l.round) l.self;
    }
