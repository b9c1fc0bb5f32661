use Rattle.std.proofs.Common.{◌≡◌, ◌≤◌, take}
use Rattle.std.specs.Prelude.{count_by}
use Rattle.waiting_model.specs.SemaphoreSet.{stop_of, steps_of}
use Rattle.mono_kernel.specs.Waiters.{tests}
use Rattle.mono_kernel.proofs.awaited_set.AwaitedSet.count_waiters.Given as goal

abbrev pub invariant-loop-place : goal.invariant-loop-place
invariant-loop-place l =
    record {
      same : l.self ≡ l.initial.self;
      few : l.count ≤ l.place;
      counted : l.count
          ≡ count_by (λ w. tests l.look l.num (stop_of l.initial.self.state (steps_of w.call)))
          (take l.place l.initial.self.waiters);
    }
