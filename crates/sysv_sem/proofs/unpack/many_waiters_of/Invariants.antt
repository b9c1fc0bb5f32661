use Rattle.std.proofs.Common.{◌≡◌, ◌-◌}
use Rattle.frame_bytes.specs.Readers.{many}
use Rattle.frame_bytes.proofs.Loop.{with_front}
use Rattle.sysv_sem.specs.Reading.{waiter_at}
use Rattle.sysv_sem.proofs.unpack.many_waiters_of.Given as goal

abbrev pub invariant-loop : goal.invariant-loop
invariant-loop l =
    with_front l.waiters.items (many waiter_at (l.count - l.counter) l.rest) ≡ many waiter_at l.count l.bytes
