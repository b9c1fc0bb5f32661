use Rattle.std.proofs.Common.{◌≡◌, ◌-◌}
use Rattle.frame_bytes.specs.Readers.{many}
use Rattle.frame_bytes.proofs.Loop.{with_front}
use Rattle.waiter_fields.specs.Waiters.{waiter_at}
use Rattle.waiter_fields.proofs.reading.read_many.Given as goal

abbrev pub invariant-loop : goal.invariant-loop
invariant-loop g l =
    with_front l.waiters.items (many (waiter_at g.C.WaitingCalls.call_at) (l.count - l.counter) l.rest)
    ≡ many (waiter_at g.C.WaitingCalls.call_at) l.count l.bytes
