use Rattle.std.proofs.Common.{◌≡◌, ◌-◌, length}
use Rattle.frame_bytes.specs.Readers.{many}
use Rattle.frame_bytes.proofs.Loop.{with_front}
use Rattle.waiter_fields.specs.Ranges.{process_at}
use Rattle.waiter_fields.proofs.skipping.read_processes.Given as goal

abbrev pub invariant-loop : goal.invariant-loop
invariant-loop g l =
    record {
      read : with_front l.into.items (many (process_at g.C.WaitingCalls.call_at) (l.count - l.counter) l.rest)
          ≡ many (process_at g.C.WaitingCalls.call_at) l.count l.bytes;
      so_far : length l.into.items ≡ l.counter;
    }
