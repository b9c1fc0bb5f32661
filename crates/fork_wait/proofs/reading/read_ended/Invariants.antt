use Rattle.std.proofs.Common.{◌≡◌, ◌-◌, length}
use Rattle.body_fields.proofs.Many.{with_front}
use Rattle.fork_wait.specs.Reading.{all_ended_at}
use Rattle.fork_wait.proofs.reading.read_ended.Given as goal

abbrev pub invariant-loop : goal.invariant-loop
invariant-loop l =
    record {
      read : with_front l.into.items (all_ended_at (l.count - l.counter) l.rest) ≡ all_ended_at l.count l.bytes;
      so_far : length l.into.items ≡ l.counter;
    }
