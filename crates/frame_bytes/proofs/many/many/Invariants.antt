use Rattle.std.proofs.Common.{◌≡◌, ◌-◌}
use Rattle.frame_bytes.specs.Readers.{many}
use Rattle.frame_bytes.proofs.Loop.{with_front}
use Rattle.frame_bytes.proofs.many.many.Given as goal

abbrev pub invariant-loop : goal.invariant-loop
invariant-loop g l = with_front l.items.items (many g.T.Item.reader (l.count - l.counter) l.rest)
    ≡ many g.T.Item.reader l.count l.bytes
