use Rattle.std.specs.Vec.Iter.{into_iter_items}
use Rattle.journal_core.specs.InsideLock.{lock_of}
use Rattle.pico_run.proofs.Opens.{IsOpening}
use Rattle.pico_run.proofs.opening.open.Given as goal

-- some nodes are opened
abbrev pub invariant-loop-seat : goal.invariant-loop-seat
invariant-loop-seat l =
    IsOpening l.script (lock_of l.lock-inside) l.nodes.items (into_iter_items l.rows) (into_iter_items l.seat-iterator)
