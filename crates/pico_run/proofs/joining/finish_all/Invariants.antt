use Rattle.std.specs.Vec.Iter.{into_iter_items}
use Rattle.pico_run.proofs.Leaving.{IsLeaving}
use Rattle.pico_run.proofs.joining.finish_all.Given as goal

-- so far
abbrev pub invariant-loop-logged : goal.invariant-loop-logged
invariant-loop-logged l = IsLeaving l.fn.nodes.items l.parts (into_iter_items l.logged-iterator)
