use Rattle.std.proofs.Common.{ℕ, List}
use Rattle.std.specs.Vec.Iter.{into_iter_items}
use Rattle.node_lines.specs.declared.end.End.{End}
use Rattle.pico_run.specs.Grid.{Corner}
use Rattle.pico_run.specs.Settling.{HasCorners}
use Rattle.pico_run.proofs.Settles.{IsSettling}
use Rattle.pico_run.proofs.settling.settle_row.Given as goal

-- the streams with some of the nodes
abbrev pub invariant-loop-other : goal.invariant-loop-other
invariant-loop-other g l = record {
  can_next : (goal.iterator-loop-other g).can_next l.other-iterator;
  is_finite : (goal.iterator-loop-other g).is_finite l.other-iterator;
  settling : (further : ℕ) (corners : List (Corner End)) → HasCorners further l.fn.rows.items l.fn.row corners
      → IsSettling further corners l.olds.items (into_iter_items l.row) (into_iter_items l.other-iterator);
}
