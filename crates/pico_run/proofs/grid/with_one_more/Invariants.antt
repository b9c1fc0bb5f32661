use Rattle.std.specs.Vec.Iter.{into_iter_items}
use Rattle.pico_run.proofs.Growing.{IsGrowing}
use Rattle.pico_run.proofs.grid.with_one_more.Given as goal

-- the streams with some of the nodes
abbrev pub invariant-loop-row : goal.invariant-loop-row
invariant-loop-row l = record {
  can_next : goal.iterator-loop-row.can_next l.row-iterator;
  is_finite : goal.iterator-loop-row.is_finite l.row-iterator;
  growing : IsGrowing l.fn.rows.items l.grown.items l.ends (into_iter_items l.row-iterator);
}
