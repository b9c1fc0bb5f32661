use Rattle.std.specs.List.{AllByRecursion}
use Rattle.pico_run.specs.Grid.{IsGrid, IsNewRow, rows_of}
use Rattle.pico_run.proofs.grid.rows.Given as goal

-- the streams between some of the nodes
abbrev pub invariant-loop : goal.invariant-loop
invariant-loop l = record {
  grid : IsGrid l.counter (rows_of l.rows.items);
  new : AllByRecursion IsNewRow l.rows.items;
}
