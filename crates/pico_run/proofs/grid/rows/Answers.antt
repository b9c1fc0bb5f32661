use Rattle.pico_run.proofs.Growing.{grid-more, grid-room}
use Rattle.pico_run.proofs.grid.rows.Goals as goal

pub with_one_more-requires-clause-few : goal.with_one_more-requires-clause-few
with_one_more-requires-clause-few c = grid-room _ _ _ c.loop.invariant.grid c.loop-test.true c.requires

pub loop-preserved : goal.loop-preserved
loop-preserved c = record {
  grid = grid-more _ _ _ c.loop.invariant.grid c.in_ok-rows.ensures.grown;
  new = c.in_ok-rows.ensures.new;
}
