use Rattle.std.proofs.Common.{arith}
use Rattle.pico_cmd.proofs.Left.{left_found, left_next, left_none, there_at}
use Rattle.pico_cmd.proofs.stalled.are_left_stalled.Goals as goal

pub is_left_stalled-requires : goal.is_left_stalled-requires
is_left_stalled-requires c = record {
  whole =
      there_at c.args.rested.now c.loop-one.one-index c.one-item.result c.requires.whole c.loop-one-test.true
      c.one-item.is;
}

pub returns-then-is_left_stalled : goal.returns-then-is_left_stalled
returns-then-is_left_stalled c =
    left_found c.args.rested.now c.loop-one.one-index c.one-item.result c.is_left_stalled.result
    c.loop-one.invariant c.loop-one-test.true c.one-item.is c.is_left_stalled.ensures c.if-is_left_stalled.true

pub loop-one-preserved : goal.loop-one-preserved
loop-one-preserved c =
    left_next c.args.rested.now c.loop-one.one-index c.one-item.result c.is_left_stalled.result
    c.loop-one.invariant c.loop-one-test.true c.one-item.is c.is_left_stalled.ensures c.if-is_left_stalled.false

pub returns : goal.returns
returns c = left_none c.args.rested.now c.loop-one.one-index c.loop-one.invariant (omega arith)
