use Rattle.std.proofs.Common.{IsSome, arith}
use Rattle.world_core.proofs.Counting.{some-read}
use Rattle.world_core.proofs.UnderWay.{calls-here, left-first, left-found, left-next, left-none}
use Rattle.world_core.proofs.state.is_call_under_way.Goals as goal

pub loop-at-init : goal.loop-at-init
loop-at-init c = left-first c.args.nodes.now

pub has_call_under_way-requires : goal.has_call_under_way-requires
has_call_under_way-requires c = record {
  whole = some-read c.args.nodes.now c.loop-at.at c.index-nodes-at.result c.requires (omega arith) c.index-nodes-at.is;
}

pub returns-then-has_call_under_way : goal.returns-then-has_call_under_way
returns-then-has_call_under_way c =
    let there = some-read c.args.nodes.now c.loop-at.at c.index-nodes-at.result c.requires (omega arith)
    c.index-nodes-at.is in
    left-found c.args.nodes.now c.loop-at.at c.index-nodes-at.result c.has_call_under_way.result c.loop-at.invariant
    (omega arith) c.index-nodes-at.is
    (calls-here c.index-nodes-at.result c.has_call_under_way.result there c.has_call_under_way.ensures)
    c.if-has_call_under_way.true

pub loop-at-preserved : goal.loop-at-preserved
loop-at-preserved c =
    let there = some-read c.args.nodes.now c.loop-at.at c.index-nodes-at.result c.requires (omega arith)
    c.index-nodes-at.is in
    left-next c.args.nodes.now c.loop-at.at c.index-nodes-at.result c.has_call_under_way.result c.loop-at.invariant
    (omega arith) c.index-nodes-at.is
    (calls-here c.index-nodes-at.result c.has_call_under_way.result there c.has_call_under_way.ensures)
    c.if-has_call_under_way.false

pub returns : goal.returns
returns c = left-none c.args.nodes.now c.loop-at.at c.loop-at.invariant (omega arith)
