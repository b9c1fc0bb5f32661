use Rattle.std.proofs.Common.{◌∙◌, arith}
use Rattle.std.proofs.lemmas.List.{take_all}
use Rattle.world_core.specs.Counts.{counts_of}
use Rattle.world_core.proofs.Counting.{counting-next, length-counts, some-read}
use Rattle.world_core.proofs.counts.count_all.Goals as goal

pub count_of-requires : goal.count_of-requires
count_of-requires c = record {
  whole =
      some-read c.args.nodes.now c.loop-at.at c.index-nodes-at.result c.requires.whole (omega arith)
      c.index-nodes-at.is;
}

pub loop-at-preserved : goal.loop-at-preserved
loop-at-preserved c =
    counting-next c.args.nodes.now c.args.inboxes.now c.loop-at.at c.count_of.result c.loop-at.counts
    c.push.new.self _ _ c.loop-at.invariant (omega arith) (omega (arith, c.requires.width)) c.index-nodes-at.is
    c.index-inboxes-at.is c.count_of.ensures.count c.in_ok-push.ensures

pub returns : goal.returns
returns c =
    let width = length-counts c.args.nodes.now c.args.inboxes.now c.requires.width in
    c.loop-at.invariant ∙ take_all c.loop-at.at (counts_of c.args.nodes.now c.args.inboxes.now) (omega (arith, width))
