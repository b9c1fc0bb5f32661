use Rattle.std.proofs.Common.{length, ap, ◌∙◌, arith}
use Rattle.world_core.proofs.Counting.{counted-sent, length-counts, some-read}
use Rattle.world_core.proofs.state.send_list.Goals as goal

pub count_of-requires : goal.count_of-requires
count_of-requires c = record {
  whole =
      some-read c.args.nodes.now c.args.at c.index-nodes-at.result c.requires.ready.seats.whole
      (omega (arith, c.requires.ready.seats.width, c.requires.place)) c.index-nodes-at.is;
}

pub set-requires-clause-there : goal.set-requires-clause-there
set-requires-clause-there c =
    let width = length-counts c.args.nodes.now c.args.inboxes.now.items c.requires.ready.seats.width in
    omega (arith, width, c.requires.ready.seats.width, c.requires.place, ap length c.requires.ready.counted)

pub returns-clause-counted : goal.returns-clause-counted
returns-clause-counted c =
    c.set.ensures
    ∙ counted-sent c.args.nodes.now c.args.inboxes.now.items c.args.at c.count_of.result c.args.counts.now
    c.index-nodes-at.result c.take_over.new.self _ c.requires.ready.counted
    (omega (arith, c.requires.ready.seats.width, c.requires.place)) c.requires.place
    c.index-nodes-at.is c.index.ensures c.count_of.ensures.count
