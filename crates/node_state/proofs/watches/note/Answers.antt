use Rattle.std.proofs.Common.{sym}
use Rattle.node_state.proofs.Watching.{noted-lands}
use Rattle.node_state.proofs.watches.note.Goals as goal

pub returns-in-Some-clause-noted : goal.returns-in-Some-clause-noted
returns-in-Some-clause-noted c =
    noted-lands c.args.watches.now.entries _ c.args.number _ c.in-Some.watch.now c.note.new.self c.args.reader
    c.get_mut.ensures.ordered (sym c.in-Some.ensures.value) c.note.ensures.counted
    (c.get_mut.follows.holds c.note.new.self).0
