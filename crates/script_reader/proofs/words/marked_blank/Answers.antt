use Rattle.script_reader.proofs.Marked.{blank_marked}
use Rattle.script_reader.proofs.words.marked_blank.Goals as goal

pub returns-clause-value : goal.returns-clause-value
returns-clause-value c =
    let from = c.next_set.ensures in
    (blank_marked c.args.line.now c.args.stops.ends c.args.stops.solids c.args.start c.next_set.result
    c.requires.stops c.requires.inside from.low from.clear from.set).1

pub returns-clause-within : goal.returns-clause-within
returns-clause-within c =
    let from = c.next_set.ensures in
    (blank_marked c.args.line.now c.args.stops.ends c.args.stops.solids c.args.start c.next_set.result
    c.requires.stops c.requires.inside from.low from.clear from.set).0
