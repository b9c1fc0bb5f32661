use Rattle.std.proofs.Common.{◌+◌}
use Rattle.script_reader.specs.Words.{lines_of}
use Rattle.image_text.proofs.Listed.{given-rise}
use Rattle.image_text.proofs.reading.read_listed.Goals as goal

pub returns-clause-rise : goal.returns-clause-rise
returns-clause-rise c =
    given-rise c.args.nodes c.in-Some-count_in.count (c.args.number + 1) (lines_of c.in-Some.after.now)
    c.read_events.result c.read_events.ensures
