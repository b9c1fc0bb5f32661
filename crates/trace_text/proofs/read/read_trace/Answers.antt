use Rattle.trace_text.proofs.Again.{read-only}
use Rattle.trace_text.proofs.Whole.{read-ok}
use Rattle.trace_text.proofs.read.read_trace.Goals as goal

pub returns-clause-ok : goal.returns-clause-ok
returns-clause-ok c = read-ok c.args.script.now c.args.bytes.now c.args.first_line c.read.result c.read.ensures

pub returns-clause-only : goal.returns-clause-only
returns-clause-only c =
    read-only c.args.script.now c.requires.sound c.args.bytes.now c.args.first_line c.read.result c.read.ensures
