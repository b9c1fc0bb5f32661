use Rattle.script_reader.proofs.Openings.{opens_otherwise}
use Rattle.script_reader.proofs.says.may_open.Goals as goal

pub returns-in-Some : goal.returns-in-Some
returns-in-Some c =
    let some = c.in-Some in
    opens_otherwise c.args.bytes.now some.first.now some.field-0-1.now c.is_opener.result some.ensures.cases.0
    c.is_opener.ensures
