use Rattle.trace_check.proofs.CursorLaws.{has-call}
use Rattle.trace_check.proofs.cursor.Cursor.has_call.Goals as goal

pub returns-then-not-self : goal.returns-then-not-self
returns-then-not-self c =
    has-call c.args.script.now c.args.self.now c.has_line.result c.if-not-self.true c.has_line.ensures
