use Rattle.trace_check.specs.Cursors.{places_of}
use Rattle.trace_check.specs.FirstFault.{first_going}
use Rattle.trace_check.proofs.JudgeLaws.{going}
use Rattle.trace_check.proofs.judge.Judge.totals.Goals as goal

pub returns-in-Some : goal.returns-in-Some
returns-in-Some c =
    going c.args.script.now c.args.line c.args.entries c.args.self.now.kernel
    c.args.self.now.cursors.entries c.args.after.now c.in-Some.pid c.last_doom.result c.in_ok-due.due
    (first_going (places_of c.args.script.now c.args.self.now.cursors.entries))
    c.in-Some.ensures c.last_doom.ensures c.in_ok-due.ensures
