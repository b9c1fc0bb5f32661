use Rattle.std.proofs.Common.{subst}
use Rattle.trace_check.specs.Told.{Tells}
use Rattle.trace_check.specs.declared.judge.lines.Told.{Told}
use Rattle.trace_check.proofs.ToldLaws.{judges-before}
use Rattle.trace_check.proofs.judge.Judge.rest.Goals as goal

pub returns-in-Unread-clause-judged : goal.returns-in-Unread-clause-judged
returns-in-Unread-clause-judged c = λ before stays.
    judges-before c.args.script.now c.args.line c.args.text.now c.read.result before c.args.self.now c.read.new.self
    (subst (λ (told : Told). Tells told c.args.script.now c.args.text.now before c.args.self.now) c.in-Unread.is stays)
    c.read.ensures.judged
