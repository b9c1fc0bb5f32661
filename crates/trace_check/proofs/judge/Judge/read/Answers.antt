use Rattle.std.proofs.Common.{◌∙◌, sym}
use Rattle.trace_check.proofs.ToldLaws.{judges-entry}
use Rattle.trace_check.proofs.judge.Judge.read.Goals as goal

pub returns-in-Some-clause-judged : goal.returns-in-Some-clause-judged
returns-in-Some-clause-judged c =
    judges-entry c.args.script.now c.args.line c.args.text.now c.entry.result c.args.self.now c.entry.new.self
    c.in-Some.entry (sym c.in_ok-entry.ensures ∙ c.in-Some.is) c.entry.ensures.judged c.entry.ensures.tally
