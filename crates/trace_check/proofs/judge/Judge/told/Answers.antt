use Rattle.std.proofs.Common.{sym}
use Rattle.trace_check.proofs.ToldLaws.{told-by}
use Rattle.trace_check.proofs.judge.Judge.told.Goals as goal

pub returns-in-Some-written_call-clause-told : goal.returns-in-Some-written_call-clause-told
returns-in-Some-written_call-clause-told c =
    told-by c.expected.result c.args.script.now c.in-Some.pid c.args.text.now c.in-Some.behind.now c.args.self.now
    c.expected.new.self (sym c.in-Some.ensures.value) c.expected.ensures.told

pub returns-in-None-clause-told : goal.returns-in-None-clause-told
returns-in-None-clause-told c =
    told-by c.computed.result c.args.script.now c.in-Some.pid c.args.text.now c.in-Some.behind.now c.args.self.now
    c.computed.new.self (sym c.in-Some.ensures.value) c.computed.ensures.told
