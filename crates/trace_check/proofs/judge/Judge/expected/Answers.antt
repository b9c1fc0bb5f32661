use Rattle.std.proofs.Common.{◌∙◌, ap, sym}
use Rattle.std.specs.Prelude.{option_copied}
use Rattle.trace_check.proofs.ToldLaws.{told-behind}
use Rattle.trace_check.proofs.judge.Judge.expected.Goals as goal

pub returns-in-Some-clause-told : goal.returns-in-Some-clause-told
returns-in-Some-clause-told c =
    told-behind c.begun.result c.args.script.now c.args.pid c.args.call.now c.args.behind.now c.in-Some.rest.now
    c.args.self.now c.begun.new.self (sym c.in_ok-rest.ensures ∙ ap option_copied c.in-Some.is) c.begun.ensures.told
