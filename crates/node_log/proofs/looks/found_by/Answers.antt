use Rattle.std.proofs.lemmas.Result.{IfOk-weaker}
use Rattle.log_model.specs.Looks.{Looks}
use Rattle.log_model.specs.Turns.{may_take}
use Rattle.node_lines.specs.Lines.{may_look}
use Rattle.node_log.proofs.Places.{looks-of_script}
use Rattle.node_log.proofs.looks.found_by.Goals as goal

pub returns-clause-looks : goal.returns-clause-looks
returns-clause-looks g c = λ n here.
    let script = c.args.script.now in
    let olds = c.args.lines.now.items in
    let news = c.look.new.lines.items in
    IfOk-weaker c.look.result (λ found. Looks (may_look c.only-only.result) olds found news)
    (λ found. Looks (may_take script c.args.number n) olds found news)
    (λ found. looks-of_script script c.args.number _ _ olds found news c.requires.others
    (λ q low apart. c.only-only.ensures.may n q here low apart))
    c.look.ensures.looks
