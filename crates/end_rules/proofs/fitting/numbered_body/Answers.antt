use Rattle.std.proofs.Common.{◌∙◌, ap, sym}
use Rattle.pico_base.specs.declared.numbers.Name.TheVariants.{Proc}
use Rattle.end_rules.proofs.Read.{numbered-read}
use Rattle.end_rules.proofs.fitting.numbered_body.Goals as goal

pub returns-in-Some : goal.returns-in-Some
returns-in-Some c =
    numbered-read c.args.deed.now c.pid.inside.0 c.as_slice.result.now c.in_ok-body.field-0 _
    (c.in-Proc.is ∙ ap Proc (sym c.pid.view_is))
    c.as_slice.ensures
    c.in-Some.is c.in_ok-body.ensures

pub returns-in-None : goal.returns-in-None
returns-in-None c =
    numbered-read c.args.deed.now c.pid.inside.0 c.as_slice.result.now c.in_ok-body.field-0 _
    (c.in-Proc.is ∙ ap Proc (sym c.pid.view_is))
    c.as_slice.ensures
    c.in-None.is c.in_ok-body.ensures
