use Rattle.std.proofs.Common.{◌∙◌, Err, arith, ap, sym}
use Rattle.move_rules.specs.Births.{is_read_as_new}
use Rattle.move_rules.proofs.Spelt.{spelled-is-read, unspelled-is-none}
use Rattle.move_rules.proofs.births.are_of_new_process.Goals as goal

pub returns-in-Ok : goal.returns-in-Ok
returns-in-Ok c =
    c.is_of_new_process.ensures
    ∙ ap is_read_as_new
    (sym (spelled-is-read c.args.name c.args.bytes.now c.in-Ok.body c.in-Ok.ensures.fits c.in-Ok.ensures.spelled))

pub returns-in-Err-NotABody : goal.returns-in-Err-NotABody
returns-in-Err-NotABody c =
    ap is_read_as_new
    (sym (unspelled-is-none c.args.name c.args.bytes.now (λ i. omega (arith, c.type_inv.bytes i))
    (c.in-Err-NotABody.ensures.refused (ap Err c.in-Err-NotABody.field-0-is))))
