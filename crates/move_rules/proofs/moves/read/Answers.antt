use Rattle.std.proofs.Common.{Err, arith, ap}
use Rattle.move_rules.proofs.Spelt.{spelled-comes, unspelled-is-none}
use Rattle.move_rules.proofs.moves.read.Goals as goal

pub returns-in-Ok : goal.returns-in-Ok
returns-in-Ok c =
    spelled-comes c.args.name c.args.bytes.now c.in-Ok.body c.in-Ok.ensures.fits c.in-Ok.ensures.spelled

pub returns-in-Err-NotABody : goal.returns-in-Err-NotABody
returns-in-Err-NotABody c =
    unspelled-is-none c.args.name c.args.bytes.now (λ i. omega (arith, c.type_inv.bytes i))
    (c.in-Err-NotABody.ensures.refused (ap Err c.in-Err-NotABody.field-0-is))
