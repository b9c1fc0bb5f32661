use Rattle.std.proofs.Common.{arith, refl, ap, sym, Err}
use Rattle.node_serve.proofs.Reading.{body-read}
use Rattle.node_serve.proofs.ReadTaken.{read-spelled}
use Rattle.end_rules.proofs.Read.{none-read}
use Rattle.end_rules.proofs.fitting.read.Goals as goal

pub returns-in-Ok : goal.returns-in-Ok
returns-in-Ok c =
    sym (body-read c.args.name c.in-Ok.body c.args.bytes.now c.in-Ok.ensures.fits c.in-Ok.ensures.spelled)

pub returns-in-Err-NotABody : goal.returns-in-Err-NotABody
returns-in-Err-NotABody c =
    sym (none-read c.args.name c.args.bytes.now _ refl
    (λ body is. read-spelled c.args.name c.args.bytes.now body (λ i. omega (arith, c.type_inv.bytes i)) is)
    (c.in-Err-NotABody.ensures.refused (ap Err c.in-Err-NotABody.field-0-is)))
