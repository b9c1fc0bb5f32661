use Rattle.std.proofs.Common.{Err, ap, arith, sym}
use Rattle.node_serve.proofs.Reading.{body-read}
use Rattle.node_state.proofs.Holding.{unspelled-unread}
use Rattle.node_state.proofs.state.read.Goals as goal

pub returns-in-Ok : goal.returns-in-Ok
returns-in-Ok c =
    sym (body-read c.args.name c.in-Ok.body c.args.bytes.now c.in-Ok.ensures.fits c.in-Ok.ensures.spelled)

pub returns-in-Err-NotABody : goal.returns-in-Err-NotABody
returns-in-Err-NotABody c =
    unspelled-unread c.args.name c.args.bytes.now (λ i. omega (arith, c.type_inv.bytes i))
    (c.in-Err-NotABody.ensures.refused (ap Err c.in-Err-NotABody.field-0-is))
