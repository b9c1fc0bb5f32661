use Rattle.std.proofs.Common.{◌∙◌, sym, arith}
use Rattle.std.proofs.lemmas.Result.{err_from_is_err_and}
use Rattle.sysv_msg.proofs.Parts.{few-read, more-behind, none-behind, none-whole}
use Rattle.sysv_msg.proofs.unpack.waiters_of.Goals as goal

pub returns-in_err-waiters-clause-read : goal.returns-in_err-waiters-clause-read
returns-in_err-waiters-clause-read c =
    let p = err_from_is_err_and c.from_residual.result c.from_residual.ensures.1 in
    rw (p.1, p.2) (none-whole c.in_err-waiters.field-0.0 c.args.bytes.now c.in_err-waiters.ensures)

pub returns-then-not-is_empty-clause-read : goal.returns-then-not-is_empty-clause-read
returns-then-not-is_empty-clause-read c =
    more-behind c.args.bytes.now c.in_ok-waiters.rest.now c.in_ok-waiters.waiters.items c.in_ok-waiters.ensures
    (sym c.is_empty.ensures ∙ c.if-not-is_empty.true)

pub returns-clause-read : goal.returns-clause-read
returns-clause-read c =
    none-behind c.args.bytes.now c.in_ok-waiters.rest.now c.in_ok-waiters.waiters.items c.in_ok-waiters.ensures
    (sym c.is_empty.ensures ∙ c.if-not-is_empty.false)

pub returns-clause-few : goal.returns-clause-few
returns-clause-few c =
    few-read c.args.bytes.now c.in_ok-waiters.rest.now c.in_ok-waiters.waiters.items
    (λ i. omega (arith, c.type_inv.bytes i)) c.in_ok-waiters.ensures
