use Rattle.std.proofs.Common.{◌≡◌, arith}
use Rattle.pico_base.specs.declared.fault.UnpackFault.TheVariants.{NotABody}
use Rattle.sysv_sem.specs.Waiters.{held}
use Rattle.sysv_sem.proofs.Bodies.{body_found, body_lacks, one_set}
use Rattle.sysv_sem.proofs.set.SemSet.unpack.Goals as goal

pub invariant_of-result : goal.invariant_of-result
invariant_of-result c =
    (body_found c.args.bytes.now c.in-Ok.row c.in-Ok.waiters.items c.in_ok-waiters-in-Ok.waiters.nodes
    (λ i. omega (arith, c.type_inv.bytes i)) c.in-Ok.ensures c.in_ok-waiters-in-Ok.ensures).rest

pub returns-in_ok-waiters-in-Ok-clause-found : goal.returns-in_ok-waiters-in-Ok-clause-found
returns-in_ok-waiters-in-Ok-clause-found c =
    body_found c.args.bytes.now c.in-Ok.row c.in-Ok.waiters.items c.in_ok-waiters-in-Ok.waiters.nodes
    (λ i. omega (arith, c.type_inv.bytes i)) c.in-Ok.ensures c.in_ok-waiters-in-Ok.ensures

pub returns-in_ok-waiters-in-Ok-clause-only : goal.returns-in_ok-waiters-in-Ok-clause-only
returns-in_ok-waiters-in-Ok-clause-only c set is =
    one_set c.args.bytes.now (held c.in-Ok.row c.in_ok-waiters-in-Ok.waiters.nodes) set
    (body_found c.args.bytes.now c.in-Ok.row c.in-Ok.waiters.items c.in_ok-waiters-in-Ok.waiters.nodes
    (λ i. omega (arith, c.type_inv.bytes i)) c.in-Ok.ensures c.in_ok-waiters-in-Ok.ensures)
    is

pub returns-in-Err-clause-refused : goal.returns-in-Err-clause-refused
returns-in-Err-clause-refused c e set is =
    let same : c.in-Err.fault ≡ NotABody = cc in
    body_lacks c.in-Err.fault c.args.bytes.now c.in-Err.ensures same set is
