use Rattle.std.proofs.Common.{◌≡◌, arith}
use Rattle.pico_base.specs.declared.fault.UnpackFault.TheVariants.{NotABody}
use Rattle.sysv_msg.proofs.Bodies.{body-takes, no-body, one-queue, parked-there}
use Rattle.sysv_msg.proofs.queue.Queue.unpack.Goals as goal

pub invariant_of-result : goal.invariant_of-result
invariant_of-result c =
    parked-there c.args.bytes.now c.in-Ok.awaiting
    (body-takes c.args.bytes.now c.in-Ok.awaiting (λ i. omega (arith, c.type_inv.bytes i)) c.in-Ok.ensures)

pub returns-in-Ok-clause-found : goal.returns-in-Ok-clause-found
returns-in-Ok-clause-found c =
    body-takes c.args.bytes.now c.in-Ok.awaiting (λ i. omega (arith, c.type_inv.bytes i)) c.in-Ok.ensures

pub returns-in-Ok-clause-only : goal.returns-in-Ok-clause-only
returns-in-Ok-clause-only c = λ q h. one-queue c.args.bytes.now c.in-Ok.awaiting q c.in-Ok.ensures h

pub returns-in-Err-clause-refused : goal.returns-in-Err-clause-refused
returns-in-Err-clause-refused c =
    λ e q h. let is : c.in-Err.fault ≡ NotABody = cc in no-body c.in-Err.fault c.args.bytes.now c.in-Err.ensures is q h
