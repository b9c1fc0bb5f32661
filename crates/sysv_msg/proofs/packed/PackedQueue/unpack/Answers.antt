use Rattle.std.proofs.Common.{arith}
use Rattle.sysv_msg.specs.Packed.{HasTaken}
use Rattle.sysv_msg.proofs.PackedMessages.{holds-read, unpacked-body}
use Rattle.sysv_msg.proofs.packed.PackedQueue.unpack.Goals as goal

pub invariant_of-result : goal.invariant_of-result
invariant_of-result c =
    let taken : HasTaken c.in-Some-u16_upto.count c.in-Some-2.size c.in-Some-u16_upto.rest.now c.in-Some-2.messages =
    rw c.in-Some-2.is at c.in_ok-messages.ensures in
    let body = unpacked-body c.args.bytes.now c.in-Some.fields.now c.in-Some-numbers_of.rest.now
    c.in-Some-u16_upto.rest.now c.in-Some-2.messages
    (c.in-Some-numbers_of.qbytes, c.in-Some-numbers_of.sender, c.in-Some-numbers_of.receiver)
    c.in-Some-u16_upto.count c.in-Some-2.size (λ i. omega (arith, c.type_inv.bytes i)) c.in-Some.ensures
    c.in-Some-numbers_of.ensures c.in-Some-u16_upto.ensures.read taken in (
      body.limits.qbytes,
      rw c.from.ensures
          (holds-read c.in-Some-u16_upto.count c.in-Some-2.size c.in-Some-2.messages taken.messages taken.holds),
    )

pub returns : goal.returns
returns c =
    let taken : HasTaken c.in-Some-u16_upto.count c.in-Some-2.size c.in-Some-u16_upto.rest.now c.in-Some-2.messages =
    rw c.in-Some-2.is at c.in_ok-messages.ensures in
    rw c.from.ensures
    (unpacked-body c.args.bytes.now c.in-Some.fields.now c.in-Some-numbers_of.rest.now
    c.in-Some-u16_upto.rest.now c.in-Some-2.messages
    (c.in-Some-numbers_of.qbytes, c.in-Some-numbers_of.sender, c.in-Some-numbers_of.receiver)
    c.in-Some-u16_upto.count c.in-Some-2.size (λ i. omega (arith, c.type_inv.bytes i)) c.in-Some.ensures
    c.in-Some-numbers_of.ensures c.in-Some-u16_upto.ensures.read taken)
