use Rattle.std.proofs.Common.{◌∙◌, arith}
use Rattle.sysv_msg.proofs.PackedMessages.{has-taken, one-behind}
use Rattle.sysv_msg.proofs.packed.messages_of.Goals as goal

pub overflow_sub-bytes : goal.overflow_sub-bytes
overflow_sub-bytes c =
    let long = one-behind c.args.count c.in-Some.size c.args.bytes.now c.in-Some.waiters.now
    (λ i. omega (arith, c.type_inv.bytes i)) c.if-not-are_none.ensures c.in-Some.ensures in
    omega (arith, long)

pub returns : goal.returns
returns c =
    has-taken c.args.count c.in-Some.size c.args.bytes.now c.in-Some.waiters.now c.in_ok-messages.messages
    (λ i. omega (arith, c.type_inv.bytes i)) c.if-not-are_none.ensures c.in-Some.ensures c.requires c.if-size.false
    (c.in_ok-messages.ensures ∙ c.split_at.ensures.front)
