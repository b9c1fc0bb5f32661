use Rattle.std.proofs.Common.{◌≤◌, arith}
use Rattle.sysv_msg.proofs.Passing.{messages-there}
use Rattle.sysv_msg.proofs.unpack.behind_messages.Goals as goal

pub returns : goal.returns
returns c =
    let few = c.if-size.false in
    let le : c.in_ok-size.size ≤ 16384 = omega (arith, few) in
    messages-there c.args.bytes.now c.in_ok-count.rest.now c.in_ok-size.rest.now c.in_ok-count.count c.in_ok-size.size
    c.in_ok-count.ensures.read c.in_ok-size.ensures le
