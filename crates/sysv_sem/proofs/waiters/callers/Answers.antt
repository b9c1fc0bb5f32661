use Rattle.std.proofs.Common.{arith}
use Rattle.sysv_sem.proofs.Taking.{AreCallers, callers-further}
use Rattle.sysv_sem.proofs.Walk.{there, further, ends, has_all}
use Rattle.sysv_sem.proofs.waiters.callers.Goals as goal

pub value-requires : goal.value-requires
value-requires c =
    there c.args.waiters.now.nodes (AreCallers c.loop.nodes.items) c.loop.at c.loop.counter c.in-Some.slot
    c.have_own_slots.ensures c.in-Some.is c.loop.invariant

pub loop-preserved : goal.loop-preserved
loop-preserved c =
    further c.args.waiters.now.nodes (AreCallers c.loop.nodes.items) (AreCallers c.push.new.self.items) c.loop.at
    c.next-at.result c.loop.counter c.in-Some.slot c.value.result.now c.have_own_slots.ensures c.in-Some.is
    c.value.ensures c.next-at.ensures.slot
    (callers-further c.loop.nodes.items c.push.new.self.items c.value.result.now c.in_ok-push.ensures.items)
    c.loop.invariant

pub returns-in_default : goal.returns-in_default
returns-in_default c =
    ends c.args.waiters.now.nodes (AreCallers c.loop.nodes.items) c.loop.at c.loop.counter c.in_default.is
    c.loop.invariant

pub returns : goal.returns
returns c =
    let all = c.loop-test.false in
    let len = c.len-end.ensures in
    has_all c.args.waiters.now.nodes (AreCallers c.loop.nodes.items) c.loop.at c.loop.counter (omega arith)
    c.loop.invariant
