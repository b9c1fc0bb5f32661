use Rattle.std.proofs.Common.{arith, rules}
use Rattle.sysv_sem.proofs.Taking.{AreTakers, takers-further}
use Rattle.sysv_sem.proofs.Walk.{there, further, ends, has_all}
use Rattle.sysv_sem.proofs.waiters.note_takers.Goals as goal

pub value-requires : goal.value-requires
value-requires c =
    there c.args.waiters.now.nodes (AreTakers c.loop.pids.items) c.loop.at c.loop.counter c.in-Some.slot
    c.have_own_slots.ensures c.in-Some.is c.loop.invariant.reached

pub loop-preserved : goal.loop-preserved
loop-preserved c =
    record {
      reached = further c.args.waiters.now.nodes (AreTakers c.loop.pids.items) (AreTakers c.push_taker.new.pids.items)
          c.loop.at c.next-at.result c.loop.counter c.in-Some.slot c.value.result.now c.have_own_slots.ensures
          c.in-Some.is c.value.ensures c.next-at.ensures.slot
          (takers-further c.loop.pids.items c.push_taker.new.pids.items c.value.result.now c.push_taker.ensures.items)
          c.loop.invariant.reached;
      few = search rules;
      room = search rules;
    }

pub returns-in_default : goal.returns-in_default
returns-in_default c =
    ends c.args.waiters.now.nodes (AreTakers c.loop.pids.items) c.loop.at c.loop.counter c.in_default.is
    c.loop.invariant.reached

pub returns : goal.returns
returns c =
    let all = c.loop-test.false in
    let len = c.len-end.ensures in
    has_all c.args.waiters.now.nodes (AreTakers c.loop.pids.items) c.loop.at c.loop.counter (omega arith)
    c.loop.invariant.reached
