use Rattle.std.proofs.Common.{◌≡◌, None, arith}
use Rattle.sysv_sem.specs.Waiters.{try_steps}
use Rattle.sysv_sem.proofs.Rounds.{WaitSo, ready_there, none_ready, one_waits_more}
use Rattle.sysv_sem.proofs.Walk.{there, further, has_all}
use Rattle.sysv_sem.proofs.settling.first_ready.Goals as goal

pub value-requires : goal.value-requires
value-requires c =
    there c.args.waiters.now.nodes (WaitSo c.args.row.now) c.loop.at c.loop.counter c.in-Some.slot
    c.have_own_slots.ensures c.in-Some.is c.loop.invariant.reached

pub returns-in-Some-try_waiter : goal.returns-in-Some-try_waiter
returns-in-Some-try_waiter c =
    let goes = rw c.loop.invariant.same at c.in-Some-try_waiter.ensures in
    ready_there c.args.row.now c.try_waiter.new.row c.args.waiters.now.nodes c.loop.at c.loop.counter c.in-Some.slot
    c.value.result.now c.in-Some-try_waiter.reply c.have_own_slots.ensures c.in-Some.is c.value.ensures goes
    c.loop.invariant.reached

pub loop-preserved : goal.loop-preserved
loop-preserved c =
    let stays = rw c.loop.invariant.same at c.in_default-try_waiter.ensures in
    record {
      same = stays.1;
      reached = further c.args.waiters.now.nodes (WaitSo c.args.row.now) (WaitSo c.args.row.now) c.loop.at
          c.next-at.result c.loop.counter c.in-Some.slot c.value.result.now c.have_own_slots.ensures c.in-Some.is
          c.value.ensures c.next-at.ensures.slot
          (one_waits_more (λ w. try_steps c.args.row.now w.pid w.call ≡ None) c.value.result.now stays.0)
          c.loop.invariant.reached;
    }

pub returns : goal.returns
returns c =
    let all = c.loop-test.false in
    let len = c.len-end.ensures in (
      none_ready c.args.row.now c.args.waiters.now.nodes
          (has_all c.args.waiters.now.nodes (WaitSo c.args.row.now) c.loop.at c.loop.counter (omega arith)
          c.loop.invariant.reached),
      c.loop.invariant.same,
    )
