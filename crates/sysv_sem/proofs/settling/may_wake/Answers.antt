use Rattle.std.proofs.Common.{◌≡◌, None}
use Rattle.sysv_sem.specs.Waiters.{try_steps}
use Rattle.sysv_sem.proofs.Rounds.{WaitSo, one_waits_more}
use Rattle.sysv_sem.proofs.Walk.{there, further}
use Rattle.sysv_sem.proofs.settling.may_wake.Goals as goal

pub value-requires : goal.value-requires
value-requires c =
    there c.args.waiters.now.nodes (WaitSo c.args.row.now) c.loop.at c.loop.counter c.in-Some.slot
    c.have_own_slots.ensures c.in-Some.is c.loop.invariant

pub loop-preserved : goal.loop-preserved
loop-preserved c =
    let waits : try_steps c.args.row.now c.value.result.now.pid c.value.result.now.call ≡ None =
    rw (← c.steps_of.ensures) (c.is_stopped.ensures c.if-not-is_stopped.false c.value.result.now.pid)
    in further c.args.waiters.now.nodes (WaitSo c.args.row.now) (WaitSo c.args.row.now) c.loop.at
    c.next-at.result c.loop.counter c.in-Some.slot c.value.result.now c.have_own_slots.ensures c.in-Some.is
    c.value.ensures c.next-at.ensures.slot
    (one_waits_more (λ w. try_steps c.args.row.now w.pid w.call ≡ None) c.value.result.now waits)
    c.loop.invariant
