use Rattle.std.proofs.Common.{[]}
use Rattle.sysv_sem.specs.Asking.{asking}
use Rattle.sysv_sem.specs.Waiters.{held, try_steps}
use Rattle.sysv_sem.proofs.Carried.{replies}
use Rattle.sysv_sem.proofs.Rounds.{settle_rests}
use Rattle.sysv_sem.proofs.apply.change_with.Goals as goal

pub returns-clause-carried : goal.returns-clause-carried
returns-clause-carried c =
    rw c.wake.ensures.own
    (replies c.args.row.now c.try_change.new.self c.wake.new.row c.args.waiters.now.nodes c.wake.new.waiters.nodes
    (asking c.args.who.now c.args.call.now) c.in-Some.reply c.wake.result.applied.wakes c.in-Some.ensures
    c.requires.each c.wake.ensures.settled)

pub returns-then-not-may_wake-clause-carried : goal.returns-then-not-may_wake-clause-carried
returns-then-not-may_wake-clause-carried c =
    let all = rw c.if-not-may_wake.true at c.may_wake.ensures
    in rw c.alone.ensures
    (replies c.args.row.now c.try_change.new.self c.try_change.new.self c.args.waiters.now.nodes
    c.args.waiters.now.nodes (asking c.args.who.now c.args.call.now) c.in-Some.reply [] c.in-Some.ensures
    c.requires.each (settle_rests try_steps (held c.try_change.new.self c.args.waiters.now.nodes) all))
