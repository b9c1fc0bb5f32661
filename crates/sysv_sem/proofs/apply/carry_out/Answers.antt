use Rattle.sysv_sem.specs.Asking.{asking}
use Rattle.sysv_sem.specs.Waiters.{held}
use Rattle.sysv_sem.proofs.Carried.{looks, other_carried}
use Rattle.sysv_sem.proofs.apply.carry_out.Goals as goal

pub returns-in-Ok-Some-clause-carried : goal.returns-in-Ok-Some-clause-carried
returns-in-Ok-Some-clause-carried c =
    rw (c.look_at.ensures.same, c.alone.ensures)
    (looks (held c.args.row.now c.args.waiters.now.nodes) (asking c.args.who.now c.args.call.now) c.in-Ok-Some.field-0
    c.in-Ok-Some.reply c.requires.settled c.in-Ok-Some.ensures.reply c.in-Ok-Some.field-0-is)

pub returns-in-Ok-None-clause-carried : goal.returns-in-Ok-None-clause-carried
returns-in-Ok-None-clause-carried c =
    other_carried c.change.result c.args.row.now c.look_at.new.row c.change.new.row c.args.waiters.now.nodes
    c.change.new.waiters.nodes (asking c.args.who.now c.args.call.now) c.in-Ok-None.field-0
    c.in-Ok-None.ensures.reply c.in-Ok-None.field-0-is c.look_at.ensures.same c.change.ensures.carried
