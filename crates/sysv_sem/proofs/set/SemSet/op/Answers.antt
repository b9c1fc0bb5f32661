use Rattle.sysv_sem.specs.Waiters.{waiters_in}
use Rattle.sysv_sem.proofs.Removed.{rests_alone}
use Rattle.sysv_sem.proofs.Told.{limits_after_op}
use Rattle.sysv_sem.proofs.set.SemSet.op.Goals as goal

pub invariant_of-self : goal.invariant_of-self
invariant_of-self c =
    rests_alone c.op.new.self (waiters_in c.self.inside.waiters.nodes)
    (limits_after_op c.op.result c.self.inside.row c.op.new.self c.args.pid c.args.steps.now c.op.ensures
    c.self.invariant.limits)
    (rw (← c.self.view_is) at c.requires.nobody)
