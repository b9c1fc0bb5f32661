use Rattle.sysv_sem.specs.Waiters.{waiters_in}
use Rattle.sysv_sem.proofs.Removed.{rests_alone}
use Rattle.sysv_sem.proofs.Told.{limits_after_set_all}
use Rattle.sysv_sem.proofs.set.SemSet.set_all.Goals as goal

pub invariant_of-self : goal.invariant_of-self
invariant_of-self c =
    rests_alone c.set_all.new.self (waiters_in c.self.inside.waiters.nodes)
    (limits_after_set_all c.set_all.result c.self.inside.row c.set_all.new.self c.args.values.now c.set_all.ensures
    c.self.invariant.limits)
    (rw (← c.self.view_is) at c.requires.nobody)
