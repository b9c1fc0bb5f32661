use Rattle.sysv_sem.specs.Waiters.{waiters_in}
use Rattle.sysv_sem.proofs.Calls.{are_asked}
use Rattle.sysv_sem.proofs.set.SemSet.pack.Goals as goal

pub push_waiters-requires : goal.push_waiters-requires
push_waiters-requires c =
    are_asked c.self.inside.row (waiters_in c.self.inside.waiters.nodes) c.self.invariant.waiters.each
    c.self.invariant.settled
