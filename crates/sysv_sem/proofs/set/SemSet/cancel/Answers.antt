use Rattle.std.proofs.Common.{sym, subst}
use Rattle.sysv_sem.specs.Waiters.{held, IsAtRest}
use Rattle.sysv_sem.proofs.Removed.{left_without, rests_without}
use Rattle.sysv_sem.proofs.set.SemSet.cancel.Goals as goal

pub invariant_of-self : goal.invariant_of-self
invariant_of-self c =
    let left = left_without c.args.pid c.args.ticket c.self.inside.row c.self.inside.waiters.nodes
    c.unlink.new.self.nodes c.in_ok-slot.slot c.in_ok-slot.ensures c.self.invariant.waiters.apart
    c.unlink.ensures.nodes in
    subst IsAtRest (sym left)
    (rests_without c.args.pid (held c.self.inside.row c.self.inside.waiters.nodes) c.self.invariant)

pub returns-clause-left : goal.returns-clause-left
returns-clause-left c =
    rw (← c.self.view_is)
    (left_without c.args.pid c.args.ticket c.self.inside.row c.self.inside.waiters.nodes c.unlink.new.self.nodes
    c.in_ok-slot.slot c.in_ok-slot.ensures c.self.invariant.waiters.apart c.unlink.ensures.nodes)
