use Rattle.sysv_sem.specs.Asking.{asking}
use Rattle.sysv_sem.proofs.Carried.{rests_then}
use Rattle.sysv_sem.proofs.set.SemSet.serve.Goals as goal

pub invariant_of-self : goal.invariant_of-self
invariant_of-self c =
    rests_then c.carry_out.result c.self.inside.row c.carry_out.new.row c.self.inside.waiters.nodes
    c.carry_out.new.waiters.nodes (asking c.args.who.now c.args.call.now) c.carry_out.ensures.carried
    c.carry_out.ensures.row c.carry_out.ensures.nodes c.self.invariant c.requires.ticket
    (rw (← c.self.view_is) at c.requires.apart) (rw (← c.self.view_is) at c.requires.room)
