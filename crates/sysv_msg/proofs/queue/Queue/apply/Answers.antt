use Rattle.sysv_msg.proofs.Parking.{parked-carried}
use Rattle.sysv_msg.proofs.queue.Queue.apply.Goals as goal
use Rattle.sysv_msg.proofs.queue.Queue.apply.Goals.{in-Ok, in-Err}

pub invariant_of-self : goal.invariant_of-self
invariant_of-self c =
    elim c.match-carry_out.branch [
      | in-Ok w ↦
          parked-carried c.self.inside.awaiting c.carry_out.new.self c.args.who w.in-Ok.applied c.self.invariant
          c.requires.ticket c.requires.call (rw c.self.view_is c.requires.own) (rw c.self.view_is c.requires.few)
          w.in-Ok.ensures.ok
      | in-Err w ↦ rw w.in-Err.ensures.err c.self.invariant
    ]
