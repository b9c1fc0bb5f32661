use Rattle.waiter_fields.specs.Settling.{is_waiter}
use Rattle.sysv_msg.proofs.Taking.{none-found, parked-same, parked-taken, same-again, taken-is}
use Rattle.sysv_msg.proofs.queue.Queue.cancel.Goals as goal
use Rattle.sysv_msg.proofs.queue.Queue.cancel.Goals.{in-Some, in-None}

pub invariant_of-self : goal.invariant_of-self
invariant_of-self c =
    elim c.match-take.branch [
      | in-Some w ↦
          parked-taken (is_waiter c.args.pid c.args.ticket) c.self.inside.awaiting c.take.new.self w.in-Some.waiter
          c.self.invariant c.take.ensures.state w.in-Some.ensures.waiter
      | in-None w ↦
          parked-same c.self.inside.awaiting c.take.new.self c.self.invariant c.take.ensures.state
          w.in-None.ensures.waiter.1
    ]

pub returns : goal.returns
returns c =
    elim c.match-take.branch [
      | in-Some w ↦
          rw (w.result-is, ← c.self.view_is)
          (taken-is c.args.pid c.args.ticket c.self.inside.awaiting c.take.new.self w.in-Some.waiter
          c.self.invariant.different c.take.ensures.state w.in-Some.ensures.waiter)
      | in-None w ↦
          rw (w.result-is, ← c.self.view_is) (
            none-found (is_waiter c.args.pid c.args.ticket) c.self.inside.awaiting.waiters
                w.in-None.ensures.waiter.0,
            same-again c.self.inside.awaiting c.take.new.self c.take.ensures.state w.in-None.ensures.waiter.1,
          )
    ]
