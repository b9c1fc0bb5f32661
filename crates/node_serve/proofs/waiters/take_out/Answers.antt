use Rattle.node_serve.proofs.Withdrawals.{queue-takes-out, set-takes-out}
use Rattle.node_serve.proofs.waiters.take_out.Goals as goal

pub returns-in-Queue : goal.returns-in-Queue
returns-in-Queue c =
    rw (c.in-Queue.is, c.is_some.ensures)
    (queue-takes-out c.args.pid c.args.ticket c.in-Queue.queue c.cancel.new.self c.cancel.result c.is_at_rest.ensures
    c.cancel.ensures)

pub returns-in-Set : goal.returns-in-Set
returns-in-Set c =
    rw (c.in-Set.is, c.is_some-in-Set.ensures)
    (set-takes-out c.args.pid c.args.ticket c.in-Set.set c.cancel-in-Set.new.self c.cancel-in-Set.result
    c.is_at_rest-in-Set.ensures c.cancel-in-Set.ensures.found c.cancel-in-Set.ensures.left)
