use Rattle.node_serve.proofs.WhoReads.{removed-say}
use Rattle.node_serve.proofs.carrying.on_queue_body.Goals as goal

pub returns-in_ok-wakes-in-Queue-clause-readers : goal.returns-in_ok-wakes-in-Queue-clause-readers
returns-in_ok-wakes-in-Queue-clause-readers c =
    rw (c.in-Queue.is, c.removed.ensures.readers, c.removed.ensures.applied)
    (removed-say c.in-Queue.queue c.in_ok-wakes-in-Queue.wakes c.in_ok-wakes-in-Queue.ensures.told.0)
