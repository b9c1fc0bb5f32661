use Rattle.node_serve.proofs.WhoReads.{removed-say}
use Rattle.node_serve.proofs.carrying.on_set_body.Goals as goal

pub returns-in_ok-wakes-in-Set-clause-readers : goal.returns-in_ok-wakes-in-Set-clause-readers
returns-in_ok-wakes-in-Set-clause-readers c =
    rw (c.in-Set.is, c.removed.ensures.readers, c.removed.ensures.applied)
    (removed-say c.in-Set.set c.in_ok-wakes-in-Set.wakes c.in_ok-wakes-in-Set.ensures.wakes)
