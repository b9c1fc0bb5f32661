use Rattle.node_serve.proofs.WhoReads.{takers-say}
use Rattle.node_serve.proofs.carrying.on_a_set.Goals as goal

pub returns-clause-readers : goal.returns-clause-readers
returns-clause-readers c =
    takers-say c.args.set.now c.in_ok-came.came.takers.items c.in_ok-came.came.applied.wakes c.is_at_rest.ensures
    c.in_ok-came.ensures.takers
