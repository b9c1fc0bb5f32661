use Rattle.node_serve.specs.Callers.{waiting_with}
use Rattle.node_serve.proofs.Receivers.{messages-say}
use Rattle.node_serve.proofs.carrying.on_a_queue.Goals as goal

pub returns-clause-readers : goal.returns-clause-readers
returns-clause-readers c =
    messages-say c.args.queue.now c.on_queue.new.queue (waiting_with c.args.who.now c.args.call.now)
    c.in_ok-applied.applied c.is_at_rest.ensures c.in_ok-applied.ensures.ok
