use Rattle.std.proofs.Common.{◌≡◌, ◌∙◌, [], false, ap, arith, sym}
use Rattle.sysv_sem.specs.Calls.{carried_to}
use Rattle.waiting_model.specs.Calls.{may_park}
use Rattle.node_serve.specs.Callers.{waiting_with}
use Rattle.node_serve.proofs.AtOnce.{nobody-there, queue-at-once}
use Rattle.node_serve.proofs.queues.on_queue.Goals as goal

pub returns-clause-ok : goal.returns-clause-ok
returns-clause-ok c =
    let few = c.if-waiting-gt0.false
    in let len = c.waiting.ensures
    in let nobody : c.args.queue.now.waiters ≡ [] = nobody-there c.args.queue.now.waiters (omega arith)
    in let go : may_park c.args.call.now ≡ false = sym c.may_park.ensures ∙ c.if-may_park.false
    in queue-at-once c.args.queue.now c.carry_out.new.queue (waiting_with c.args.who.now c.args.call.now)
    c.in_ok-reply.reply nobody c.carry_out.ensures.still go c.in_ok-reply.ensures.ok
    ∙ ap (carried_to c.carry_out.new.queue) (sym c.at_once.ensures)
