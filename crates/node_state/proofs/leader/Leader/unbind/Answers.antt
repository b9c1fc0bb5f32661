use Rattle.std.proofs.Common.{refl}
use Rattle.node_state.proofs.Keys.{bindings-unbound}
use Rattle.node_state.proofs.leader.Leader.unbind.Goals as goal

pub returns-in-Msg : goal.returns-in-Msg
returns-in-Msg c =
    rw (c.in-Msg.is, c.unbind.ensures.unbound, bindings-unbound c.args.self.now.queue_keys c.in-Msg.id) refl

pub returns-in-Sem : goal.returns-in-Sem
returns-in-Sem c =
    rw (c.in-Sem.is, c.unbind-in-Sem.ensures.unbound, bindings-unbound c.args.self.now.set_keys c.in-Sem.id) refl
