use Rattle.std.proofs.Common.{◌∙◌, ap}
use Rattle.std.proofs.lemmas.Result.{on_ok_weaker}
use Rattle.node_state.specs.Keys.{bindings}
use Rattle.node_state.proofs.Keys.{bindings-bound}
use Rattle.node_state.proofs.leader.bind.Goals as goal

pub returns : goal.returns
returns c =
    on_ok_weaker c.bind.result
    (λ is. ap bindings is ∙ bindings-bound c.args.keys.now c.args.key c.args.id c.args.count) c.bind.ensures.ok
