use Rattle.std.proofs.Common.{Option, ◌∙◌, ap}
use Rattle.key_table.specs.declared.Bound.{Bound}
use Rattle.key_table.specs.KeyMap.{key_answer}
use Rattle.node_state.proofs.Keys.{key-as-bound}
use Rattle.node_state.proofs.leader.Leader.queue_answer.Goals as goal

pub returns : goal.returns
returns c =
    c.get.ensures
    ∙ ap (λ (bound : Option Bound). key_answer bound c.args.create c.args.excl)
    (key-as-bound c.args.self.now.queue_keys c.args.key)
