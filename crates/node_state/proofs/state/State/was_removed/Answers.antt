use Rattle.std.proofs.Common.{◌∙◌, sym}
use Rattle.node_state.proofs.Holding.{removed-there}
use Rattle.node_state.proofs.state.State.was_removed.Goals as goal

pub returns : goal.returns
returns c =
    c.was_removed.ensures ∙ sym (removed-there c.args.self.now.deeds.bodies c.args.name _ c.get.ensures)
