use Rattle.std.proofs.Common.{◌∙◌, sym}
use Rattle.node_state.proofs.Holding.{there-as-held}
use Rattle.node_state.proofs.state.State.holds.Goals as goal

pub returns : goal.returns
returns c = c.has.ensures ∙ sym (there-as-held c.args.self.now.deeds.bodies c.args.name)
