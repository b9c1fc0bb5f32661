use Rattle.std.proofs.Common.{◌∙◌}
use Rattle.world_core.proofs.Choosing.{counts-all}
use Rattle.world_core.proofs.state.State.count.Goals as goal

pub returns : goal.returns
returns c = c.all.ensures ∙ counts-all c.args.self.now c.requires
