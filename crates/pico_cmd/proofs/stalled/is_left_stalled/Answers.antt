use Rattle.pico_cmd.proofs.Left.{left_as_world}
use Rattle.pico_cmd.proofs.stalled.is_left_stalled.Goals as goal

pub returns : goal.returns
returns c = left_as_world c.args.rested.now.world c.is_stalled.result c.requires.whole c.is_stalled.ensures
