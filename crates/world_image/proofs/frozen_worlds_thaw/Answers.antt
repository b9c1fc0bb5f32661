use Rattle.world_image.proofs.Frozen.{frozen-thaws}
use Rattle.world_image.proofs.frozen_worlds_thaw.Goals as goal

pub returns : goal.returns
returns c = frozen-thaws
