use Rattle.world_image.proofs.Laws.{given-is, given-whole, given-as}
use Rattle.world_image.proofs.thawing.thaw.Goals as goal

pub returns-clause-ok : goal.returns-clause-ok
returns-clause-ok c = given-is c.args.image.now c.thaw_or_stop.result c.thaw_or_stop.ensures

pub returns-clause-whole : goal.returns-clause-whole
returns-clause-whole c = given-whole c.args.image.now c.thaw_or_stop.result c.thaw_or_stop.ensures

pub returns-clause-only : goal.returns-clause-only
returns-clause-only c = given-as c.args.image.now c.thaw_or_stop.result c.thaw_or_stop.ensures
