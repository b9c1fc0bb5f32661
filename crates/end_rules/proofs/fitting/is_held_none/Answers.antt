use Rattle.end_rules.proofs.Read.{not-held}
use Rattle.end_rules.proofs.fitting.is_held_none.Goals as goal

pub returns : goal.returns
returns c = not-held c.args.deeds.now.bodies c.args.entry.now.0 c.has.result c.has.ensures
