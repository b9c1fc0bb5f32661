use Rattle.std.proofs.Common.{◌∙◌, arith}
use Rattle.stream_pair.proofs.Looks.{after_looks-is}
use Rattle.node_log.proofs.made.quiet_on.Goals as goal

pub returns : goal.returns
returns c = c.saturating_add.ensures ∙ after_looks-is c.args.turns c.args.quiet (omega arith)
