use Rattle.std.proofs.Common.{◌∙◌, arith}
use Rattle.stream_pair.proofs.Looks.{after_looks-is}
use Rattle.stream_pair.proofs.inlet.after.Goals as goal

pub returns : goal.returns
returns c = c.saturating_add.ensures ∙ after_looks-is c.args.more c.args.looks (omega arith)
