use Rattle.quoted_bytes.proofs.Strips.{strip_from}
use Rattle.quoted_bytes.proofs.front.strip_front.Goals as goal

pub returns : goal.returns
returns c = strip_from c.args.bytes.now c.args.prefix.now c.strip_prefix.result c.strip_prefix.ensures.cases
