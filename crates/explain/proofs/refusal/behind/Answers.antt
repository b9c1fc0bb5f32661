use Rattle.explain.proofs.Begins.{begins_from}
use Rattle.explain.proofs.refusal.behind.Goals as goal

pub returns : goal.returns
returns c = begins_from c.args.line.now c.args.front.now c.strip_prefix.result c.strip_prefix.ensures.cases
