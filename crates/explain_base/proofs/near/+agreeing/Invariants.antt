use Rattle.std.proofs.Common.{length}
use Rattle.explain_base.proofs.near.+agreeing.Given as goal

abbrev pub decreases-agreeing : goal.decreases-agreeing
decreases-agreeing l = length l.a.now
