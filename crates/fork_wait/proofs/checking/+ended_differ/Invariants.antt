use Rattle.std.proofs.Common.{length}
use Rattle.fork_wait.proofs.checking.+ended_differ.Given as goal

abbrev pub decreases-ended_differ : goal.decreases-ended_differ
decreases-ended_differ l = length l.ended.now
