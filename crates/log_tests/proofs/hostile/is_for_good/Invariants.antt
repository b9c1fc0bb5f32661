-- Both nodes are of the script, each with its own seat of the lock.
use Rattle.log_tests.specs.Two.{AreTwo}
use Rattle.log_tests.proofs.hostile.is_for_good.Given as goal

abbrev pub invariant-loop : goal.invariant-loop
invariant-loop g l = AreTwo l.script l.two.lock l.two.first.value l.two.second.value
