-- Both nodes are of the script, each with its own seat of the lock.
use Rattle.log_tests.specs.Two.{AreTwo}
use Rattle.log_tests.proofs.tests.all_turn.Given as goal

abbrev pub invariant-loop-node : goal.invariant-loop-node
invariant-loop-node g l = AreTwo l.script l.two.lock l.two.first.value l.two.second.value
