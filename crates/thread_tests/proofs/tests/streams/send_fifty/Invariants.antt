use Rattle.std.proofs.Common.{◌≡◌}
use Rattle.thread_tests.proofs.tests.streams.send_fifty.Given as goal

abbrev pub invariant-loop-stamp : goal.invariant-loop-stamp
invariant-loop-stamp g l = l.out.stream ≡ l.fn.out.stream
