use Rattle.std.proofs.Common.{◌≡◌}
use Rattle.thread_tests.proofs.tests.streams.take_some.Given as goal

abbrev pub invariant-loop : goal.invariant-loop
invariant-loop g l = l.into.stream ≡ l.fn.into.stream
