use Rattle.std.proofs.Common.{IsSome}
use Rattle.world_tests.proofs.tests.run_drawn.Given as goal

abbrev pub invariant-loop : goal.invariant-loop
invariant-loop l = IsSome l.world
