use Rattle.world_tests.proofs.Played.{IsPlayed}
use Rattle.world_tests.proofs.tests.play.Given as goal

-- what is left leads where all of them lead
abbrev pub invariant-loop-event : goal.invariant-loop-event
invariant-loop-event l = IsPlayed l.fn.script l.events l.event-index l.world
