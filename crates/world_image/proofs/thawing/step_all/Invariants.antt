use Rattle.std.specs.Prelude.{IfSome, None}
use Rattle.world_image.specs.Thawing.{behind}
use Rattle.world_image.proofs.Steps.{IsOnTheWay}
use Rattle.world_image.proofs.thawing.step_all.Given as goal

-- what is left from here on is what was wanted from the start
abbrev pub invariant-loop-event : goal.invariant-loop-event
invariant-loop-event l =
    IfSome l.fn.world (λ w. IsOnTheWay (behind w None l.events) l.events l.event-index l.world l.last)
