use Rattle.std.proofs.Common.{reverse}
use Rattle.node_state.specs.State.{step_of}
use Rattle.end_rules.specs.Ending.{parcels_left}
use Rattle.end_rules.proofs.Rounds.{HasRounds}
use Rattle.end_rules.proofs.releasing.release.Given as goal

-- the release goes on with the items that wait
abbrev pub invariant-loop-waiting : goal.invariant-loop-waiting
invariant-loop-waiting l =
    HasRounds l.script (step_of l.fn.step) l.fn.items (step_of l.step) (reverse l.waiting.items)

-- a round lowers the number of parcels
abbrev pub decreases-loop-waiting : goal.decreases-loop-waiting
decreases-loop-waiting l = parcels_left (reverse l.waiting.items) (step_of l.step)
