use Rattle.std.proofs.Common.{reverse, vec_len}
use Rattle.node_state.specs.State.{step_of}
use Rattle.end_rules.specs.Ending.{RoundGoes}
use Rattle.end_rules.proofs.releasing.release_round.Given as goal

-- the round goes on with the items that wait
abbrev pub invariant-loop-item : goal.invariant-loop-item
invariant-loop-item l =
    RoundGoes l.script (step_of l.initial.step) (reverse l.initial.waiting.items) (step_of l.step)
    (reverse l.waiting.items)

abbrev pub decreases-loop-item : goal.decreases-loop-item
decreases-loop-item l = vec_len l.waiting
