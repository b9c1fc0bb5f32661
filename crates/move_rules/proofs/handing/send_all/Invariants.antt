use Rattle.std.proofs.Common.{◌≡◌, fold}
use Rattle.world_model.specs.Lives.{send_to_leader}
use Rattle.node_state.specs.State.{step_of}
use Rattle.move_rules.proofs.handing.send_all.Given as goal

-- what is left is sent behind what was sent so far
abbrev pub invariant-loop-frame : goal.invariant-loop-frame
invariant-loop-frame l =
    fold send_to_leader (step_of l.step) l.frame-iterator.rest.items
    ≡ fold send_to_leader (step_of l.fn.step) l.fn.frames
