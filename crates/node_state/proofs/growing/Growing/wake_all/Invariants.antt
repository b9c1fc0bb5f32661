use Rattle.std.proofs.Common.{◌≡◌}
use Rattle.world_model.specs.Step.{wake_all}
use Rattle.node_state.specs.State.{step_of}
use Rattle.node_state.proofs.growing.Growing.wake_all.Given as goal

-- those who are left are woken behind those so far
abbrev pub invariant-loop-wake : goal.invariant-loop-wake
invariant-loop-wake l =
    wake_all l.script (step_of l.self) l.wake-iterator.rest.items ≡ wake_all l.script (step_of l.fn.self) l.fn.wakes
