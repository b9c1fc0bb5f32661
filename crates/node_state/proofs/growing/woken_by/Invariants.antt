use Rattle.std.proofs.Common.{◌≡◌, map, take}
use Rattle.waiting_model.specs.Effect.{woken_pair}
use Rattle.node_state.proofs.growing.woken_by.Given as goal

-- those so far
abbrev pub invariant-loop-wake : goal.invariant-loop-wake
invariant-loop-wake l = l.woken.items ≡ map woken_pair (take l.wake-index l.wakes)
