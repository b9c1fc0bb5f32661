use Rattle.std.proofs.Common.{take}
use Rattle.node_state.specs.State.{step_of}
use Rattle.end_rules.specs.Ending.{AllArrived}
use Rattle.end_rules.proofs.ends.arrive_all.Given as goal

-- those so far have arrived
abbrev pub invariant-loop-name : goal.invariant-loop-name
invariant-loop-name l =
    AllArrived (step_of l.initial.step) (take l.name-index l.names) l.node (step_of l.step) l.items.items
