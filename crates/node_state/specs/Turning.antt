-- What a rule of a node comes to.
use Rattle.std.specs.Prelude.{◌≡◌, Option, Some, None, Result, Ok, Err}
use Rattle.world_model.specs.Step.{Step, step_to}
use Rattle.node_state.specs.declared.fault.TurnFault.{TurnFault}
use Rattle.node_state.specs.declared.fault.TurnFault.TheVariants.{Memory, NotAllowed}
use Rattle.node_state.specs.declared.growing.Growing.{Growing}
use Rattle.node_state.specs.State.{node_of, step_of}

-- nothing was done in this turn so far
abbrev pub IsFresh : Growing → Type 0
IsFresh g = step_of g ≡ step_to (node_of g.node)

-- The step is the definition's, or there is none and nothing was done. Without memory nothing is said.
abbrev pub Turns : Option Step → Growing → Growing → Result Unit TurnFault → Type 0
Turns step old new (Ok _) = step ≡ Some (step_of new)
Turns step old new (Err NotAllowed) = (step ≡ None) × (step_of new ≡ step_of old)
Turns step old new (Err Memory) = Unit {0}
