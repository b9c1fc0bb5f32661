-- The node's part of the machine, by input.
use Rattle.std.specs.Prelude.{◌≡◌, ◌++◌, Bool, Option, Some, None, Result, Ok, Err}
use Rattle.pico_base.specs.declared.script.Script.{Script}
use Rattle.world_model.specs.Node.{Node}
use Rattle.world_model.specs.Step.{Step}
use Rattle.world_model.specs.Starting.{run}
use Rattle.world_model.specs.Turn.{take_frame}
use Rattle.node_state.specs.declared.fault.TurnFault.{TurnFault}
use Rattle.node_state.specs.declared.fault.TurnFault.TheVariants.{Memory, NotAllowed}
use Rattle.node_core.specs.declared.turn.Input.{Input}
use Rattle.node_core.specs.declared.turn.Input.TheVariants.{Run, Take}
use Rattle.node_core.specs.declared.turn.Turn.{Turn}

-- the step of a node by an input
unfoldable pub step_of : Script → Node → Input → Option Step
step_of script n Run = run script n
step_of script n (Take from frame) = take_frame script n from frame

-- a turn that left this node, as a step; a strike is over with the step, and only the step shows it
abbrev pub step_as : Node → Turn → Bool → Step
step_as n turn strikes = record { node = n; entries = turn.entries; sends = turn.sends; strikes = strikes }

-- The step leaves this node, and what it makes follows behind what was made before.
pub record IsOnto (step : Step) (new : Node) (before after : Turn) : Type 0 where
  pub node : new ≡ step.node
  pub entries : after.entries ≡ before.entries ++ step.entries
  pub sends : after.sends ≡ before.sends ++ step.sends

-- the same of a step, if there is one
abbrev pub IsStepOnto : Option Step → Node → Turn → Turn → Type 0
IsStepOnto None new before after = ⊥
IsStepOnto (Some step) new before after = IsOnto step new before after

-- The turn is the step, or there is none and nothing is changed. Without memory nothing is said.
abbrev pub Follows : Option Step → Node → Node → Turn → Turn → Result Unit TurnFault → Type 0
Follows step old new before after (Ok _) = IsStepOnto step new before after
Follows step old new before after (Err NotAllowed) = (step ≡ None) × (new ≡ old) × (after ≡ before)
Follows step old new before after (Err Memory) = Unit {0}
