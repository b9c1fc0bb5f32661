-- What a turn's answer says of a node that may be spent, before and after it.
use Rattle.std.specs.Prelude.{◌≡◌, ◌++◌, Bool, Option, Some, None, Result, Err, IfOk, IfSome, IsErr, IsSome}
use Rattle.pico_base.specs.declared.script.Script.{Script}
use Rattle.world_model.specs.Node.{Node}
use Rattle.node_core.specs.declared.turn.Input.{Input}
use Rattle.node_core.specs.declared.turn.Turn.{Turn}
use Rattle.node_state.specs.declared.fault.TurnFault.{TurnFault}
use Rattle.node_state.specs.declared.fault.TurnFault.TheVariants.{Memory, NotAllowed}
use Rattle.node_core.specs.Step.{step_of, step_as}

-- the node wasn't spent, and its step by the input is this turn and leaves the node as it is now
abbrev pub IsTurn : Script → Option Node → Input → Option Node → Turn → Type 0
IsTurn script None input new turn = ⊥
IsTurn script (Some n) input None turn = ⊥
IsTurn script (Some n) input (Some m) turn = (strikes : Bool) × (step_of script n input ≡ Some (step_as m turn strikes))

-- the same, where what the turn makes follows behind what was made before
pub record IsTurnOnto (script : Script) (old : Option Node) (input : Input) (new : Option Node) (before after : Turn)
    : Type 0 where
  pub turn : Turn
  pub taken : IsTurn script old input new turn
  pub entries : after.entries ≡ before.entries ++ turn.entries
  pub sends : after.sends ≡ before.sends ++ turn.sends

-- the node wasn't spent, it has no step by the input, and it is as it was
abbrev pub IsRefusal : Script → Option Node → Input → Option Node → Type 0
IsRefusal script None input new = ⊥
IsRefusal script (Some n) input new = (step_of script n input ≡ None) × (new ≡ Some n)

-- a turn's answer isn't NotAllowed
abbrev pub IsAllowed : Result Unit TurnFault → Type 0
IsAllowed result = result ≡ Err NotAllowed → ⊥

-- What a turn that follows behind others comes to, before and after it.
pub record Turned (script : Script) (old : Option Node) (input : Input) (new : Option Node) (before after : Turn)
    (result : Result Unit TurnFault) : Type 0 where
  -- A turn is the machine's step, and the node is left as the step leaves it.
  pub ok : IfOk result (λ _. IsTurnOnto script old input new before after)
  -- A refusal: there is no step, and nothing is changed.
  pub not_allowed : result ≡ Err NotAllowed → IsRefusal script old input new × (after ≡ before)
  -- Without memory the node is spent, and a spent node has no memory.
  pub memory : result ≡ Err Memory → new ≡ None
  pub spent : old ≡ None → result ≡ Err Memory
  -- Where memory doesn't run out, there is a turn exactly where there is a step.
  pub step : IfSome old (λ n. IsSome (step_of script n input) → IsAllowed result)
  pub no_step : IfSome old (λ n. step_of script n input ≡ None → IsErr result)
