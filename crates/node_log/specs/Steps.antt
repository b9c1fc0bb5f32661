-- What single calls of a turn say: the machine's step that may be sent, its stamp, and which faults there are.
use Rattle.std.specs.Prelude.{◌≡◌, ℕ, zero, suc, Bool, true, false, List, Option, Some, None}
use Rattle.std.specs.Option.{option_and_then}
use Rattle.pico_base.specs.declared.script.Script.{Script}
use Rattle.journal_core.specs.Seated.{Seated}
use Rattle.world_model.specs.Node.{Node, is_born, can_run}
use Rattle.world_model.specs.Step.{Step}
use Rattle.node_core.specs.declared.turn.Input.{Input}
use Rattle.node_core.specs.declared.turn.Turn.{Turn}
use Rattle.node_core.specs.Step.{step_of, step_as}
use Rattle.log_model.specs.declared.answer.LogFault.{LogFault}
use Rattle.log_model.specs.declared.answer.LogFault.TheVariants as faults
use Rattle.log_model.specs.declared.answer.TurnAnswer.TheVariants.{Idle}
use Rattle.log_model.specs.Views.{Line, LoggedNode}
use Rattle.log_model.specs.Logged.{IsOfScript}
use Rattle.log_model.specs.Turns.{step_if_sent, may_send, Turned}
use Rattle.node_lines.specs.Lines.{AreSameLines}

-- the machine's step by an input, where all that it sends may be sent
abbrev pub sent_step : Script → List Line → Input → Node → Option Step
sent_step script lines input n = option_and_then (step_if_sent lines) (step_of script n input)

-- the node wasn't spent, and its turn is that step
pub record IsSentTurn (script : Script) (lines : List Line) (old : Option Node) (input : Input) (new : Option Node)
    (turn : Turn) : Type 0 where
  pub node : Node
  pub here : old ≡ Some node
  pub next : Node
  pub left : new ≡ Some next
  pub strikes : Bool
  pub step : sent_step script lines input node ≡ Some (step_as next turn strikes)
  pub may : may_send lines turn.sends ≡ true

-- the node wasn't spent, and there is no such step
pub record HasNoStep (rule : Node → Option Step) (old : Option Node) : Type 0 where
  pub node : Node
  pub here : old ≡ Some node
  pub none : rule node ≡ None

-- which faults a step may have, and which the drawing of a stamp
abbrev pub IsTurnFault : LogFault → Type 0
IsTurnFault faults.Memory = Unit {0}
IsTurnFault faults.BadFrame = Unit {0}
IsTurnFault (faults.StampEnd last) = ⊥

abbrev pub IsStampFault : LogFault → Type 0
IsStampFault faults.Memory = Unit {0}
IsStampFault faults.BadFrame = ⊥
IsStampFault (faults.StampEnd last) = Unit {0}

-- the same lock, and the same number there
abbrev pub IsSameSeat : Seated → Seated → Type 0
IsSameSeat old new = (new.lock ≡ old.lock) × (new.number ≡ old.number)

-- it is born, and its process can't start a call
abbrev pub IsWaiting : Node → Type 0
IsWaiting n = (is_born n ≡ true) × (can_run n ≡ false)

-- ---- turns that find nothing

-- one of them, of the same node with the same streams and seat
pub record IsIdleTurn (script : Script) (old new : LoggedNode) : Type 0 where
  pub turned : Turned script old new Idle
  pub of_script : IsOfScript script new
  pub number : new.number ≡ old.number
  pub lines : AreSameLines old.lines new.lines
  pub seat : IsSameSeat old.seat new.seat

-- one more behind others
pub record IsOneMoreIdle (script : Script) (new : LoggedNode) (Before : LoggedNode → Type 0) : Type 0 where
  pub mid : LoggedNode
  pub before : Before mid
  pub idle : IsIdleTurn script mid new

-- so many, one behind the other
abbrev pub AreIdleTurns : Script → ℕ → LoggedNode → LoggedNode → Type 0
AreIdleTurns script zero old new = new ≡ old
AreIdleTurns script (suc count) old new = IsOneMoreIdle script new (λ mid. AreIdleTurns script count old mid)
