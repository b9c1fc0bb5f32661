-- What a node's turns keep true.
use Rattle.std.specs.Prelude.{◌≡◌, ◌⊎◌, [], Some, None}
use Rattle.std.specs.List.{AllByRecursion}
use Rattle.pico_base.specs.declared.script.Script.{Script}
use Rattle.frame_bytes.specs.Streams.{Rest}
use Rattle.world_model.specs.Node.{opening_node}
use Rattle.log_model.specs.declared.answer.LogFault.TheVariants as faults
use Rattle.log_model.specs.declared.answer.TurnAnswer.{TurnAnswer}
use Rattle.log_model.specs.Views.{Line, LoggedNode}
use Rattle.log_model.specs.Logged.{IsOfScript, IsLogged}
use Rattle.log_model.specs.Turns.{Turned}

-- nothing was sent or taken yet
pub record IsNewLine (line : Line) : Type 0 where
  pub sent : line.out.sent ≡ []
  pub taken : line.into.taken ≡ []
  pub left : line.left ≡ Rest []

-- a node that has made no turn
pub record IsNew (l : LoggedNode) : Type 0 where
  pub node : l.node ≡ Some (opening_node l.number)
  pub clock : l.clock ≡ 0
  pub log : l.log ≡ []
  pub lines : AllByRecursion IsNewLine l.lines
  pub own : l.seat.own ≡ []
  pub seat : l.seat.number ≡ l.number
  pub fault : l.fault ≡ None

-- A new node's log says all of its turns, of which there are none,
abbrev pub NewNodesAreLogged : Type 0
NewNodesAreLogged = (script : Script) (l : LoggedNode) → IsNew l → IsOfScript script l → IsLogged script l

-- and each turn keeps it, as long as memory goes: a node that is spent makes no further turn.
abbrev pub IsKept : Script → LoggedNode → Type 0
IsKept script l = (l.fault ≡ Some faults.Memory) ⊎ IsLogged script l

abbrev pub TurnsKeepLogs : Type 0
TurnsKeepLogs = (script : Script) (old new : LoggedNode) (answer : TurnAnswer) → IsKept script old
    → Turned script old new answer → IsOfScript script new → IsKept script new
