-- The nodes of a script before their threads start.
use Rattle.std.specs.Prelude.{◌≡◌, ℕ, List, length, Some}
use Rattle.pico_base.specs.declared.script.Script.{Script}
use Rattle.journal_core.specs.Seated.{Lock, Seated}
use Rattle.world_model.specs.Node.{opening_node}
use Rattle.world_model.specs.World.{node_count}
use Rattle.log_model.specs.Views.{LoggedNode}
use Rattle.node_lines.specs.declared.end.End.{End}
use Rattle.node_log.specs.Inside.{opened}
use Rattle.pico_run.specs.Numbered.{AllFrom}
use Rattle.pico_run.specs.Grid.{IsGrid, wires_of_all}
use Rattle.pico_run.specs.Turning.{CanTurn}

-- a node that has made no turn, with these ends and this seat
abbrev pub opened_node : List End → Seated → LoggedNode
opened_node ends seat = opened (Some (opening_node seat.number)) ends seat

pub record IsReady (script : Script) (lock : Lock) (number : ℕ) (l : LoggedNode) : Type 0 where
  pub number_is : l.number ≡ number
  pub can_turn : CanTurn script lock l

-- by rising number, from this one on
abbrev pub AreReady : Script → Lock → ℕ → List LoggedNode → Type 0
AreReady script lock first nodes = AllFrom (IsReady script lock) first nodes

-- all nodes of the script: each has a seat of the lock, and streams with each other
pub record AreOpened (script : Script) (lock : Lock) (nodes : List LoggedNode) : Type 0 where
  pub seats : lock.seats ≡ node_count script
  pub count : length nodes ≡ node_count script
  pub ready : AreReady script lock 1 nodes
  pub grid : IsGrid (node_count script) (wires_of_all nodes)
