-- Two nodes that log, with one lock.
use Rattle.std.specs.Prelude.{◌≡◌, ℕ, [], ◌∷◌, Some}
use Rattle.pico_base.specs.declared.script.Script.{Script}
use Rattle.journal_core.specs.Seated.{Lock, Seated}
use Rattle.world_model.specs.Node.{opening_node}
use Rattle.log_model.specs.Views.{LoggedNode}
use Rattle.log_model.specs.Logged.{IsOfScript}
use Rattle.node_lines.specs.declared.end.End.{End}
use Rattle.node_log.specs.Inside.{opened}

-- a node that has made no turn, with streams to and from one other
abbrev pub opened_node : End → Seated → LoggedNode
opened_node end seat = opened (Some (opening_node seat.number)) (end ∷ []) seat

-- the node of the script that has the lock's seat of this number
pub record HasSeat (script : Script) (lock : Lock) (number : ℕ) (l : LoggedNode) : Type 0 where
  pub of_script : IsOfScript script l
  pub lock_is : l.seat.lock ≡ lock.id
  pub number_is : l.seat.number ≡ number

pub record AreTwo (script : Script) (lock : Lock) (first second : LoggedNode) : Type 0 where
  pub seats : lock.seats ≡ 2
  pub first_has : HasSeat script lock 1 first
  pub second_has : HasSeat script lock 2 second
