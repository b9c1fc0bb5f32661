-- A node in its thread.
use Rattle.std.specs.Prelude.{◌≡◌, ℕ, ◌≤◌, None}
use Rattle.pico_base.specs.declared.script.Script.{Script}
use Rattle.journal_core.specs.Seated.{Lock}
use Rattle.log_model.specs.Views.{LoggedNode}
use Rattle.log_model.specs.Logged.{IsOfScript}
use Rattle.logged_laws.specs.Laws.{IsKept}
use Rattle.pico_run.specs.Grid.{wires_of}

-- after so many turns in a row that found nothing a thread leaves
abbrev pub quiet_turns : ℕ
quiet_turns = 100000

-- it may make turns: it is a node of the script, and its seat is one of this lock
pub record CanTurn (script : Script) (lock : Lock) (l : LoggedNode) : Type 0 where
  pub of_script : IsOfScript script l
  pub lock_is : l.seat.lock ≡ lock.id
  pub kept : IsKept script l

-- it is the same node, with the same lock and the same streams
pub record IsSameNode (old new : LoggedNode) : Type 0 where
  pub number : new.number ≡ old.number
  pub lock : new.seat.lock ≡ old.seat.lock
  pub wires : wires_of new ≡ wires_of old

-- it made its turns, and left as it was quiet, or with a fault
pub record IsWorked (script : Script) (old new : LoggedNode) : Type 0 where
  pub same : IsSameNode old new
  pub kept : IsKept script new
  pub quiet : new.fault ≡ None → quiet_turns ≤ new.quiet

-- it makes its turns, up to now
pub record IsTurning (script : Script) (lock : Lock) (old new : LoggedNode) : Type 0 where
  pub same : IsSameNode old new
  pub can_turn : CanTurn script lock new
