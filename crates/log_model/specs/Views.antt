-- What contracts see of a node that logs, and of its streams with the other nodes.
use Rattle.std.specs.Prelude.{ℕ, List, Option}
use Rattle.pico_base.specs.declared.script.Event.{Event}
use Rattle.stamp_merge.specs.declared.Stamped.{Stamped}
use Rattle.stream_pair.specs.Ends.{Sending, Taking}
use Rattle.journal_core.specs.Seated.{Seated}
use Rattle.frame_bytes.specs.Streams.{Left}
use Rattle.world_model.specs.Node.{Node}
use Rattle.log_model.specs.declared.answer.LogFault.{LogFault}

-- the streams with one other node: all that was sent to it; all that was taken from it, and how often was looked; and
-- what was taken and is no whole frame yet
pub record Line : Type 0 where
  pub other : ℕ
  pub out : Sending
  pub into : Taking
  pub left : Left

-- A node with its log: its number, the machine's node or none where it is spent, the node whose block forks it once
-- that was looked up, the last stamp, the events with their stamps, a line for each other node, its seat at the
-- journal, how many turns in a row found nothing, and why it makes none any more.
pub record LoggedNode : Type 0 where
  pub number : ℕ
  pub node : Option Node
  pub forker : Option ℕ
  pub clock : ℕ
  pub log : List (Stamped Event)
  pub lines : List Line
  pub seat : Seated
  pub quiet : ℕ
  pub fault : Option LogFault

-- what a node leaves when it has made its last turn: its number, how many turns in a row found nothing, and its log
pub record Parting : Type 0 where
  pub node : ℕ
  pub quiet : ℕ
  pub log : List (Stamped Event)
