-- The parts of a node that logs, and what an event does with them.
use Rattle.std.specs.Prelude.{◌≡◌, ℕ, List, [], ◌∷◌, ◌++◌, map, Option, Some, None, Result, Ok, Err}
use Rattle.std.specs.List.{AllByRecursion}
use Rattle.pico_base.specs.declared.reply.Entry.{Entry}
use Rattle.pico_base.specs.declared.script.Event.{Event}
use Rattle.rpc_frame.specs.declared.frame.Frame.{Frame}
use Rattle.stamp_merge.specs.declared.Stamped.{Stamped}
use Rattle.frame_bytes.specs.Ranges.{IsFrame}
use Rattle.world_model.specs.Node.{Node}
use Rattle.world_model.specs.Step.{Step}
use Rattle.log_model.specs.declared.answer.LogFault.{LogFault}
use Rattle.log_model.specs.declared.answer.TurnAnswer.{TurnAnswer}
use Rattle.log_model.specs.declared.answer.TurnAnswer.TheVariants.{Did, Piece, Idle}
use Rattle.log_model.specs.Views.{LoggedNode}
use Rattle.log_model.specs.Turns.{IsStamped, HasNoStamp, with_sent, one_more_quiet, answer_of}
use Rattle.node_lines.specs.Lines.{AreSameLines}
use Rattle.node_log.specs.declared.made.Made.{Made}
use Rattle.node_log.specs.declared.made.Made.TheVariants as mades
use Rattle.node_log.specs.declared.works.Works.{Works}
use Rattle.node_log.specs.Steps.{IsSameSeat}

-- the parts as one node, with how many turns in a row found nothing, and why it makes none any more
abbrev pub view_with : Works → ℕ → Option LogFault → LoggedNode
view_with w quiet fault =
    record {
      number = w.number;
      node = w.node;
      forker = w.forker;
      clock = w.clock;
      log = w.log;
      lines = w.lines.items;
      seat = w.seat;
      quiet = quiet;
      fault = fault;
    }

-- the node has its number, its streams and its seat still
pub record IsSamePlace (old new : Works) : Type 0 where
  pub number : new.number ≡ old.number
  pub seat : IsSameSeat old.seat new.seat
  pub lines : AreSameLines old.lines.items new.lines.items

-- ---- an event

-- an event of this node with its stamp
abbrev pub stamped_event : ℕ → ℕ × Event → Stamped Event
stamped_event stamp event = record { stamp = stamp; node = event.0; item = event.1 }

-- the event has a stamp above the floor; log, seat and lines have it under that stamp
pub record IsNoted (old : Works) (floor : ℕ) (event : Event) (entries : List Entry) (sends : List (ℕ × Frame))
    (new : Works) : Type 0 where
  pub frames : AllByRecursion (λ s. IsFrame s.1) sends
  pub stamp : ℕ
  pub is_stamp : IsStamped floor entries old.seat new.seat stamp
  pub clock : new.clock ≡ stamp
  pub log : new.log ≡ old.log ++ stamped_event stamp (old.number, event) ∷ []
  pub lines : new.lines.items ≡ map (with_sent stamp sends) old.lines.items

-- nothing is logged or sent
pub record IsUnchanged (old new : Works) : Type 0 where
  pub clock : new.clock ≡ old.clock
  pub log : new.log ≡ old.log
  pub lines : new.lines.items ≡ old.lines.items

-- no stamp is left for such entries
pub record IsUnnoted (old : Works) (floor : ℕ) (entries : List Entry) (new : Works) (last : ℕ) : Type 0 where
  pub no_stamp : HasNoStamp floor entries old.seat new.seat last
  pub rest : IsUnchanged old new

-- the node wasn't spent, and its step by this rule is noted
pub record IsMade (rule : Node → Option Step) (floor : ℕ) (event : Event) (old new : Works) : Type 0 where
  pub node : Node
  pub here : old.node ≡ Some node
  pub step : Step
  pub is_step : rule node ≡ Some step
  pub next : new.node ≡ Some step.node
  pub noted : IsNoted old floor event step.entries step.sends new

-- the node wasn't spent, and has no step by this rule
pub record IsUnmade (rule : Node → Option Step) (old new : Works) : Type 0 where
  pub node : Node
  pub here : old.node ≡ Some node
  pub none : rule node ≡ None
  pub seat : new.seat ≡ old.seat
  pub rest : IsUnchanged old new

-- the node wasn't spent, and there is no stamp for its step by this rule
pub record IsFull (rule : Node → Option Step) (floor : ℕ) (old new : Works) (last : ℕ) : Type 0 where
  pub node : Node
  pub here : old.node ≡ Some node
  pub step : Step
  pub is_step : rule node ≡ Some step
  pub unnoted : IsUnnoted old floor step.entries new last

-- ---- what a turn comes to

-- an event, where it was made
abbrev pub made_of : Result Unit LogFault → Result Made LogFault
made_of (Ok _) = Ok mades.Event
made_of (Err fault) = Err fault

abbrev pub answer_after : Result Made LogFault → TurnAnswer
answer_after (Ok mades.Event) = Did
answer_after (Ok mades.Part) = Piece
answer_after (Ok mades.Nothing) = Idle
answer_after (Err fault) = answer_of fault

abbrev pub fault_after : Result Made LogFault → Option LogFault
fault_after (Ok made) = None
fault_after (Err fault) = Some fault

abbrev pub quiet_after : ℕ → Result Made LogFault → ℕ
quiet_after quiet (Ok mades.Nothing) = one_more_quiet quiet
quiet_after quiet result = 0
