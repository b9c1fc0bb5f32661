-- A turn of a node that logs: what it takes in, whether it has a rule, its stamp, and what it leaves.
use Rattle.std.specs.Prelude.{◌≡◌, ◌⊎◌, ℕ, ◌+◌, ◌-◌, ◌^◌, ◌≤◌, Bool, false, ◌&&◌, ◌||◌, min, max, nat_eq, if◌then◌else◌, List, [], ◌∷◌, ◌++◌, map, Option, Some, None}
use Rattle.std.specs.List.{list_all, list_any, AllByRecursion}
use Rattle.std.specs.Option.{option_and_then}
use Rattle.pico_base.specs.declared.script.Script.{Script}
use Rattle.pico_base.specs.declared.reply.Entry.{Entry}
use Rattle.rpc_frame.specs.declared.frame.Frame.{Frame}
use Rattle.frame_bytes.specs.Limits.{is_frame}
use Rattle.frame_bytes.specs.Ranges.{IsFrame}
use Rattle.journal_core.specs.declared.fault.AppendFault.TheVariants as append_faults
use Rattle.journal_core.specs.Seated.{Seated, IsStamp, Appends, Refuses}
use Rattle.world_model.specs.Node.{Node, is_born, can_run}
use Rattle.world_model.specs.Step.{Step}
use Rattle.log_laws.specs.Logs.{Input, Runs, Takes, Logged, turn_on, sent_to, stamped}
use Rattle.log_laws.specs.EventLogs.{event_item_of}
use Rattle.piece_laws.specs.Pieces.{pieces_of}
use Rattle.log_model.specs.declared.answer.LogFault.{LogFault}
use Rattle.log_model.specs.declared.answer.LogFault.TheVariants as faults
use Rattle.log_model.specs.declared.answer.TurnAnswer.{TurnAnswer}
use Rattle.log_model.specs.declared.answer.TurnAnswer.TheVariants.{Did, Piece, Idle, Memory, BadFrame, StampEnd}
use Rattle.log_model.specs.declared.found.Found.{Found}
use Rattle.log_model.specs.declared.found.Found.TheVariants as founds
use Rattle.log_model.specs.Views.{Line, LoggedNode}
use Rattle.log_model.specs.Forkers.{forker_of}
use Rattle.log_model.specs.Looks.{Looks}

-- ---- what a turn takes in

-- a born node looks at each stream, and another at that from the node whose block forks it
abbrev pub may_take : Script → ℕ → Node → ℕ → Bool
may_take script number n other = is_born n || nat_eq other (forker_of script number)

-- a frame that was found, or else the next line where the node's process can start a call
abbrev pub input_of : Node → Found → Option Input
input_of n (founds.Whole sender stamp frame) = Some (Takes sender (stamped stamp frame))
input_of n founds.Refused = None
input_of n found = if can_run n then Some Runs else None

-- ---- whether it has a rule

abbrev pub has_line : List Line → ℕ → Bool
has_line lines to = list_any (λ line. nat_eq line.other to) lines

-- each frame has a spelling and goes to another node
abbrev pub may_send : List Line → List (ℕ × Frame) → Bool
may_send lines sends = list_all (λ s. has_line lines s.0 && is_frame s.1) sends

abbrev pub step_if_sent : List Line → Step → Option Step
step_if_sent lines step = if may_send lines step.sends then Some step else None

-- the machine's turn, where all that it sends may be sent
abbrev pub rule_of : Script → List Line → Node → Input → Option Step
rule_of script lines n input = option_and_then (step_if_sent lines) (turn_on script n input)

-- ---- its stamp

-- the larger of the last stamp and the stamp of the frame
abbrev pub floor_of : ℕ → Input → ℕ
floor_of clock Runs = clock
floor_of clock (Takes sender taken) = max clock taken.stamp

-- One more than that. A turn that makes entries draws its stamp under the journal's lock.
abbrev pub IsStamped : ℕ → List Entry → Seated → Seated → ℕ → Type 0
IsStamped floor [] old new stamp = IsStamp stamp floor × (new ≡ old)
IsStamped floor (e ∷ es) old new stamp = Appends floor (e ∷ es) old new stamp

-- no stamp is left: this number is at least 2^63 - 1
abbrev pub HasNoStamp : ℕ → List Entry → Seated → Seated → ℕ → Type 0
HasNoStamp floor [] old new last = (2 ^ 63 - 1 ≤ floor) × (last ≡ floor) × (new ≡ old)
HasNoStamp floor (e ∷ es) old new last = Refuses floor old new (append_faults.StampEnd last)

-- ---- what it leaves

-- the turn, as the node's log has it
abbrev pub turn_with : ℕ → Input → Step → Logged
turn_with stamp input step = record { stamp = stamp; input = input; step = step }

-- the line with the pieces of the frames that the turn sends there, one frame after the other
abbrev pub with_sent : ℕ → List (ℕ × Frame) → Line → Line
with_sent stamp sends line =
    record line {
      out =
          record {
            stream = line.out.stream;
            sent = line.out.sent ++ pieces_of (map (stamped stamp) (sent_to line.other sends));
          };
    }

-- one turn more in a row that found nothing; the number stands still at its type's last value
abbrev pub one_more_quiet : ℕ → ℕ
one_more_quiet quiet = min (quiet + 1) (2 ^ 64 - 1)

-- An event of the machine: the node is left as the rule says, and log, entries and frames have the event's stamp. Each
-- frame has a spelling: besides what the rule's test says, the numbers of its fields have the ranges of their types.
pub record DoesEvent (script : Script) (old : LoggedNode) (n : Node) (found : Found) (lines : List Line)
    (new : LoggedNode) : Type 0 where
  pub input : Input
  pub is_input : input_of n found ≡ Some input
  pub step : Step
  pub is_step : rule_of script lines n input ≡ Some step
  pub frames : AllByRecursion (λ s. IsFrame s.1) step.sends
  pub stamp : ℕ
  pub is_stamp : IsStamped (floor_of old.clock input) step.entries old.seat new.seat stamp
  pub seat : new.seat.number ≡ old.seat.number
  pub is : new ≡ record old {
    node = Some step.node;
    forker = new.forker;
    clock = stamp;
    log = old.log ++ event_item_of old.number (turn_with stamp input step) ∷ [];
    lines = map (with_sent stamp step.sends) lines;
    seat = new.seat;
    quiet = 0;
  }

-- no event: the looks were made, and so many turns in a row found nothing
abbrev pub after_looks : LoggedNode → List Line → ℕ → Option ℕ → LoggedNode
after_looks old lines quiet forker = record old { lines = lines; quiet = quiet; forker = forker }

-- the input has no rule
pub record HasNoRule (script : Script) (n : Node) (found : Found) (lines : List Line) : Type 0 where
  pub input : Input
  pub is_input : input_of n found ≡ Some input
  pub no_rule : rule_of script lines n input ≡ None

-- the node makes no turns any more, and nothing is said of the machine's node
abbrev pub with_fault : LoggedNode → List Line → LoggedNode → LogFault → LoggedNode
with_fault old lines new fault =
    record old {
      node = new.node;
      forker = new.forker;
      lines = lines;
      seat = new.seat;
      quiet = 0;
      fault = Some fault;
    }

pub record EndsBadly (script : Script) (old : LoggedNode) (n : Node) (found : Found) (lines : List Line)
    (new : LoggedNode) : Type 0 where
  pub cause : (found ≡ founds.Refused) ⊎ HasNoRule script n found lines
  pub seat : new.seat ≡ old.seat
  pub is : new ≡ with_fault old lines new faults.BadFrame

-- the input has a rule, and no stamp is left for its event
pub record EndsFull (script : Script) (old : LoggedNode) (n : Node) (found : Found) (lines : List Line)
    (new : LoggedNode) (last : ℕ) : Type 0 where
  pub input : Input
  pub is_input : input_of n found ≡ Some input
  pub step : Step
  pub is_step : rule_of script lines n input ≡ Some step
  pub no_stamp : HasNoStamp (floor_of old.clock input) step.entries old.seat new.seat last
  pub seat : new.seat.number ≡ old.seat.number
  pub is : new ≡ with_fault old lines new (faults.StampEnd last)

-- what each answer says, behind the looks
abbrev pub EndsAs : Script → LoggedNode → Node → Found → List Line → LoggedNode → TurnAnswer → Type 0
EndsAs script old n found lines new Did = DoesEvent script old n found lines new
EndsAs script old n found lines new Piece =
    (found ≡ founds.Part) × (can_run n ≡ false) × (new ≡ after_looks old lines 0 new.forker)
EndsAs script old n found lines new Idle =
    (found ≡ founds.Nothing) × (can_run n ≡ false)
    × (new ≡ after_looks old lines (one_more_quiet old.quiet) new.forker)
EndsAs script old n found lines new BadFrame = EndsBadly script old n found lines new
EndsAs script old n found lines new (StampEnd last) = EndsFull script old n found lines new last
EndsAs script old n found lines new Memory = ⊥

-- a turn of a node that isn't spent: looks at the streams that it may take from, and what comes of them
pub record IsTurn (script : Script) (old new : LoggedNode) (answer : TurnAnswer) : Type 0 where
  pub node : Node
  pub here : old.node ≡ Some node
  pub found : Found
  pub lines : List Line
  pub looks : Looks (may_take script old.number node) old.lines found lines
  pub ends : EndsAs script old node found lines new answer

-- an allocation was refused: the node is spent
pub record IsSpent (old new : LoggedNode) : Type 0 where
  pub fault : new.fault ≡ Some faults.Memory
  pub number : new.number ≡ old.number
  pub lock : new.seat.lock ≡ old.seat.lock
  pub seat : new.seat.number ≡ old.seat.number
  pub quiet : new.quiet ≡ 0

abbrev pub answer_of : LogFault → TurnAnswer
answer_of faults.Memory = Memory
answer_of faults.BadFrame = BadFrame
answer_of (faults.StampEnd last) = StampEnd last

abbrev pub IsTurnOrSpent : Script → LoggedNode → LoggedNode → TurnAnswer → Type 0
IsTurnOrSpent script old new Memory = IsSpent old new
IsTurnOrSpent script old new answer = IsTurn script old new answer

-- What a turn comes to. After a fault each turn answers the same.
abbrev pub TurnsFrom : Option LogFault → Script → LoggedNode → LoggedNode → TurnAnswer → Type 0
TurnsFrom (Some fault) script old new answer = (answer ≡ answer_of fault) × (new ≡ old)
TurnsFrom None script old new answer = IsTurnOrSpent script old new answer

abbrev pub Turned : Script → LoggedNode → LoggedNode → TurnAnswer → Type 0
Turned script old new answer = TurnsFrom old.fault script old new answer
