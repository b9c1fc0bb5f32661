-- What a node that logs keeps true of all its turns: the node, the log, its entries, what it has sent and taken, and
-- where its stamps come from. It knows nothing of the other threads but what it took.
use Rattle.std.specs.Prelude.{◌≡◌, ◌⊎◌, ℕ, ◌+◌, ◌-◌, ◌^◌, ◌≤◌, true, nat_eq, not, List, [], ◌∷◌, ◌++◌, map, Option, Some, None, Result, Ok, Contains}
use Rattle.std.specs.List.{flat_map, filter, AllByRecursion}
use Rattle.pico_base.specs.declared.script.Script.{Script}
use Rattle.rpc_frame.specs.declared.frame.Frame.{Frame}
use Rattle.stream_pair.specs.declared.piece.Piece.{Piece}
use Rattle.frame_bytes.specs.declared.fault.FrameFault.{FrameFault}
use Rattle.frame_bytes.specs.Ranges.{IsFrame}
use Rattle.frame_bytes.specs.Streams.{Left, Feeds}
use Rattle.journal_core.specs.declared.stamped.Stamped.{Stamped}
use Rattle.journal_core.specs.Journal.{under}
use Rattle.world_model.specs.Node.{Node, opening_node, can_run}
use Rattle.world_model.specs.World.{numbers, node_count}
use Rattle.stamp_merge.specs.Merge.{StampsRise}
use Rattle.log_laws.specs.Logs.{StampedFrame, Input, Runs, Takes, Logged, Log, items_in, LeadsTo, GoesBetween, sent_in, taken_in}
use Rattle.log_laws.specs.EventLogs.{event_log}
use Rattle.piece_laws.specs.Pieces.{pieces_of, Took}
use Rattle.log_model.specs.declared.answer.LogFault.{LogFault}
use Rattle.log_model.specs.declared.answer.LogFault.TheVariants as faults
use Rattle.log_model.specs.Views.{Line, LoggedNode}
use Rattle.log_model.specs.Forkers.{forker_of}
use Rattle.log_model.specs.Looks.{IsRefused}
use Rattle.log_model.specs.Turns.{may_take, rule_of}

-- ---- which streams it has

-- all nodes of the script but this one, by rising number
abbrev pub others_of : Script → ℕ → List ℕ
others_of script number = filter (λ q. not (nat_eq q number)) (numbers 1 (node_count script))

abbrev pub others_in : List Line → List ℕ
others_in lines = map (λ line. line.other) lines

-- a line for each other node, and the node that forks it is the script's, once it was looked up
pub record IsOfScript (script : Script) (l : LoggedNode) : Type 0 where
  pub low : 1 ≤ l.number
  pub high : l.number ≤ node_count script
  pub others : others_in l.lines ≡ others_of script l.number
  pub forker : (q : ℕ) → l.forker ≡ Some q → q ≡ forker_of script l.number

-- ---- what went over a line

-- What was sent are the frames of the turns, each in its pieces. What was taken is, up to some pieces, the frames that
-- the turns took, and what a joiner then has.
pub record IsLineOf (turns : Log) (line : Line) : Type 0 where
  pub sent : line.out.sent ≡ pieces_of (sent_in line.other turns)
  pub earlier : List Piece
  pub more : List Piece
  pub left : Left
  pub taken : line.into.taken ≡ earlier ++ more
  pub took : Took earlier (taken_in line.other turns) left

-- nothing was taken besides
pub record IsWholeLine (turns : Log) (line : Line) : Type 0 where
  pub sent : line.out.sent ≡ pieces_of (sent_in line.other turns)
  pub took : Took line.into.taken (taken_in line.other turns) line.left

-- one piece was taken besides, and the joiner answers this to it
pub record IsBehind (turns : Log) (line : Line) (answer : Result (List Frame) FrameFault) : Type 0 where
  pub sent : line.out.sent ≡ pieces_of (sent_in line.other turns)
  pub earlier : List Piece
  pub piece : Piece
  pub left : Left
  pub new : Left
  pub taken : line.into.taken ≡ earlier ++ piece ∷ []
  pub took : Took earlier (taken_in line.other turns) left
  pub feeds : Feeds left piece.bytes answer new

-- ---- where stamps come from

-- it is 0, or a stamp of these turns, or the frame's, or that of an entry which the seat has seen
pub data IsFloor (turns : Log) (input : Input) (seen : List Stamped) (floor : ℕ) : Type 0 where
  FromNothing : floor ≡ 0 → IsFloor turns input seen floor
  FromTurn : (turn : Logged) → Contains turns turn → turn.stamp ≡ floor → IsFloor turns input seen floor
  FromFrame : (sender : ℕ) (taken : StampedFrame) → input ≡ Takes sender taken → taken.stamp ≡ floor
      → IsFloor turns input seen floor
  FromEntry : (e : Stamped) → Contains seen e → e.stamp ≡ floor → IsFloor turns input seen floor

-- a turn's stamp is one more than such a number
pub record IsDrawn (turns : Log) (seen : List Stamped) (turn : Logged) : Type 0 where
  pub floor : ℕ
  pub from : IsFloor turns turn.input seen floor
  pub is : turn.stamp ≡ floor + 1

-- ---- why it makes no turns any more

-- the line and its frame, which the turn would have taken
pub record WouldTake (turns : Log) (lines : List Line) (sender : ℕ) (taken : StampedFrame) : Type 0 where
  pub line : Line
  pub there : Contains lines line
  pub other : line.other ≡ sender
  pub behind : IsBehind turns line (Ok (taken.frame ∷ []))
  pub stamped : behind.piece.stamp ≡ taken.stamp

-- what the turn would have taken in was there
abbrev pub WasThere : Log → List Line → Node → Input → Type 0
WasThere turns lines n Runs = can_run n ≡ true
WasThere turns lines n (Takes sender taken) = WouldTake turns lines sender taken

pub record IsRefusedLine (turns : Log) (lines : List Line) : Type 0 where
  pub line : Line
  pub there : Contains lines line
  pub answer : Result (List Frame) FrameFault
  pub refused : IsRefused answer
  pub behind : IsBehind turns line answer

pub record HadNoRule (script : Script) (l : LoggedNode) (turns : Log) (last : Node) : Type 0 where
  pub input : Input
  pub there : WasThere turns l.lines last input
  pub may : (sender : ℕ) (taken : StampedFrame) → input ≡ Takes sender taken
      → may_take script l.number last sender ≡ true
  pub no_rule : rule_of script l.lines last input ≡ None

pub record HadNoStamp (script : Script) (l : LoggedNode) (turns : Log) (last : Node) : Type 0 where
  pub input : Input
  pub there : WasThere turns l.lines last input
  pub floor : ℕ
  pub from : IsFloor turns input l.seat.seen floor
  pub high : 2 ^ 63 - 1 ≤ floor

-- it goes on where it stands; or bytes or a frame were refused, or a line; or no stamp was left
abbrev pub Stands : Script → LoggedNode → Log → Node → Option LogFault → Type 0
Stands script l turns last None = (l.node ≡ Some last) × AllByRecursion (IsWholeLine turns) l.lines
Stands script l turns last (Some faults.BadFrame) =
    IsRefusedLine turns l.lines ⊎ HadNoRule script l turns last
Stands script l turns last (Some (faults.StampEnd end)) = HadNoStamp script l turns last
Stands script l turns last (Some faults.Memory) = ⊥

-- ---- all of it

-- frames come from others and go to others
abbrev pub IsFromOther : List Line → Input → Type 0
IsFromOther lines Runs = Unit {0}
IsFromOther lines (Takes sender taken) = Contains (others_in lines) sender

pub record GoesToOthers (lines : List Line) (turn : Logged) : Type 0 where
  pub taken : IsFromOther lines turn.input
  pub sent : AllByRecursion (λ s. Contains (others_in lines) s.0) turn.step.sends

-- each frame that was sent has a spelling
abbrev pub SendsFrames : Logged → Type 0
SendsFrames turn = AllByRecursion (λ s. IsFrame s.1) turn.step.sends

-- a turn's entries under its stamp, as they stand in the journal
abbrev pub entries_under : ℕ → Logged → List Stamped
entries_under seat turn = under turn.stamp seat turn.step.entries

-- The node's turns are the machine's, from the opening node on. Its log is their events, under rising stamps of which
-- the clock is the last, and its seat has appended their entries under these.
pub record IsLogged (script : Script) (l : LoggedNode) : Type 0 where
  pub of_script : IsOfScript script l
  pub turns : Log
  pub last : Node
  pub leads : LeadsTo script (opening_node l.number) turns last
  pub rise : StampsRise (items_in l.number turns)
  pub clock : AllByRecursion (λ turn. turn.stamp ≤ l.clock) turns
  pub clock_is : (l.clock ≡ 0) ⊎ ((turn : Logged) × Contains turns turn × (turn.stamp ≡ l.clock))
  pub log : l.log ≡ event_log l.number turns
  pub own : l.seat.own ≡ flat_map (entries_under l.seat.number) turns
  pub seat : l.seat.number ≡ l.number
  pub between : AllByRecursion (GoesBetween script) turns
  pub others : AllByRecursion (GoesToOthers l.lines) turns
  pub frames : AllByRecursion SendsFrames turns
  pub drawn : AllByRecursion (IsDrawn turns l.seat.seen) turns
  pub lines : AllByRecursion (IsLineOf turns) l.lines
  pub stands : Stands script l turns last l.fault
