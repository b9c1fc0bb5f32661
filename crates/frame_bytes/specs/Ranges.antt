-- Which frames have a spelling: those within the limits, whose numbers are in the ranges that types give them anyway.
use Rattle.std.specs.Prelude.{◌≡◌, ℕ, true, FitsSigned, List, Some}
use Rattle.std.specs.List.{AllByRecursion}
use Rattle.std.specs.Int.{w32}
use Rattle.pico_base.specs.declared.call.Call.{Call}
use Rattle.pico_base.specs.declared.call.Call.TheVariants as calls
use Rattle.pico_base.specs.declared.call.SemStep.{SemStep}
use Rattle.pico_base.specs.declared.numbers.Name.{Name}
use Rattle.pico_base.specs.declared.reply.Reply.{Reply}
use Rattle.pico_base.specs.declared.reply.Reply.TheVariants as replies
use Rattle.rpc_frame.specs.declared.asked.Asked.{Asked}
use Rattle.rpc_frame.specs.declared.deed.PackedDeed.{PackedDeed}
use Rattle.rpc_frame.specs.declared.deed.Parcel.{Parcel}
use Rattle.rpc_frame.specs.declared.frame.Frame.{Frame}
use Rattle.rpc_frame.specs.declared.frame.Frame.TheVariants as frames
use Rattle.frame_bytes.specs.Fields.{IsWord, IsHalf, IsNode, name_number}
use Rattle.frame_bytes.specs.Frames.{is_index}
use Rattle.frame_bytes.specs.Limits.{IsWithinLimits}

pub record HasStepRanges (s : SemStep) : Type 0 where
  pub num : IsHalf s.num
  pub add : FitsSigned w32 s.add

abbrev pub HasNameRange : Name → Type 0
HasNameRange name = IsWord (name_number name)

-- a call that has no spelling may have any numbers
abbrev pub HasCallRanges : Call → Type 0
HasCallRanges (calls.Kill pid sig) = IsWord pid
HasCallRanges (calls.MsgGet (Some key) create excl) = IsWord key
HasCallRanges (calls.MsgSnd id class bytes nowait) = IsWord id × FitsSigned w32 class
HasCallRanges (calls.MsgRcv id class size noerror nowait) = IsWord id × FitsSigned w32 class × IsWord size
HasCallRanges (calls.MsgStat id) = IsWord id
HasCallRanges (calls.MsgSet id qbytes) = IsWord id × IsWord qbytes
HasCallRanges (calls.MsgRmid id) = IsWord id
HasCallRanges (calls.SemGet (Some key) count create excl) = IsWord key × IsWord count
HasCallRanges (calls.SemOp id steps) = IsWord id × AllByRecursion HasStepRanges steps
HasCallRanges (calls.SemGetVal id num) = IsWord id × IsHalf num
HasCallRanges (calls.SemSetVal id num value) = IsWord id × IsHalf num × IsWord value
HasCallRanges (calls.SemGetAll id) = IsWord id
HasCallRanges (calls.SemSetAll id values) = IsWord id × AllByRecursion IsWord values
HasCallRanges (calls.SemGetPid id num) = IsWord id × IsHalf num
HasCallRanges (calls.SemGetNcnt id num) = IsWord id × IsHalf num
HasCallRanges (calls.SemGetZcnt id num) = IsWord id × IsHalf num
HasCallRanges (calls.SemRmid id) = IsWord id
HasCallRanges (calls.Exit status) = IsHalf status
HasCallRanges (calls.Withdraw name) = HasNameRange name
HasCallRanges _ = Unit {0}

abbrev pub HasReplyRanges : Reply → Type 0
HasReplyRanges (replies.Num n) = IsWord n
HasReplyRanges (replies.Message class bytes) = FitsSigned w32 class
HasReplyRanges (replies.Stat qnum qbytes sender receiver) =
    IsWord qnum × IsWord qbytes × IsWord sender × IsWord receiver
HasReplyRanges (replies.All values) = AllByRecursion IsWord values
HasReplyRanges _ = Unit {0}

abbrev pub HasDeedRange : PackedDeed → Type 0
HasDeedRange deed = HasNameRange deed.name

pub record HasValueRanges (v : ℕ × ℕ) : Type 0 where
  pub fits : IsHalf v.0
  pub index : is_index v.0 ≡ true
  pub value : IsWord v.1

pub record HasParcelRanges (p : Parcel) : Type 0 where
  pub pid : IsWord p.pid
  pub parent : IsWord p.parent
  pub call : HasCallRanges p.call
  pub deeds : AllByRecursion HasDeedRange p.deeds

-- what Ask and Request say of a call
pub record HasAskingRanges (t p : ℕ) (c : Call) : Type 0 where
  pub ticket : IsWord t
  pub pid : IsWord p
  pub call : HasCallRanges c

abbrev pub HasAskedRanges : Asked → Type 0
HasAskedRanges asked = IsNode asked.caller × HasAskingRanges asked.ticket asked.pid asked.call

pub record HasCheckpointRanges (p q : ℕ) (d : PackedDeed) (vs : List (ℕ × ℕ)) : Type 0 where
  pub pid : IsWord p
  pub parent : IsWord q
  pub deed : HasDeedRange d
  pub vars : AllByRecursion HasValueRanges vs

abbrev pub HasRanges : Frame → Type 0
HasRanges (frames.Ask ticket pid call) = HasAskingRanges ticket pid call
HasRanges (frames.Request ticket pid call) = HasAskingRanges ticket pid call
HasRanges (frames.Forward asked) = HasAskedRanges asked
HasRanges (frames.Bounce asked) = HasAskedRanges asked
HasRanges (frames.Answer ticket reply) = IsWord ticket × HasReplyRanges reply
HasRanges (frames.NotOwner ticket) = IsWord ticket
HasRanges (frames.LeaseAsk kind) = Unit {0}
HasRanges (frames.Lease kind first) = IsWord first
HasRanges (frames.Placed name node) = HasNameRange name × IsNode node
HasRanges (frames.Checkpoint pid parent deed vars) = HasCheckpointRanges pid parent deed vars
HasRanges (frames.Suggest name node) = HasNameRange name × IsNode node
HasRanges (frames.Recall name) = HasNameRange name
HasRanges (frames.GiveBack deed) = HasDeedRange deed
HasRanges (frames.Grant deed) = HasDeedRange deed
HasRanges (frames.Leaving pid parent parent_node) = IsWord pid × IsWord parent × IsNode parent_node
HasRanges frames.RecallAll = Unit {0}
HasRanges (frames.Left parcel) = HasParcelRanges parcel
HasRanges (frames.ExitTo parcel) = HasParcelRanges parcel
HasRanges (frames.Cancel asked) = HasAskedRanges asked

-- what has a spelling
pub record IsFrame (f : Frame) : Type 0 where
  pub ranges : HasRanges f
  pub within : IsWithinLimits f
