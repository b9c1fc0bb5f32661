-- The limits of a frame, which decide whether it has a spelling beside the ranges of its fields' types: numbers that
-- are at least 1, texts and lists that their counts can count, orders, and calls and replies that go from node to node.
-- Each is a test that computes, so that code and definitions can decide by it.
use Rattle.std.specs.Prelude.{◌≡◌, ℕ, ◌^◌, Bool, true, false, ◌&&◌, nat_lt, nat_le, List, length, Some}
use Rattle.std.specs.List.{list_all}
use Rattle.pico_base.specs.declared.call.Call.{Call}
use Rattle.pico_base.specs.declared.call.Call.TheVariants as calls
use Rattle.pico_base.specs.declared.reply.Reply.{Reply}
use Rattle.pico_base.specs.declared.reply.Reply.TheVariants as replies
use Rattle.pico_base.specs.declared.signal.SigArg.{SigArg}
use Rattle.pico_base.specs.declared.signal.SigArg.TheVariants.{Zero, Is, Bad}
use Rattle.rpc_frame.specs.declared.deed.PackedDeed.{PackedDeed}
use Rattle.rpc_frame.specs.declared.deed.Parcel.{Parcel}
use Rattle.rpc_frame.specs.declared.frame.Frame.{Frame}
use Rattle.rpc_frame.specs.declared.frame.Frame.TheVariants as frames
use Rattle.frame_bytes.specs.Fields.{name_number}
use Rattle.frame_bytes.specs.Calls.{is_object}
use Rattle.frame_bytes.specs.Frames.{have_order, are_processes, frame_body, max_frame}

-- a number that is at least 1
abbrev pub is_nonzero : ℕ → Bool
is_nonzero n = nat_lt 0 n

-- a text whose length has 4 bytes
abbrev pub is_text : List ℕ → Bool
is_text bytes = nat_lt (length bytes) (2 ^ 32)

-- a count that has 2 bytes
abbrev pub is_half : ℕ → Bool
is_half n = nat_lt n (2 ^ 16)

-- a count that has 2 bytes and is at least 1
abbrev pub is_count : ℕ → Bool
is_count n = is_half n && is_nonzero n

-- a number that is no signal's is refused by the caller itself
abbrev pub is_sigarg : SigArg → Bool
is_sigarg Zero = true
is_sigarg (Is sig) = true
is_sigarg Bad = false

-- The calls that one node asks another to carry out. The private gets and `kill` with a number that is no signal's are
-- carried out by their caller, and so are all calls on the caller itself. A withdrawal isn't one of them: it goes by a
-- frame of its own.
abbrev pub is_call : Call → Bool
is_call (calls.Kill pid sig) = is_sigarg sig
is_call (calls.MsgGet (Some key) create excl) = is_nonzero key
is_call (calls.MsgSnd id class bytes nowait) = is_text bytes
is_call (calls.MsgRcv id class size noerror nowait) = true
is_call (calls.MsgStat id) = true
is_call (calls.MsgSet id qbytes) = true
is_call (calls.MsgRmid id) = true
is_call (calls.SemGet (Some key) count create excl) = is_nonzero key
is_call (calls.SemOp id steps) = is_count (length steps)
is_call (calls.SemGetVal id num) = true
is_call (calls.SemSetVal id num value) = true
is_call (calls.SemGetAll id) = true
is_call (calls.SemSetAll id values) = is_count (length values)
is_call (calls.SemGetPid id num) = true
is_call (calls.SemGetNcnt id num) = true
is_call (calls.SemGetZcnt id num) = true
is_call (calls.SemRmid id) = true
is_call _ = false

-- the calls that end a process
abbrev pub is_last_call : Call → Bool
is_last_call (calls.Exit status) = true
is_last_call (calls.Killed sig) = true
is_last_call _ = false

-- the end of a wait at a queue or a set, which another node may have
abbrev pub is_withdrawal : Call → Bool
is_withdrawal (calls.Withdraw name) = is_object name
is_withdrawal _ = false

-- The replies of calls that another node carries out. Sets of signals and children are replied by the caller's own
-- node, and an exit has no reply of its own.
abbrev pub is_reply : Reply → Bool
is_reply (replies.Num n) = true
is_reply (replies.Message class bytes) = is_text bytes
is_reply (replies.Stat qnum qbytes sender receiver) = true
is_reply (replies.All values) = is_half (length values)
is_reply (replies.Fail errno) = true
is_reply _ = false

abbrev pub is_deed : PackedDeed → Bool
is_deed deed = is_nonzero (name_number deed.name) && is_text deed.body

-- the deeds of a parcel, whose count has one byte: of processes, by rising number
abbrev pub are_deeds : List PackedDeed → Bool
are_deeds deeds = nat_lt (length deeds) 256 && (list_all is_deed deeds && are_processes deeds)

abbrev pub is_parcel : Parcel → Bool
is_parcel p = is_last_call p.call && are_deeds p.deeds

-- variables by rising index
abbrev pub are_vars : List (ℕ × ℕ) → Bool
are_vars vars = is_half (length vars) && have_order vars

abbrev pub has_fields : Frame → Bool
has_fields (frames.Ask ticket pid call) = is_nonzero ticket && is_call call
has_fields (frames.Request ticket pid call) = is_nonzero ticket && is_call call
has_fields (frames.Forward asked) = is_nonzero asked.ticket && is_call asked.call
has_fields (frames.Bounce asked) = is_nonzero asked.ticket && is_call asked.call
has_fields (frames.Answer ticket reply) = is_nonzero ticket && is_reply reply
has_fields (frames.NotOwner ticket) = is_nonzero ticket
has_fields (frames.LeaseAsk kind) = true
has_fields (frames.Lease kind first) = true
has_fields (frames.Placed name node) = is_nonzero (name_number name)
has_fields (frames.Checkpoint pid parent deed vars) = is_deed deed && are_vars vars
has_fields (frames.Suggest name node) = is_nonzero (name_number name)
has_fields (frames.Recall name) = is_nonzero (name_number name)
has_fields (frames.GiveBack deed) = is_deed deed
has_fields (frames.Grant deed) = is_deed deed
has_fields (frames.Leaving pid parent parent_node) = true
has_fields frames.RecallAll = true
has_fields (frames.Left parcel) = is_parcel parcel
has_fields (frames.ExitTo parcel) = is_parcel parcel
has_fields (frames.Cancel asked) = is_nonzero asked.ticket && is_withdrawal asked.call

abbrev pub is_frame : Frame → Bool
is_frame f = has_fields f && nat_le (length (frame_body f)) max_frame

abbrev pub IsWithinLimits : Frame → Type 0
IsWithinLimits f = is_frame f ≡ true
