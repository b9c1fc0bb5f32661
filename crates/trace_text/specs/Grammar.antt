-- The grammar of a trace: which entries have a line. A line is in the grammar exactly where it is such an entry's text.
use Rattle.std.specs.Prelude.{ℕ, Bool, true, not, ◌&&◌, ◌||◌, nat_le, List, length, Option, Some, None, is_some}
use Rattle.std.specs.List.{list_all}
use Rattle.pico_base.specs.declared.call.Call.{Call}
use Rattle.pico_base.specs.declared.call.Call.TheVariants as calls
use Rattle.pico_base.specs.declared.numbers.Name.{Name}
use Rattle.pico_base.specs.declared.numbers.Name.TheVariants.{Proc, Msg, Sem}
use Rattle.pico_base.specs.declared.reply.Reply.{Reply}
use Rattle.pico_base.specs.declared.reply.Reply.TheVariants as replies
use Rattle.pico_base.specs.declared.reply.Ending.{Ending}
use Rattle.pico_base.specs.declared.reply.Ending.TheVariants.{Exited, Killed}
use Rattle.pico_base.specs.declared.reply.Entry.{Entry}
use Rattle.pico_base.specs.declared.reply.Outcome.{Outcome}
use Rattle.pico_base.specs.declared.script.Script.{Script}
use Rattle.kernel_model.specs.Numbers.{is_between, is_u16, is_u32, is_byte}
use Rattle.kernel_model.specs.Texts.{is_repeated}
use Rattle.kernel_model.specs.Fitting.{block_at}
use Rattle.kernel_model.specs.Script.{is_type, is_key, is_child, is_place, is_step_in_range}

-- a text of bytes; one that repeats a letter or digit has at most 8,192 of it, as the form `rep:N:C` can say
abbrev pub is_text : List ℕ → Bool
is_text text = list_all is_byte text && (not (is_repeated text) || nat_le (length text) 8192)

-- the number of a block of the script
abbrev pub is_block : Script → ℕ → Bool
is_block script k = nat_le 1 k && (nat_le k 32 && is_some (block_at script k))

-- where a process stops to wait: any number of four bytes, as a call may name it
abbrev pub is_withdrawal : Name → Bool
is_withdrawal (Proc pid) = is_u32 pid
is_withdrawal (Msg id) = is_u32 id
is_withdrawal (Sem id) = is_u32 id

-- A call with arguments in their ranges. A process number may be 0, since a variable may hold 0.
abbrev pub is_call : Script → Call → Bool
is_call script (calls.Fork block) = is_block script block
is_call script (calls.Exit status) = is_u16 status
is_call script (calls.Killed sig) = true
is_call script calls.GetPid = true
is_call script (calls.Kill pid sig) = is_u32 pid
is_call script (calls.SigAction sig act) = true
is_call script (calls.SigProcMask how set) = true
is_call script calls.SigPending = true
is_call script (calls.Handled sig) = true
is_call script (calls.WaitPid child nohang) = is_child child
is_call script (calls.MsgGet key create excl) = is_key key create excl
is_call script (calls.MsgSnd id class text nowait) = is_u32 id && (is_type class && is_text text)
is_call script (calls.MsgRcv id class size noerror nowait) = is_u32 id && (is_type class && is_u16 size)
is_call script (calls.MsgStat id) = is_u32 id
is_call script (calls.MsgSet id qbytes) = is_u32 id && is_u16 qbytes
is_call script (calls.MsgRmid id) = is_u32 id
is_call script (calls.SemGet key count create excl) = is_key key create excl && is_u16 count
is_call script (calls.SemOp id steps) = is_u32 id && (nat_le 1 (length steps) && list_all is_step_in_range steps)
is_call script (calls.SemGetVal id num) = is_place id num
is_call script (calls.SemGetPid id num) = is_place id num
is_call script (calls.SemGetNcnt id num) = is_place id num
is_call script (calls.SemGetZcnt id num) = is_place id num
is_call script (calls.SemSetVal id num value) = is_place id num && is_u16 value
is_call script (calls.SemGetAll id) = is_u32 id
is_call script (calls.SemSetAll id values) = is_u32 id && (nat_le 1 (length values) && list_all is_u16 values)
is_call script (calls.SemRmid id) = is_u32 id
is_call script (calls.Withdraw name) = is_withdrawal name

abbrev pub is_ending : Ending → Bool
is_ending (Exited status) = is_byte status
is_ending (Killed sig) = true

-- A reply with its numbers in four bytes, a byte for a status, and at least one value of a set
abbrev pub is_reply : Reply → Bool
is_reply (replies.Num n) = is_u32 n
is_reply (replies.Child pid ending) = is_u32 pid && is_ending ending
is_reply (replies.Message class text) = is_type class && is_text text
is_reply (replies.Bits set) = true
is_reply (replies.Stat qnum qbytes lspid lrpid) = is_u32 qnum && (is_u32 qbytes && (is_u32 lspid && is_u32 lrpid))
is_reply (replies.All values) = nat_le 1 (length values) && list_all is_u32 values
is_reply replies.Ended = true
is_reply (replies.Fail e) = true

-- a call that parks has no reply yet
abbrev pub is_own : Option Reply → Bool
is_own None = true
is_own (Some reply) = is_reply reply

-- a caller that is woken, and its reply
abbrev pub is_wake : ℕ × Reply → Bool
is_wake wake = is_u32 wake.0 && is_reply wake.1

-- No reply is tied to its call: which outcome a call has is the kernel's to say.
abbrev pub is_outcome : Outcome → Bool
is_outcome outcome = is_own outcome.own && list_all is_wake outcome.woken

-- an entry with a line: its node is one of 1 to 32
abbrev pub is_entry : Script → Entry → Bool
is_entry script e = is_u32 e.pid && (is_call script e.call && (is_outcome e.outcome && is_between 1 32 e.by))
