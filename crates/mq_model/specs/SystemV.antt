-- The script of System V that runs a given script of POSIX message queues, line for line, and the history of POSIX
-- message queues that a journal of its run stands for.
use Rattle.std.specs.Prelude.{◌≡◌, ℕ, ℤ, pos, negsuc, ◌-◌, nat_lt, int_lt, Bool, true, false, List, [], ◌∷◌, length, map, if◌then◌else◌, Option, Some, None, is_some}
use Rattle.std.specs.Option.{option_and_then}
use Rattle.pico_base.specs.declared.call.Call.{Call}
use Rattle.pico_base.specs.declared.call.Call.TheVariants as calls
use Rattle.pico_base.specs.declared.reply.Errno.{Errno}
use Rattle.pico_base.specs.declared.reply.Errno.TheVariants.{Einval, Enomsg, Eagain}
use Rattle.pico_base.specs.declared.reply.Outcome.{Outcome}
use Rattle.pico_base.specs.declared.reply.Reply.{Reply}
use Rattle.pico_base.specs.declared.reply.Reply.TheVariants as replies
use Rattle.pico_base.specs.declared.reply.Entry.{Entry}
use Rattle.pico_base.specs.declared.script.Line.{Line}
use Rattle.pico_base.specs.declared.script.Block.{Block}
use Rattle.pico_base.specs.declared.script.Script.{Script}
use Rattle.mq_model.specs.declared.errno.MqErrno.{MqErrno}
use Rattle.mq_model.specs.declared.errno.MqErrno.TheVariants.{Base, Ebadf, Emsgsize}
use Rattle.mq_model.specs.Queue.{max_priority, max_text}
use Rattle.mq_model.specs.Calls.{MqCall, Open, Send, Receive, GetAttr, Other, MqReply, Number, Taken, Attributes, Refused, Plain, MqOutcome, MqEntry}

-- ---- scripts

-- a call of a given script that its arguments refuse, whatever the queue
abbrev pub refusal_of_send : ℤ → List ℕ → Option MqErrno
refusal_of_send priority text =
    if int_lt (pos max_priority) priority
    then Some (Base Einval)
    else if nat_lt max_text (length text) then Some Emsgsize else None

abbrev pub refusal_of : Call → Option MqErrno
refusal_of (calls.MsgSnd id class text nowait) = refusal_of_send class text
refusal_of (calls.MsgRcv id class size noerror nowait) = if nat_lt size max_text then Some Emsgsize else None
refusal_of call = None

-- the type of a priority, and the priority of a type: the lowest type is the highest priority
abbrev pub turned : ℕ → ℕ
turned n = 32 - n

abbrev pub turned_class : ℤ → ℤ
turned_class (pos n) = pos (turned n)
turned_class (negsuc n) = negsuc n

-- a call that its arguments refuse becomes a look at the pending signals, whose reply isn't shown
abbrev pub carried_out : Call → Call
carried_out (calls.MsgSnd id class text nowait) = calls.MsgSnd id (turned_class class) text true
carried_out (calls.MsgRcv id class size noerror nowait) = calls.MsgRcv id (negsuc 31) size false true
carried_out call = call

abbrev pub system_v_call : Call → Call
system_v_call call = if is_some (refusal_of call) then calls.SigPending else carried_out call

abbrev pub system_v_line : Line → Line
system_v_line line =
    record line {
      from = if is_some (refusal_of line.call) then None else line.from;
      call = system_v_call line.call;
    }

abbrev pub system_v_block : Block → Block
system_v_block block = record block { lines = map system_v_line block.lines }

abbrev pub system_v : Script → Script
system_v given = record { blocks = map system_v_block given.blocks }

-- ---- the calls of a given script

-- a call of a given script, with actual numbers
abbrev pub given_call : Call → MqCall
given_call (calls.MsgGet (Some name) create excl) = Open name create excl
given_call (calls.MsgSnd id (pos priority) text nowait) = Send id priority text
given_call (calls.MsgRcv id class size noerror nowait) = Receive id size
given_call (calls.MsgStat id) = GetAttr id
given_call call = Other call

-- the same for a call of the script of System V
abbrev pub shown_call : Call → MqCall
shown_call (calls.MsgSnd id (pos class) text nowait) = Send id (turned class) text
shown_call call = given_call call

-- ---- replies

abbrev pub shown_error : Errno → MqErrno
shown_error Einval = Ebadf
shown_error Enomsg = Base Eagain
shown_error e = Base e

-- to a call on queues
abbrev pub shown_on_queues : Reply → MqReply
shown_on_queues (replies.Num n) = Number n
shown_on_queues (replies.Message (pos class) text) = Taken (turned class) text
shown_on_queues (replies.Stat qnum qbytes lspid lrpid) = Attributes qnum
shown_on_queues (replies.Fail e) = Refused (shown_error e)
shown_on_queues reply = Plain reply

abbrev pub shown_reply : MqCall → Reply → MqReply
shown_reply (Other call) reply = Plain reply
shown_reply call reply = shown_on_queues reply

abbrev pub is_shown_on_queues : MqCall → Bool
is_shown_on_queues (Other call) = false
is_shown_on_queues call = true

abbrev pub shown_own : MqCall → Option Reply → Option MqReply
shown_own call own = option_and_then (λ reply. Some (shown_reply call reply)) own

abbrev pub shown_outcome : MqCall → Outcome → MqOutcome
shown_outcome call outcome = record { own = shown_own call outcome.own; woken = outcome.woken }

-- ---- entries

-- an entry of a call that its arguments don't refuse
abbrev pub shown_plainly : Entry → MqEntry
shown_plainly e =
    record {
      pid = e.pid;
      call = shown_call e.call;
      outcome = shown_outcome (shown_call e.call) e.outcome;
      by = e.by;
    }

-- an entry of this given call, which its arguments refuse so
abbrev pub shown_refused : Entry → Call → MqErrno → MqEntry
shown_refused e given why =
    record {
      pid = e.pid;
      call = given_call given;
      outcome = record { own = Some (Refused why); woken = [] };
      by = e.by;
    }

abbrev pub shown_by : Entry → Call → Option MqErrno → MqEntry
shown_by e given None = shown_plainly e
shown_by e given (Some why) = shown_refused e given why

-- the entry that an entry of the script of System V stands for, where this call of the given script was due
abbrev pub shown : Entry → Option Call → MqEntry
shown e None = shown_plainly e
shown e (Some given) = shown_by e given (refusal_of given)
