-- The text of a history of POSIX message queues: a line for each entry, and the totals.
use Rattle.std.specs.Prelude.{ℕ, ◌+◌, Bool, true, false, not, List, [], ◌∷◌, ◌++◌, length, if◌then◌else◌, Option, Some, None, codes, count_by, sum_by, pos}
use Rattle.std.specs.List.{flat_map}
use Rattle.std.specs.Fmt.{decimal}
use Rattle.pico_base.specs.declared.call.Call.{Call}
use Rattle.pico_base.specs.declared.reply.Errno.{Errno}
use Rattle.pico_base.specs.declared.reply.Reply.{Reply}
use Rattle.pico_base.specs.declared.reply.Reply.TheVariants.{Message}
use Rattle.pico_base.specs.declared.reply.Errno.TheVariants.{Esrch, Einval, Echild, Enoent, Eexist, Enomsg, Eagain, E2big, Efbig, Erange, Eidrm, Eintr}
use Rattle.pico_base.specs.declared.script.Script.{Script}
use Rattle.kernel_model.specs.Texts.{message_text}
use Rattle.kernel_model.specs.Trace.{call_text, reply_text, error_name as plain_error_name, create_words, labelled, by_text, is_fork, is_not_ready, is_not_ready_reply, is_refused_reply, entries_total, processes_total, not_ready_total, refused_total}
use Rattle.mq_model.specs.declared.errno.MqErrno.{MqErrno}
use Rattle.mq_model.specs.declared.errno.MqErrno.TheVariants.{Base, Ebadf, Emsgsize}
use Rattle.mq_model.specs.Calls.{MqCall, Open, Send, Receive, GetAttr, Other, MqReply, Number, Taken, Attributes, Refused, Plain, MqOutcome, MqEntry}

abbrev pub error_name : MqErrno → List ℕ
error_name (Base e) = plain_error_name e
error_name Ebadf = codes "EBADF"
error_name Emsgsize = codes "EMSGSIZE"

abbrev pub plain_number : Errno → ℕ
plain_number Esrch = 1
plain_number Einval = 2
plain_number Echild = 3
plain_number Enoent = 4
plain_number Eexist = 5
plain_number Enomsg = 6
plain_number Eagain = 7
plain_number E2big = 8
plain_number Efbig = 9
plain_number Erange = 10
plain_number Eidrm = 11
plain_number Eintr = 12

abbrev pub error_number : MqErrno → ℕ
error_number (Base e) = plain_number e
error_number Ebadf = 13
error_number Emsgsize = 14

-- the call as a script would have it, with actual numbers
abbrev pub mq_call_text : Script → MqCall → List ℕ
mq_call_text script (Open name create excl) = labelled (codes "mqopen /") name ++ create_words create excl
mq_call_text script (Send id priority text) =
    labelled (codes "mqsend ") id ++ 32 ∷ (decimal priority ++ 32 ∷ message_text text)
mq_call_text script (Receive id size) = labelled (codes "mqreceive ") id ++ labelled (codes " ") size
mq_call_text script (GetAttr id) = labelled (codes "mqgetattr ") id
mq_call_text script (Other call) = call_text script call

abbrev pub mq_reply_text : MqReply → List ℕ
mq_reply_text (Number n) = decimal n
mq_reply_text (Taken priority text) = decimal priority ++ 32 ∷ message_text text
mq_reply_text (Attributes messages) = labelled (codes "maxmsg 1024 msgsize 16 curmsgs ") messages
mq_reply_text (Refused e) = error_name e
mq_reply_text (Plain reply) = reply_text reply

-- the caller's reply; a call that waits has none yet
abbrev pub mq_own_text : Option MqReply → List ℕ
mq_own_text None = codes "parked"
mq_own_text (Some reply) = mq_reply_text reply

abbrev pub mq_line : Script → MqEntry → List ℕ
mq_line script e =
    (decimal e.pid ++ 32 ∷ mq_call_text script e.call) ++ codes " = " ++ mq_own_text e.outcome.own
    ++ by_text e.by e.outcome.woken

-- nothing was ready: ENOMSG, which no call on queues has here, and EAGAIN
abbrev pub is_mq_not_ready : Option MqReply → Bool
is_mq_not_ready (Some (Refused (Base e))) = is_not_ready e
is_mq_not_ready (Some (Plain reply)) = is_not_ready_reply (Some reply)
is_mq_not_ready _ = false

-- every other error
abbrev pub is_mq_refused : Option MqReply → Bool
is_mq_refused (Some (Refused (Base e))) = not (is_not_ready e)
is_mq_refused (Some (Refused e)) = true
is_mq_refused (Some (Plain reply)) = is_refused_reply (Some reply)
is_mq_refused _ = false

-- how many replies of an outcome are so: the caller's own, and those of the callers that it wakes
abbrev pub mq_replies_where : (Option MqReply → Bool) → MqOutcome → ℕ
mq_replies_where test outcome =
    count_by (λ w. test (Some (Plain w.1))) outcome.woken + (if test outcome.own then 1 else 0)

abbrev pub is_mq_fork : MqCall → Bool
is_mq_fork (Other call) = is_fork call
is_mq_fork call = false

-- the entries, the processes (one more than the forks), the replies that nothing was ready, the other refusals
abbrev pub mq_totals_line : List MqEntry → List ℕ
mq_totals_line h =
    entries_total (length h)
    ++ processes_total (1 + count_by (λ e. is_mq_fork e.call) h)
    ++ not_ready_total (sum_by (λ e. mq_replies_where is_mq_not_ready e.outcome) h)
    ++ refused_total (sum_by (λ e. mq_replies_where is_mq_refused e.outcome) h)
    ++ 10 ∷ []

abbrev pub mq_trace_text : Script → List MqEntry → List ℕ
mq_trace_text script h = flat_map (mq_line script) h ++ mq_totals_line h
