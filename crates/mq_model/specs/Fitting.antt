-- A history of POSIX message queues fits a given script as any history fits its script: each process makes the calls of
-- its block, in order and each once, and a line that may try again does where nothing was there, where there was no
-- such name, and where no child had ended.
use Rattle.std.specs.Prelude.{ℕ, pos, false, true, List, [], ◌∷◌, map, Option, Some, None}
use Rattle.std.specs.Option.{option_and_then}
use Rattle.pico_base.specs.declared.call.Call.{Call}
use Rattle.pico_base.specs.declared.call.Call.TheVariants as calls
use Rattle.pico_base.specs.declared.reply.Errno.{Errno}
use Rattle.pico_base.specs.declared.reply.Errno.TheVariants.{Einval}
use Rattle.pico_base.specs.declared.reply.Entry.{Entry}
use Rattle.pico_base.specs.declared.reply.Reply.{Reply}
use Rattle.pico_base.specs.declared.reply.Reply.TheVariants as replies
use Rattle.pico_base.specs.declared.script.Script.{Script}
use Rattle.waiting_model.specs.Fitting as plain
use Rattle.mq_model.specs.declared.errno.MqErrno.{MqErrno}
use Rattle.mq_model.specs.declared.errno.MqErrno.TheVariants.{Base, Ebadf, Emsgsize}
use Rattle.mq_model.specs.Calls.{MqCall, Open, Send, Receive, GetAttr, Other, MqReply, Number, Taken, Attributes, Refused, Plain, MqOutcome, MqEntry}

-- the calls and replies as a given script has them in System V's words

abbrev pub written_call : MqCall → Call
written_call (Open name create excl) = calls.MsgGet (Some name) create excl
written_call (Send id priority text) = calls.MsgSnd id (pos priority) text false
written_call (Receive id size) = calls.MsgRcv id (pos 0) size false false
written_call (GetAttr id) = calls.MsgStat id
written_call (Other call) = call

-- after EBADF and EMSGSIZE, as after EINVAL, no line tries again
abbrev pub written_error : MqErrno → Errno
written_error (Base e) = e
written_error Ebadf = Einval
written_error Emsgsize = Einval

abbrev pub written_reply : MqReply → Reply
written_reply (Number n) = replies.Num n
written_reply (Taken priority text) = replies.Message (pos priority) text
written_reply (Attributes messages) = replies.Stat messages 0 0 0
written_reply (Refused e) = replies.Fail (written_error e)
written_reply (Plain reply) = reply

abbrev pub written_own : Option MqReply → Option Reply
written_own own = option_and_then (λ reply. Some (written_reply reply)) own

abbrev pub written : MqEntry → Entry
written e =
    record {
      pid = e.pid;
      call = written_call e.call;
      outcome = record { own = written_own e.outcome.own; woken = e.outcome.woken };
      by = e.by;
    }

abbrev pub Fits : Script → List MqEntry → Type 0
Fits given history = plain.Fits given (map written history)

-- to its end: each process that was forked, and process 1, has ended, or waits
abbrev pub FitsWhole : Script → List MqEntry → Type 0
FitsWhole given history = plain.FitsWhole given (map written history)
