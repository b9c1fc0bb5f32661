-- Worked examples, computed by the checker: a kernel that stands for one of POSIX message queues, and a journal with
-- the history that it stands for.
use Rattle.std.specs.Prelude.{◌≡◌, ℕ, pos, negsuc, true, false, List, [], ◌∷◌, Option, Some, None, refl, codes}
use Rattle.pico_base.specs.declared.call.Call.{Call}
use Rattle.pico_base.specs.declared.call.Call.TheVariants as calls
use Rattle.pico_base.specs.declared.reply.Entry.{Entry}
use Rattle.pico_base.specs.declared.reply.Errno.TheVariants.{Einval, Eagain, Enomsg}
use Rattle.pico_base.specs.declared.reply.Reply.{Reply}
use Rattle.pico_base.specs.declared.reply.Reply.TheVariants as replies
use Rattle.pico_base.specs.declared.script.Line.{Line}
use Rattle.pico_base.specs.declared.script.Script.{Script}
use Rattle.kernel_model.specs.Effect.{reply_alone}
use Rattle.kernel_model.specs.Signals.{new_signals}
use Rattle.waiting_model.specs.Kernel as plain
use Rattle.waiting_model.specs.Transition as plain_steps
use Rattle.waiting_model.specs.Transition.{transition}
use Rattle.mq_model.specs.declared.errno.MqErrno.TheVariants.{Base}
use Rattle.mq_model.specs.Calls.{MqCall, Open, Send, Receive, Other, MqReply, Number, Taken, Refused, Plain, MqEntry}
use Rattle.mq_model.specs.Examples.{by, creating, kernel_after}
use Rattle.mq_model.specs.Given.{IsGiven}
use Rattle.mq_model.specs.Kernel.{opening}
use Rattle.mq_model.specs.Shown.{history_of}
use Rattle.mq_model.specs.SystemV.{system_v}
use Rattle.mq_laws.specs.Alike.{shown_kernel}
use Rattle.mq_laws.specs.Together.{is_carried_out}

-- ---- kernels

abbrev pub kernel_in : plain.Kernel → Option plain_steps.Successor → plain.Kernel
kernel_in k None = k
kernel_in k (Some s) = s.kernel

-- behind these calls of process 1, of which each may create number 1
abbrev pub behind : plain.Kernel → List Call → plain.Kernel
behind k [] = k
behind k (call ∷ calls) = behind (kernel_in k (transition k 1 call 1)) calls

-- messages of priorities 1, 9 and 9, of which the older one of priority 9 is taken
pub stands_for_the_other : shown_kernel (behind plain.opening (
    calls.MsgGet (Some 5) true false ∷ calls.MsgSnd 1 (pos 31) (codes "a") true
    ∷ calls.MsgSnd 1 (pos 23) (codes "b") true ∷ calls.MsgSnd 1 (pos 23) (codes "c") true
    ∷ calls.MsgRcv 1 (negsuc 31) 16 false true ∷ []))
    ≡ kernel_after opening (
    creating 1 (Open 5 true false) 1 ∷ by 1 (Send 1 1 (codes "a")) ∷ by 1 (Send 1 9 (codes "b"))
    ∷ by 1 (Send 1 9 (codes "c")) ∷ by 1 (Receive 1 16) ∷ [])
stands_for_the_other = refl

-- types 1 to 32, at most 16 bytes, and no waiting
pub carries_out : is_carried_out (calls.MsgSnd 1 (pos 1) (codes "sixteen bytes ..") true) ≡ true
carries_out = refl

pub carries_no_other_type : is_carried_out (calls.MsgSnd 1 (pos 33) [] true) ≡ false
carries_no_other_type = refl

pub carries_no_longer_text : is_carried_out (calls.MsgSnd 1 (pos 1) (codes "seventeen bytes .") true) ≡ false
carries_no_longer_text = refl

pub carries_no_wait : is_carried_out (calls.MsgSnd 1 (pos 1) [] false) ≡ false
carries_no_wait = refl

-- ---- histories

abbrev pub line : Option ℕ → Option ℕ → Call → Line
line set from call = record { set = set; tries = 1; from = from; call = call }

-- mqopen, mqsend of priority 40, mqsend of priority 9, and two times mqreceive, with the queue in variable 0
abbrev pub given : Script
given =
    record {
      blocks =
          record {
            name = codes "main";
            lines =
                line (Some 0) None (calls.MsgGet (Some 7) true false)
                ∷ line None (Some 0) (calls.MsgSnd 0 (pos 40) (codes "x") false)
                ∷ line None (Some 0) (calls.MsgSnd 0 (pos 9) (codes "y") false)
                ∷ line None (Some 0) (calls.MsgRcv 0 (pos 0) 16 false false)
                ∷ line None (Some 0) (calls.MsgRcv 0 (pos 0) 16 false false) ∷ [];
          }
          ∷ [];
    }

pub is_given : IsGiven given
is_given = refl

pub runs_as : system_v given
    ≡ record {
      blocks =
          record {
            name = codes "main";
            lines =
                line (Some 0) None (calls.MsgGet (Some 7) true false)
                ∷ line None None calls.SigPending
                ∷ line None (Some 0) (calls.MsgSnd 0 (pos 23) (codes "y") true)
                ∷ line None (Some 0) (calls.MsgRcv 0 (negsuc 31) 16 false true)
                ∷ line None (Some 0) (calls.MsgRcv 0 (negsuc 31) 16 false true) ∷ [];
          }
          ∷ [];
    }
runs_as = refl

abbrev pub entry : Call → Reply → Entry
entry call reply = record { pid = 1; call = call; outcome = reply_alone reply; by = 1 }

abbrev pub mq_entry : MqCall → MqReply → MqEntry
mq_entry call reply = record { pid = 1; call = call; outcome = record { own = Some reply; woken = [] }; by = 1 }

-- the look at the pending signals stands for the line that is refused
pub shows : history_of given (
    entry (calls.MsgGet (Some 7) true false) (replies.Num 3)
    ∷ entry calls.SigPending (replies.Bits new_signals.pending)
    ∷ entry (calls.MsgSnd 3 (pos 23) (codes "y") true) (replies.Num 0)
    ∷ entry (calls.MsgRcv 3 (negsuc 31) 16 false true) (replies.Message (pos 23) (codes "y"))
    ∷ entry (calls.MsgRcv 3 (negsuc 31) 16 false true) (replies.Fail Enomsg)
    ∷ entry (calls.Exit 0) replies.Ended ∷ [])
    ≡ mq_entry (Open 7 true false) (Number 3)
    ∷ mq_entry (Send 3 40 (codes "x")) (Refused (Base Einval))
    ∷ mq_entry (Send 3 9 (codes "y")) (Number 0)
    ∷ mq_entry (Receive 3 16) (Taken 9 (codes "y"))
    ∷ mq_entry (Receive 3 16) (Refused (Base Eagain))
    ∷ mq_entry (Other (calls.Exit 0)) (Plain replies.Ended) ∷ []
shows = refl
