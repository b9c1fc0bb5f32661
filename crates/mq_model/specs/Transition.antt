-- What a call does: from a kernel, a process, a call and a number for what the call may create, the next kernel and the
-- outcome. Where there is no result the call can't stand at that point of a history. The order of each call's refusals
-- is the profile's.
use Rattle.std.specs.Prelude.{ℕ, Bool, true, false, not, ◌&&◌, nat_lt, List, [], length, map, if◌then◌else◌, Option, Some, None, is_some, remove, slice_get}
use Rattle.std.specs.Option.{option_and_then}
use Rattle.pico_base.specs.declared.call.Call.{Call}
use Rattle.pico_base.specs.declared.call.Call.TheVariants as calls
use Rattle.pico_base.specs.declared.reply.Errno.TheVariants.{Einval, Enoent, Eexist, Eagain}
use Rattle.pico_base.specs.declared.reply.Outcome.{Outcome}
use Rattle.number_maps.specs.Maps.{Numbered, get, put, used_with}
use Rattle.kernel_model.specs.Effect.{is_fresh}
use Rattle.kernel_model.specs.Transition.{is_spent}
use Rattle.waiting_model.specs.Kernel as plain
use Rattle.waiting_model.specs.Kernel.{Process, living_in, change_living}
use Rattle.waiting_model.specs.Marks.{Alive, after_reply, spent}
use Rattle.waiting_model.specs.Transition as plain_steps
use Rattle.mq_model.specs.declared.errno.MqErrno.{MqErrno}
use Rattle.mq_model.specs.declared.errno.MqErrno.TheVariants.{Base, Ebadf, Emsgsize}
use Rattle.mq_model.specs.Queue.{Queue, Message, max_messages, max_text, max_priority, with_message, oldest_of_highest}
use Rattle.mq_model.specs.Calls.{MqCall, Open, Send, Receive, GetAttr, Other, MqReply, Number, Taken, Attributes, Refused, Plain, MqOutcome}
use Rattle.mq_model.specs.Kernel.{MqKernel, without_queues, beside}

-- ---- the calls on queues

-- the next kernel but for the caller's marks, and the caller's reply
pub record MqEffect : Type 0 where
  pub kernel : MqKernel
  pub reply : MqReply

abbrev pub replying : MqKernel → MqReply → MqEffect
replying k reply = record { kernel = k; reply = reply }

-- a refusal changes nothing
abbrev pub refuse : MqKernel → MqErrno → MqEffect
refuse k e = replying k (Refused e)

abbrev pub with_queue : MqKernel → ℕ → Queue → MqKernel
with_queue k id q = record k { queues = put k.queues id q }

-- a new and empty queue of this name
abbrev pub new_queue : MqKernel → ℕ → ℕ → Option MqEffect
new_queue k name n =
    if is_fresh k.used_queues n
    then Some (replying
    (record k { names = put k.names name n; queues = put k.queues n []; used_queues = used_with k.used_queues n })
    (Number n))
    else None

-- mqopen: ENOENT where there is no such name and none is to be made, EEXIST where a new one was asked for and the name
-- is there; `excl` alone means nothing
abbrev pub open_at : MqKernel → ℕ → Bool → Bool → ℕ → Option ℕ → Option MqEffect
open_at k name create excl n None = if create then new_queue k name n else Some (refuse k (Base Enoent))
open_at k name create excl n (Some id) =
    Some (if create && excl then refuse k (Base Eexist) else replying k (Number id))

abbrev pub open_queue : MqKernel → ℕ → Bool → Bool → ℕ → Option MqEffect
open_queue k name create excl n = open_at k name create excl n (get k.names name)

-- EBADF where there is no queue of this number
abbrev pub on_queue : MqKernel → Option Queue → (Queue → MqEffect) → MqEffect
on_queue k None f = refuse k Ebadf
on_queue k (Some q) f = f q

-- mqsend: EINVAL for a priority above 31, EMSGSIZE for a text above 16 bytes, EAGAIN where 1,024 messages are there
abbrev pub send_to : MqKernel → ℕ → ℕ → List ℕ → Queue → MqEffect
send_to k id priority text q =
    if nat_lt (length q) max_messages
    then replying (with_queue k id (with_message q priority text)) (Number 0)
    else refuse k (Base Eagain)

abbrev pub send : MqKernel → ℕ → ℕ → List ℕ → MqEffect
send k id priority text =
    if nat_lt max_priority priority
    then refuse k (Base Einval)
    else
    if nat_lt max_text (length text)
    then refuse k Emsgsize
    else on_queue k (get k.queues id) (send_to k id priority text)

-- mqreceive: EMSGSIZE where there isn't room for the longest message, EAGAIN where no message is there. What is taken
-- is the oldest message of the highest priority.
abbrev pub take_at : MqKernel → ℕ → Queue → ℕ → Option Message → MqEffect
take_at k id q place None = refuse k (Base Eagain)
take_at k id q place (Some m) = replying (with_queue k id (remove q place)) (Taken m.priority m.text)

abbrev pub take_from : MqKernel → ℕ → Queue → Option ℕ → MqEffect
take_from k id q None = refuse k (Base Eagain)
take_from k id q (Some place) = take_at k id q place (slice_get q place)

abbrev pub receive : MqKernel → ℕ → ℕ → MqEffect
receive k id size =
    if nat_lt size max_text
    then refuse k Emsgsize
    else on_queue k (get k.queues id) (λ q. take_from k id q (oldest_of_highest q))

-- mqgetattr: what is there
abbrev pub attributes : MqKernel → ℕ → MqEffect
attributes k id = on_queue k (get k.queues id) (λ q. replying k (Attributes (length q)))

-- ---- who may act, and the marks after a call

-- a process that isn't parked and may still do something
abbrev pub may_act : Alive → Bool
may_act a = not (is_some a.marks.parked) && not (is_spent a.marks.allowance)

-- a doomed process that lives on has nothing left but its ending, and a reply makes the caller unstruck
abbrev pub after_call : Alive → Alive
after_call a = after_reply (if is_some a.row.signals.doom then spent a else a)

abbrev pub finish : MqKernel → ℕ → MqKernel
finish k pid = record k { processes = change_living k.processes pid after_call }

-- ---- the transition

-- what a call leads to
pub record MqSuccessor : Type 0 where
  pub kernel : MqKernel
  pub outcome : MqOutcome

abbrev pub successor : MqKernel → MqOutcome → MqSuccessor
successor kernel outcome = record { kernel = kernel; outcome = outcome }

abbrev pub alone : MqReply → MqOutcome
alone reply = record { own = Some reply; woken = [] }

-- a call on queues wakes nobody, since nobody waits for a queue
abbrev pub after_effect : ℕ → MqEffect → MqSuccessor
after_effect pid e = record { kernel = finish e.kernel pid; outcome = alone e.reply }

abbrev pub on_queues : MqKernel → ℕ → Option MqEffect → Option Alive → Option MqSuccessor
on_queues k pid e None = None
on_queues k pid None (Some a) = None
on_queues k pid (Some e) (Some a) = if may_act a then Some (after_effect pid e) else None

-- The other calls are those of the System V kernel, but for those on its queues, which no script of POSIX message
-- queues has
abbrev pub is_on_queues : Call → Bool
is_on_queues (calls.MsgGet key create excl) = true
is_on_queues (calls.MsgSnd id class text nowait) = true
is_on_queues (calls.MsgRcv id class size noerror nowait) = true
is_on_queues (calls.MsgStat id) = true
is_on_queues (calls.MsgSet id qbytes) = true
is_on_queues (calls.MsgRmid id) = true
is_on_queues call = false

abbrev pub own_of : Outcome → Option MqReply
own_of outcome = option_and_then (λ reply. Some (Plain reply)) outcome.own

abbrev pub as_before : Outcome → MqOutcome
as_before outcome = record { own = own_of outcome; woken = outcome.woken }

abbrev pub after_other : MqKernel → Option plain_steps.Successor → Option MqSuccessor
after_other k None = None
after_other k (Some s) = Some (record { kernel = beside k s.kernel; outcome = as_before s.outcome })

abbrev pub living_at : MqKernel → ℕ → Option Alive
living_at k pid = living_in k.processes pid

abbrev pub mq_transition : MqKernel → ℕ → MqCall → ℕ → Option MqSuccessor
mq_transition k pid (Open name create excl) n = on_queues k pid (open_queue k name create excl n) (living_at k pid)
mq_transition k pid (Send id priority text) n = on_queues k pid (Some (send k id priority text)) (living_at k pid)
mq_transition k pid (Receive id size) n = on_queues k pid (Some (receive k id size)) (living_at k pid)
mq_transition k pid (GetAttr id) n = on_queues k pid (Some (attributes k id)) (living_at k pid)
mq_transition k pid (Other call) n =
    if is_on_queues call then None else after_other k (plain_steps.transition (without_queues k) pid call n)
