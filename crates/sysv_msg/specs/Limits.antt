-- The limits of a queue and of those who wait at it (profile), and which calls may wait there.
use Rattle.std.specs.Prelude.{◌≡◌, Bool, true, false, ◌≤◌, pos, ◌≤ℤ◌, FitsSigned, length}
use Rattle.std.specs.Int.{w32}
use Rattle.std.specs.List.{AllByRecursion}
use Rattle.pico_base.specs.declared.call.Call.{Call}
use Rattle.pico_base.specs.declared.call.Call.TheVariants as calls
use Rattle.kernel_model.specs.Queue.{Message, Queue, bytes_in, max_text, max_queue_bytes, max_messages}
use Rattle.waiting_model.specs.declared.callers.Waiting.{Waiting}
use Rattle.waiting_model.specs.Waiters.{Awaited, IsSettled}
use Rattle.waiting_model.specs.Queue.{try_queue}
use Rattle.waiter_fields.specs.Waiters.{are_different, max_waiters, processes_of}

-- a message that can stand in a queue: its type is at least 1 and a 32-bit number
pub record IsSendable (m : Message) : Type 0 where
  pub class : pos 1 ≤ℤ m.class
  pub fits : FitsSigned w32 m.class
  pub text : length m.text ≤ max_text

pub record IsWithinLimits (q : Queue) : Type 0 where
  pub qbytes : q.qbytes ≤ max_queue_bytes
  pub count : length q.messages ≤ max_messages
  pub bytes : bytes_in q ≤ max_queue_bytes
  pub each : AllByRecursion IsSendable q.messages

-- the calls that are carried out on a queue as it is; its removal isn't one of them
abbrev pub is_queue_call : Call → Bool
is_queue_call (calls.MsgSnd id class text nowait) = true
is_queue_call (calls.MsgRcv id class size noerror nowait) = true
is_queue_call (calls.MsgStat id) = true
is_queue_call (calls.MsgSet id qbytes) = true
is_queue_call call = false

-- the calls that may wait at a queue
abbrev pub may_wait : Call → Bool
may_wait (calls.MsgSnd id class text nowait) = true
may_wait (calls.MsgRcv id class size noerror nowait) = true
may_wait call = false

pub record IsParked (w : Waiting) : Type 0 where
  pub ticket : 1 ≤ w.ticket
  pub call : may_wait w.call ≡ true

-- those who wait: few, no two of one process, and none whose call could go on
pub record AreParked (q : Awaited Queue) : Type 0 where
  pub few : length q.waiters ≤ max_waiters
  pub different : are_different (processes_of q.waiters) ≡ true
  pub each : AllByRecursion IsParked q.waiters
  pub settled : IsSettled try_queue q
