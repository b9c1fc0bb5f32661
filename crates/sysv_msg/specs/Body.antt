-- A queue as bytes (profile): a code, msg_qbytes, the last sender, the last receiver, the count of messages, each
-- message as its type and its text, and those who wait. Numbers are big-endian, signed ones in two's complement.
use Rattle.std.specs.Prelude.{◌≡◌, ℕ, ◌<◌, ◌^◌, true, List, ◌∷◌, ◌++◌, length}
use Rattle.std.specs.List.{flat_map}
use Rattle.kernel_model.specs.Queue.{Message, Queue}
use Rattle.frame_bytes.specs.Fields.{signed, text, word, half}
use Rattle.frame_bytes.specs.Ranges.{HasCallRanges}
use Rattle.frame_bytes.specs.Limits.{is_call}
use Rattle.pico_base.specs.declared.call.Call.{Call}
use Rattle.waiting_model.specs.Waiters.{Awaited, IsSettled}
use Rattle.waiting_model.specs.Queue.{try_queue}
use Rattle.waiter_fields.specs.Waiters.{waiters_field}
use Rattle.waiter_fields.specs.Ranges.{AreWaiters}
use Rattle.sysv_msg.specs.Limits.{IsWithinLimits, may_wait}

abbrev pub queue_code : ℕ
queue_code = 4

abbrev pub message_field : Message → List ℕ
message_field m = signed m.class ++ text m.text

abbrev pub messages_field : List Message → List ℕ
messages_field ms = half (length ms) ++ flat_map message_field ms

abbrev pub numbers_field : Queue → List ℕ
numbers_field q = word q.qbytes ++ (word q.last_sender ++ word q.last_receiver)

abbrev pub body : Awaited Queue → List ℕ
body q = queue_code ∷ (numbers_field q.state ++ (messages_field q.state.messages ++ waiters_field q.waiters))

-- a call that may wait at a queue and has a spelling: a send or a receive, with numbers of their types
pub record IsWaitingCall (call : Call) : Type 0 where
  pub waits : may_wait call ≡ true
  pub ranges : HasCallRanges call
  pub within : is_call call ≡ true

-- The bytes are the body of the queue. It is within the limits, no waiter's call could go on, and the numbers have
-- the ranges of their types.
pub record IsBodyOf (q : Awaited Queue) (bytes : List ℕ) : Type 0 where
  pub limits : IsWithinLimits q.state
  pub waiters : AreWaiters IsWaitingCall q.waiters
  pub settled : IsSettled try_queue q
  pub sender : q.state.last_sender < 2 ^ 32
  pub receiver : q.state.last_receiver < 2 ^ 32
  pub spelled : bytes ≡ body q
