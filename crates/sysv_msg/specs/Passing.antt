-- What was passed over, and not kept: that it stands in the bytes is all that is told of it.
use Rattle.std.specs.Prelude.{◌≡◌, ℕ, List, Some}
use Rattle.kernel_model.specs.Queue.{Message, Queue, bytes_of}
use Rattle.frame_bytes.specs.Readers.{many}
use Rattle.waiting_model.specs.Waiters.{unawaited}
use Rattle.sysv_msg.specs.Body.{IsBodyOf}
use Rattle.sysv_msg.specs.Reading.{message_at, messages_at, state_at}

-- so many messages, whose texts have so many bytes, with the rest behind them
pub record Passes (count : ℕ) (bytes : List ℕ) (size : ℕ) (rest : List ℕ) : Type 0 where
  pub messages : List Message
  pub read : many message_at count bytes ≡ Some (messages, rest)
  pub size_is : size ≡ bytes_of messages

-- a queue's messages behind their count
pub record HasMessages (bytes rest : List ℕ) : Type 0 where
  pub messages : List Message
  pub read : messages_at bytes ≡ Some (messages, rest)

-- a queue's own fields
pub record HasState (bytes rest : List ℕ) : Type 0 where
  pub queue : Queue
  pub read : state_at bytes ≡ Some (queue, rest)

-- all of the bytes are a queue's, at which nobody waits
pub record IsUnawaited (bytes : List ℕ) : Type 0 where
  pub queue : Queue
  pub is_body : IsBodyOf (unawaited queue) bytes
