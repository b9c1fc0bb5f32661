-- Messages that stay as they are spelled.
use Rattle.std.specs.Prelude.{◌≡◌, ℕ, ◌≤◌, List, [], ◌∷◌, length, Option, Some, None}
use Rattle.std.specs.List.{AllByRecursion, flat_map}
use Rattle.frame_bytes.specs.Readers.{many}
use Rattle.kernel_model.specs.Queue.{Message, bytes_of, max_messages, max_queue_bytes}
use Rattle.sysv_msg.specs.Body.{message_field}
use Rattle.sysv_msg.specs.Limits.{IsSendable}
use Rattle.sysv_msg.specs.Reading.{message_at}

abbrev pub messages_or_none : Option (List Message × List ℕ) → List Message
messages_or_none None = []
messages_or_none (Some x) = x.0

-- the messages that so many are read as, from the front of the bytes
unfoldable pub messages_in : ℕ → List ℕ → List Message
messages_in count bytes = messages_or_none (many message_at count bytes)

-- The bytes are these messages as they are spelled: so many, whose texts have so many bytes.
pub record Holds (count size : ℕ) (bytes : List ℕ) (ms : List Message) : Type 0 where
  pub counted : length ms ≡ count
  pub sized : size ≡ bytes_of ms
  pub spelled : bytes ≡ flat_map message_field ms
  pub few : length ms ≤ max_messages
  pub light : bytes_of ms ≤ max_queue_bytes
  pub each : AllByRecursion IsSendable ms

-- the place of the first message, where there is one
abbrev pub front_of : List Message → Option ℕ
front_of [] = None
front_of (m ∷ ms) = Some 0

-- So many messages were taken from bytes, all of which they are but the last one, the 0 of no waiters.
pub record HasTaken (count size : ℕ) (bytes taken : List ℕ) : Type 0 where
  pub messages : List Message
  pub read : many message_at count bytes ≡ Some (messages, 0 ∷ [])
  pub holds : Holds count size taken messages
