-- Reading a body from left to right: a field is its value and the bytes after it, or there is none.
use Rattle.std.specs.Prelude.{ℕ, ℤ, pos, Bool, not, List, [], ◌∷◌, length, Option, Some, None, is_some, nat_le, int_le, ◌==◌, if◌then◌else◌}
use Rattle.std.specs.List.{list_all}
use Rattle.std.specs.Int.{w16, w32}
use Rattle.pico_base.specs.declared.call.Call.{Call}
use Rattle.pico_base.specs.declared.call.Call.TheVariants as calls
use Rattle.pico_base.specs.Options.{◌>>=◌}
use Rattle.body_fields.specs.Fields.{number_upto, whole}
use Rattle.frame_bytes.specs.Readers.{Reader, counted, five, four, passing, tabled, three, two}
use Rattle.frame_bytes.specs.Fields.{flag_at, signed_at, text_at, word_at}
use Rattle.kernel_model.specs.Queue.{Message, Queue, bytes_of, max_messages, max_queue_bytes, max_text}
use Rattle.waiting_model.specs.declared.callers.Waiting.{Waiting}
use Rattle.waiting_model.specs.Waiters.{Awaited, awaited}
use Rattle.waiting_model.specs.Queue.{try_queue}
use Rattle.waiter_fields.specs.Waiters.{waiters_at}
use Rattle.sysv_msg.specs.Body.{queue_code}

-- a type, at least 1
unfoldable pub class_at : Reader ℤ
class_at bytes = passing (int_le (pos 1)) signed_at bytes

-- a text that a message may have
unfoldable pub short_at : Reader (List ℕ)
short_at bytes = passing (λ text. nat_le (length text) max_text) text_at bytes

abbrev pub message_of : ℤ → List ℕ → Message
message_of class text = record { class = class; text = text }

unfoldable pub message_at : Reader Message
message_at bytes = two class_at short_at message_of bytes

-- messages whose texts have no more bytes than a queue's may have
unfoldable pub messages_at : Reader (List Message)
messages_at bytes =
    passing (λ ms. nat_le (bytes_of ms) max_queue_bytes) (counted (number_upto w16 max_messages) message_at) bytes

-- the calls that wait at a queue: sends and receives

abbrev pub call_rows : List (ℕ × Reader Call)
call_rows =
    (3, four word_at signed_at text_at flag_at calls.MsgSnd)
    ∷ (4, five word_at signed_at word_at flag_at flag_at calls.MsgRcv)
    ∷ []

unfoldable pub call_at : Reader Call
call_at bytes = tabled call_rows bytes

-- whether no waiter's call could go on
abbrev pub waits : Queue → Waiting → Bool
waits q w = not (is_some (try_queue q w.pid w.call))

abbrev pub is_settled : Awaited Queue → Bool
is_settled q = list_all (waits q.state) q.waiters

abbrev pub queue_of : ℕ → ℕ → ℕ → List Message → Queue
queue_of qbytes sender receiver messages =
    record { messages = messages; qbytes = qbytes; last_sender = sender; last_receiver = receiver }

-- the numbers before the messages
unfoldable pub numbers_at : Reader (ℕ × ℕ × ℕ)
numbers_at bytes =
    three (number_upto w32 max_queue_bytes) word_at word_at (λ qbytes sender receiver. (qbytes, sender, receiver)) bytes

-- the queue's own fields behind the code
unfoldable pub state_at : Reader Queue
state_at bytes = four (number_upto w32 max_queue_bytes) word_at word_at messages_at queue_of bytes

-- a queue with those who wait, if none of their calls could go on
abbrev pub settled_or_none : Awaited Queue → Option (Awaited Queue)
settled_or_none q = if is_settled q then Some q else None

-- those who wait at a queue, with nothing behind them and none whose call could go on
unfoldable pub settled_at : Queue → List ℕ → Option (Awaited Queue)
settled_at q bytes = do
  ws ← whole (waiters_at call_at bytes)
  settled_or_none (awaited q ws)

-- the queue's own fields, and those who wait
unfoldable pub fields_at : List ℕ → Option (Awaited Queue)
fields_at bytes = do
  state ← state_at bytes
  settled_at state.0 state.1

-- a queue that all of the bytes spell
unfoldable pub queue_at : List ℕ → Option (Awaited Queue)
queue_at [] = None
queue_at (code ∷ bytes) = if code == queue_code then fields_at bytes else None
