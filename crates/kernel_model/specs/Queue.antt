-- A message queue (POSIX.1-2017: msgget, msgsnd, msgrcv, msgctl; System Interfaces 2.7 for what these share).
use Rattle.std.specs.Prelude.{ℕ, ◌+◌, ℤ, pos, negsuc, suc, zero, Bool, true, ◌||◌, ◌&&◌, List, [], ◌∷◌, ◌++◌, length, take, nat_lt, nat_le, int_lt, int_le, if◌then◌else◌, Option, Some, None, Result, Ok, Err, slice_get, sum_by, position, remove}
use Rattle.std.specs.Ordering.{int_eq}
use Rattle.pico_base.specs.declared.reply.Errno.{Errno}
use Rattle.pico_base.specs.declared.reply.Errno.TheVariants.{Einval, Eagain, Enomsg, E2big}
use Rattle.pico_base.specs.declared.reply.Reply.{Reply}
use Rattle.pico_base.specs.declared.reply.Reply.TheVariants as replies

-- a message: its type, at least 1, and its text
pub record Message : Type 0 where
  pub class : ℤ
  pub text : List ℕ

-- msg_qbytes, msg_lspid and msg_lrpid beside the messages, the oldest first. 0 stands for no process yet
pub record Queue : Type 0 where
  pub messages : List Message
  pub qbytes : ℕ
  pub last_sender : ℕ
  pub last_receiver : ℕ

-- the limits (profile): a text's bytes, a queue's bytes, and a queue's messages
abbrev pub max_text : ℕ
max_text = 4096

abbrev pub max_queue_bytes : ℕ
max_queue_bytes = 16384

abbrev pub max_messages : ℕ
max_messages = 1024

abbrev pub empty_queue : Queue
empty_queue = record { messages = []; qbytes = max_queue_bytes; last_sender = 0; last_receiver = 0 }

-- the bytes of messages, and those in a queue
abbrev pub bytes_of : List Message → ℕ
bytes_of ms = sum_by (λ m. length m.text) ms

abbrev pub bytes_in : Queue → ℕ
bytes_in q = bytes_of q.messages

-- msgsnd: EINVAL for a type below 1 and for a text above the limit, EAGAIN where there is no room. There is room as
-- long as the bytes don't pass msg_qbytes; the count of messages has a limit of its own (profile)
abbrev pub has_room : Queue → List ℕ → Bool
has_room q text = nat_le (bytes_in q + length text) q.qbytes && nat_lt (length q.messages) max_messages

abbrev pub is_sendable : ℤ → List ℕ → Bool
is_sendable class text = int_le (pos 1) class && nat_le (length text) max_text

abbrev pub send : Queue → ℕ → ℤ → List ℕ → Result Queue Errno
send q pid class text =
    if is_sendable class text
    then if has_room q text
    then Ok (record q { messages = q.messages ++ record { class = class; text = text } ∷ []; last_sender = pid })
    else Err Eagain
    else Err Einval

-- the lowest type of a message that isn't above a bound
abbrev pub lower_of : ℤ → Option ℤ → ℤ
lower_of class None = class
lower_of class (Some other) = if int_lt other class then other else class

abbrev pub lowest_upto : ℤ → List Message → Option ℤ
lowest_upto bound [] = None
lowest_upto bound (m ∷ ms) =
    if int_le m.class bound then Some (lower_of m.class (lowest_upto bound ms)) else lowest_upto bound ms

-- the place of the first message of a type
abbrev pub first_of : ℤ → List Message → Option ℕ
first_of class ms = position (λ m. int_eq m.class class) ms

abbrev pub first_of_some : Option ℤ → List Message → Option ℕ
first_of_some None ms = None
first_of_some (Some class) ms = first_of class ms

-- msgrcv: for type 0 the first message, for a positive type the first of it, for a negative type the first of
-- the lowest type that isn't above its absolute value
abbrev pub select : List Message → ℤ → Option ℕ
select ms (pos zero) = position (λ _. true) ms
select ms (pos (suc n)) = first_of (pos (suc n)) ms
select ms (negsuc n) = first_of_some (lowest_upto (pos (suc n)) ms) ms

-- what msgrcv gives: the queue without the message, and the message cut to the size asked
pub record Received : Type 0 where
  pub queue : Queue
  pub message : Message

abbrev pub take_message : Queue → ℕ → ℕ → ℕ → Message → Received
take_message q pid size place m =
    record {
      queue = record q { messages = remove q.messages place; last_receiver = pid };
      message = record { class = m.class; text = take size m.text };
    }

-- E2BIG: a text above the size asked stays, unless MSG_NOERROR is set (msgrcv)
abbrev pub receive_at : Queue → ℕ → ℕ → Bool → ℕ → Option Message → Result Received Errno
receive_at q pid size noerror place None = Err Enomsg
receive_at q pid size noerror place (Some m) =
    if nat_le (length m.text) size || noerror then Ok (take_message q pid size place m) else Err E2big

abbrev pub receive_from : Queue → ℕ → ℕ → Bool → Option ℕ → Result Received Errno
receive_from q pid size noerror None = Err Enomsg
receive_from q pid size noerror (Some place) = receive_at q pid size noerror place (slice_get q.messages place)

abbrev pub receive : Queue → ℕ → ℤ → ℕ → Bool → Result Received Errno
receive q pid class size noerror = receive_from q pid size noerror (select q.messages class)

-- msgctl with IPC_STAT and IPC_SET: EINVAL for a msg_qbytes above the limit (profile). What is there stays, also where
-- it is more than msg_qbytes now
abbrev pub stat : Queue → Reply
stat q = replies.Stat (length q.messages) q.qbytes q.last_sender q.last_receiver

abbrev pub set_qbytes : Queue → ℕ → Result Queue Errno
set_qbytes q qbytes = if nat_le qbytes max_queue_bytes then Ok (record q { qbytes = qbytes }) else Err Einval
