-- A message queue (POSIX.1-2017: mq_open, mq_send, mq_receive, mq_getattr), in its own words: messages with priorities.
use Rattle.std.specs.Prelude.{ℕ, nat_eq, List, [], ◌∷◌, ◌++◌, if◌then◌else◌, nat_lt, Option, position}

-- a message: its priority, and its text
pub record Message : Type 0 where
  pub priority : ℕ
  pub text : List ℕ

-- the messages of a queue, in order of sending
abbrev pub Queue : Type 0
Queue = List Message

-- the limits (profile): mq_maxmsg, mq_msgsize, and MQ_PRIO_MAX - 1
abbrev pub max_messages : ℕ
max_messages = 1024

abbrev pub max_text : ℕ
max_text = 16

abbrev pub max_priority : ℕ
max_priority = 31

-- mq_send: the message goes behind those that are there
abbrev pub with_message : Queue → ℕ → List ℕ → Queue
with_message q priority text = q ++ record { priority = priority; text = text } ∷ []

-- the highest priority of these messages, 0 where there are none
abbrev pub higher : ℕ → ℕ → ℕ
higher p q = if nat_lt p q then q else p

abbrev pub highest : Queue → ℕ
highest [] = 0
highest (m ∷ ms) = higher m.priority (highest ms)

-- mq_receive: the place of the oldest of the messages of the highest priority
abbrev pub oldest_of : ℕ → Queue → Option ℕ
oldest_of priority q = position (λ m. nat_eq m.priority priority) q

abbrev pub oldest_of_highest : Queue → Option ℕ
oldest_of_highest q = oldest_of (highest q) q
