-- The calls of a script of POSIX message queues, and what they come to.
use Rattle.std.specs.Prelude.{ℕ, Bool, List, Option}
use Rattle.pico_base.specs.declared.call.Call.{Call}
use Rattle.pico_base.specs.declared.reply.Reply.{Reply}
use Rattle.mq_model.specs.declared.errno.MqErrno.{MqErrno}

-- The calls on queues: `mqopen /N [create] [excl]`, `mqsend Q P X`, `mqreceive Q Z` and `mqgetattr Q`. Any other is one
-- that does without queues.
pub data MqCall : Type 0 where
  Open : (name : ℕ) (create : Bool) (excl : Bool) → MqCall
  Send : (id : ℕ) (priority : ℕ) (text : List ℕ) → MqCall
  Receive : (id : ℕ) (size : ℕ) → MqCall
  GetAttr : (id : ℕ) → MqCall
  Other : (call : Call) → MqCall

-- The replies to the calls on queues: a number, a message that is taken, how many messages a queue has, and a refusal.
-- Any other is the reply to one of the other calls.
pub data MqReply : Type 0 where
  Number : (n : ℕ) → MqReply
  Taken : (priority : ℕ) (text : List ℕ) → MqReply
  Attributes : (messages : ℕ) → MqReply
  Refused : (e : MqErrno) → MqReply
  Plain : (reply : Reply) → MqReply

-- what a call comes to: the caller's own reply, none where it waits, and those whom it wakes, each with its reply
pub record MqOutcome : Type 0 where
  pub own : Option MqReply
  pub woken : List (ℕ × Reply)

-- a call that was carried out: of which process, what it came to, and by which node
pub record MqEntry : Type 0 where
  pub pid : ℕ
  pub call : MqCall
  pub outcome : MqOutcome
  pub by : ℕ
