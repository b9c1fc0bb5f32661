-- Replies that an Answer has room for.
use Rattle.std.proofs.Common.{◌≡◌, ℕ, ℤ, ◌^◌, ◌≤◌, Bool, ◌||◌, List, length, Option, Some, None, Result, Ok, Err, refl, subst, arith}
use Rattle.std.proofs.lemmas.Bool.{lt-ltb}
use Rattle.std.proofs.lemmas.List.{length-map, length-take}
use Rattle.std.proofs.lemmas.List.Elements.{All-get_or}
use Rattle.std.proofs.lemmas.Option.{get_or_from_slice_get, slice_get_within}
use Rattle.std.specs.Prelude.{All, nat_le, slice_get}
use Rattle.frame_bytes.specs.Fields.{word}
use Rattle.kernel_laws.proofs.Plain.{by_test}
use Rattle.kernel_laws.specs.Queues.{IsMessage, IsQueueWithinLimits}
use Rattle.kernel_model.specs.Queue.{Message, Queue, Received, receive, receive_at, receive_from, select, stat, take_message}
use Rattle.kernel_model.specs.SemaphoreSet.{Semaphore, SemaphoreSet, values_of}
use Rattle.limit_laws.proofs.Plain.{fields-length}
use Rattle.limit_laws.specs.Within.{IsReplyShort}
use Rattle.pico_base.specs.declared.reply.Errno.{Errno}
use Rattle.pico_base.specs.declared.reply.Reply.TheVariants as replies

-- a number
pub num-is-short : (n : ℕ) → IsReplyShort (replies.Num n)
num-is-short n = record { within = refl; short = omega arith }

-- a refusal
pub fail-is-short : (e : Errno) → IsReplyShort (replies.Fail e)
fail-is-short e = record { within = refl; short = omega arith }

-- what a queue has
pub stat-is-short : (q : Queue) → IsReplyShort (stat q)
stat-is-short q = record { within = refl; short = omega arith }

-- ---- a message

-- the text that a receive takes, if it takes one
abbrev pub IsShortReceived : Result Received Errno → Type 0
IsShortReceived (Ok r) = length r.message.text ≤ 4096
IsShortReceived (Err e) = Unit {0}

taken-is-short : (q : Queue) (pid size place : ℕ) (m : Message) → length m.text ≤ 4096
    → IsShortReceived (Ok (take_message q pid size place m))
taken-is-short q pid size place m short =
    let cut = length-take size m.text in omega (arith, cut, short)

message-at : (ms : List Message) (i : ℕ) (m : Message) → All IsMessage ms → slice_get ms i ≡ Some m → IsMessage m
message-at ms i m all is =
    subst IsMessage (get_or_from_slice_get ms i m m is) (All-get_or IsMessage ms i m (slice_get_within ms i m is) all)

received-at-is-short : (q : Queue) (pid size : ℕ) (noerror : Bool) (place : ℕ) (o : Option Message)
    → All IsMessage q.messages → slice_get q.messages place ≡ o
    → IsShortReceived (receive_at q pid size noerror place o)
received-at-is-short q pid size noerror place None all is = tt
received-at-is-short q pid size noerror place (Some m) all is =
    by_test IsShortReceived (nat_le (length m.text) size || noerror) (Ok (take_message q pid size place m)) _
    (λ _. taken-is-short q pid size place m (message-at q.messages place m all is).text) (λ _. tt)

received-from-is-short : (q : Queue) (pid size : ℕ) (noerror : Bool) (o : Option ℕ) → All IsMessage q.messages
    → IsShortReceived (receive_from q pid size noerror o)
received-from-is-short q pid size noerror None all = tt
received-from-is-short q pid size noerror (Some place) all =
    received-at-is-short q pid size noerror place (slice_get q.messages place) all refl

-- what a receive takes from a queue within the limits
pub received-is-short : (q : Queue) (pid : ℕ) (class : ℤ) (size : ℕ) (noerror : Bool) → IsQueueWithinLimits q
    → IsShortReceived (receive q pid class size noerror)
received-is-short q pid class size noerror k =
    received-from-is-short q pid size noerror (select q.messages class) k.messages

-- is a message that is short
pub message-is-short : (m : Message) → length m.text ≤ 4096 → IsReplyShort (replies.Message m.class m.text)
message-is-short m short =
    record { within = lt-ltb (length m.text) (2 ^ 32) (omega (arith, short)); short = omega (arith, short) }

-- ---- values

-- all values of a set
pub values-are-short : (s : SemaphoreSet) → length s.semaphores ≤ 64
    → IsReplyShort (replies.All (values_of s.semaphores))
values-are-short s most =
    let count = length-map s.semaphores (λ (x : Semaphore). x.value)
    in let each = fields-length word 4 (values_of s.semaphores) (λ _. refl)
    in record {
      within = lt-ltb (length (values_of s.semaphores)) (2 ^ 16) (omega (arith, most, count));
      short = omega (arith, most, count, each);
    }
