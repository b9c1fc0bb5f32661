-- What is passed over: messages, a queue's own fields, and a whole queue at which nobody waits.
use Rattle.std.proofs.Common.{◌≡◌, ◌∙◌, ℕ, ◌+◌, ◌-◌, ◌<◌, ◌≤◌, Bool, true, false, List, [], ◌∷◌, ◌++◌, length, Option, Some, None, refl, ap, subst, arith}
use Rattle.std.proofs.lemmas.Bool.Decides.{nat_tests}
use Rattle.std.proofs.lemmas.List.Sums.{sum_by_push}
use Rattle.std.specs.Bool.{OnTrue}
use Rattle.std.specs.Prelude.{nat_le}
use Rattle.std.specs.Int.{w16}
use Rattle.body_fields.specs.Fields.{byte_upto, number_upto, whole}
use Rattle.body_fields.proofs.Fields.{IsBytes}
use Rattle.kernel_model.specs.Queue.{Message, Queue, bytes_of, max_messages, max_queue_bytes}
use Rattle.frame_bytes.specs.Readers.{many}
use Rattle.frame_bytes.proofs.Loop.{goes_on, is_done, with_front}
use Rattle.waiting_model.specs.Waiters.{unawaited}
use Rattle.waiter_fields.specs.Waiters.{waiters_at}
use Rattle.sysv_msg.specs.Body.{IsBodyOf, queue_code}
use Rattle.sysv_msg.specs.Passing.{HasMessages, HasState, IsUnawaited, Passes}
use Rattle.sysv_msg.specs.Reading.{call_at, message_at, messages_at, numbers_at, queue_at, queue_of, state_at}
use Rattle.sysv_msg.proofs.Bodies.{body-takes}
use Rattle.sysv_msg.proofs.Parts.{all-read, state-read}

-- messages were passed over, and as many as are left come behind them
pub record Passing (count counter size : ℕ) (bytes rest : List ℕ) : Type 0 where
  pub messages : List Message
  pub read : with_front messages (many message_at (count - counter) rest) ≡ many message_at count bytes
  pub size_is : size ≡ bytes_of messages

-- one message's bytes more
pub bytes-more : (ms : List Message) (m : Message) → bytes_of (ms ++ m ∷ []) ≡ bytes_of ms + length m.text
bytes-more ms m = sum_by_push (λ (k : Message). length k.text) ms m

nothing-before : (o : Option (List Message × List ℕ)) → with_front [] o ≡ o
nothing-before None = refl
nothing-before (Some x) = refl

-- none as yet
pub begins-passing : (count : ℕ) (bytes : List ℕ) → Passing count 0 0 bytes bytes
begins-passing count bytes =
    let k : count - 0 ≡ count = omega arith in
    record { messages = []; read = rw k (nothing-before (many message_at count bytes)); size_is = refl }

-- one more
pub passes-on : (count counter size : ℕ) (bytes rest after : List ℕ) (m : Message) → counter < count
    → message_at rest ≡ Some (m, after) → Passing count counter size bytes rest
    → Passing count (counter + 1) (size + length m.text) bytes after
passes-on count counter size bytes rest after m lt read p =
    let text = bytes-more p.messages m in
    let sum = p.size_is in
    record {
      messages = p.messages ++ m ∷ [];
      read = goes_on Message message_at p.messages count counter rest m after (many message_at count bytes) lt read
          p.read;
      size_is = omega (arith, sum, text);
    }

-- all
pub has-passed : (count counter size : ℕ) (bytes rest : List ℕ) → count ≤ counter
    → Passing count counter size bytes rest → Passes count bytes size rest
has-passed count counter size bytes rest ge p =
    record {
      messages = p.messages;
      read = is_done Message message_at p.messages count counter rest (many message_at count bytes) ge p.read;
      size_is = p.size_is;
    }

-- messages of no more bytes than a queue's are read behind their count
pub messages-read : (bytes rest behind : List ℕ) (count : ℕ) (ms : List Message)
    → number_upto w16 max_messages bytes ≡ Some (count, rest) → many message_at count rest ≡ Some (ms, behind)
    → bytes_of ms ≤ max_queue_bytes → messages_at bytes ≡ Some (ms, behind)
unfolding messages_at
messages-read bytes rest behind count ms first read le =
    let test : nat_le (bytes_of ms) max_queue_bytes ≡ true = grind (arith, nat_tests) in
    rw (first, read, test) refl

-- and so they are there
pub messages-there : (bytes rest behind : List ℕ) (count size : ℕ)
    → number_upto w16 max_messages bytes ≡ Some (count, rest) → Passes count rest size behind
    → size ≤ max_queue_bytes → HasMessages bytes behind
messages-there bytes rest behind count size first p le =
    let sum = p.size_is in
    record {
      messages = p.messages;
      read = messages-read bytes rest behind count p.messages first p.read (omega (arith, sum, le));
    }

-- a queue's numbers, and its messages behind them
pub state-there : (bytes rest behind : List ℕ) (n : ℕ × ℕ × ℕ) → numbers_at bytes ≡ Some (n, rest)
    → HasMessages rest behind → HasState bytes behind
state-there bytes rest behind n first m =
    record {
      queue = queue_of n.0 n.1 n.2 m.messages;
      read = state-read bytes rest behind n m.messages first m.read;
    }

nobody-behind : whole (waiters_at call_at (0 ∷ [])) ≡ Some []
unfolding waiters_at byte_upto many
nobody-behind = refl

-- a queue's own fields behind the code, and behind them that nobody waits
pub unawaited-body : (bytes fields : List ℕ) (q : Queue) → IsBytes bytes → bytes ≡ queue_code ∷ fields
    → state_at fields ≡ Some (q, 0 ∷ []) → IsBodyOf (unawaited q) bytes
unfolding queue_at
unawaited-body bytes fields q fits is state =
    let read : queue_at bytes ≡ Some (unawaited q) =
    ap queue_at is ∙ all-read fields (0 ∷ []) q [] state nobody-behind in
    body-takes bytes (unawaited q) fits read

pub unawaited-there : (bytes fields : List ℕ) → IsBytes bytes → bytes ≡ queue_code ∷ fields
    → HasState fields (0 ∷ []) → IsUnawaited bytes
unawaited-there bytes fields fits is s =
    record { queue = s.queue; is_body = unawaited-body bytes fields s.queue fits is s.read }

-- the same where it is tested that nobody waits
pub unawaited-where : (none : Bool) (bytes fields waiters : List ℕ) → IsBytes bytes → bytes ≡ queue_code ∷ fields
    → HasState fields waiters → OnTrue none (waiters ≡ 0 ∷ []) → OnTrue none (IsUnawaited bytes)
unawaited-where true bytes fields waiters fits is s empty =
    unawaited-there bytes fields fits is (subst (λ (rest : List ℕ). HasState fields rest) empty s)
unawaited-where false bytes fields waiters fits is s empty = tt
