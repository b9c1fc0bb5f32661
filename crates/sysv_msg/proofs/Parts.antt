-- A queue is read by its parts: its numbers, its messages, those who wait, and whether none of them could go on.
use Rattle.std.proofs.Common.{◌≡◌, ◌∙◌, ℕ, ◌≤◌, true, false, eqb, List, length, Option, Some, None, refl}
use Rattle.std.specs.Int.{w32}
use Rattle.pico_base.specs.Options.{◌>>=◌}
use Rattle.pico_base.specs.declared.fault.UnpackFault.{UnpackFault}
use Rattle.pico_base.specs.declared.fault.UnpackFault.TheVariants.{Memory, NotABody}
use Rattle.kernel_model.specs.Queue.{Message, Queue, max_queue_bytes}
use Rattle.waiting_model.specs.declared.callers.Waiting.{Waiting}
use Rattle.waiting_model.specs.Waiters.{awaited}
use Rattle.body_fields.specs.Fields.{number_upto, whole}
use Rattle.body_fields.proofs.Fields.{IsBytes}
use Rattle.frame_bytes.specs.Fields.{word_at}
use Rattle.frame_bytes.specs.Readers.{Fails, Reader, one}
use Rattle.waiter_fields.specs.Waiters.{max_waiters, waiters_at}
use Rattle.waiter_fields.proofs.WaiterLaws.{waiters-inverse}
use Rattle.sysv_msg.specs.Body.{IsWaitingCall}
use Rattle.sysv_msg.specs.Limits.{IsWithinLimits}
use Rattle.sysv_msg.specs.Reading.{call_at, fields_at, messages_at, numbers_at, queue_of, settled_at, settled_or_none, state_at}
use Rattle.sysv_msg.proofs.BodyLaws.{call-inverse, state-inverse}
use Rattle.sysv_msg.proofs.Bodies.{limits-of}

-- ---- four fields are three, and one more

module _ {A B C D Z : Type 0} (rb : Reader B) (rc : Reader C) (rd : Reader D) (make : A → B → C → D → Z) where
  abbrev last : (A × B × C) × List ℕ → Option (Z × List ℕ)
  last n = one rd (make n.0.0 n.0.1 n.0.2) n.1

  by-third : (a : A) (b : B) (o : Option (C × List ℕ))
      → (o >>= λ c. one rd (make a b c.0) c.1) ≡ ((o >>= λ c. Some ((a, b, c.0), c.1)) >>= last)
  by-third a b None = refl
  by-third a b (Some c) = refl

  by-second : (a : A) (o : Option (B × List ℕ))
      → (o >>= λ b. rc b.1 >>= λ c. one rd (make a b.0 c.0) c.1)
      ≡ ((o >>= λ b. rc b.1 >>= λ c. Some ((a, b.0, c.0), c.1)) >>= last)
  by-second a None = refl
  by-second a (Some b) = by-third a b.0 (rc b.1)

  by-first : (o : Option (A × List ℕ))
      → (o >>= λ a. rb a.1 >>= λ b. rc b.1 >>= λ c. one rd (make a.0 b.0 c.0) c.1)
      ≡ ((o >>= λ a. rb a.1 >>= λ b. rc b.1 >>= λ c. Some ((a.0, b.0, c.0), c.1)) >>= last)
  by-first None = refl
  by-first (Some a) = by-second a.0 (rb a.1)

-- ---- the queue's own fields

abbrev with-messages : (ℕ × ℕ × ℕ) × List ℕ → Option (Queue × List ℕ)
with-messages n = one messages_at (queue_of n.0.0 n.0.1 n.0.2) n.1

by-numbers : (bytes : List ℕ) → state_at bytes ≡ (numbers_at bytes >>= with-messages)
unfolding state_at numbers_at
by-numbers bytes = by-first word_at word_at messages_at queue_of (number_upto w32 max_queue_bytes bytes)

-- the numbers, and the messages behind them
pub state-read : (bytes rest behind : List ℕ) (n : ℕ × ℕ × ℕ) (ms : List Message)
    → numbers_at bytes ≡ Some (n, rest) → messages_at rest ≡ Some (ms, behind)
    → state_at bytes ≡ Some (queue_of n.0 n.1 n.2 ms, behind)
state-read bytes rest behind n ms first second = by-numbers bytes ∙ rw (first, second) refl

-- a queue that is read is within the limits
pub within-read : (bytes behind : List ℕ) (q : Queue) → IsBytes bytes → state_at bytes ≡ Some (q, behind)
    → IsWithinLimits q
within-read bytes behind q fits e = limits-of q (state-inverse.takes bytes (q, behind) fits e).1

-- ---- those who wait

-- no waiters, and nothing that is read whole
pub none-whole : (e : UnpackFault) (bytes : List ℕ) → Fails e (waiters_at call_at bytes)
    → Fails e (whole (waiters_at call_at bytes))
none-whole Memory bytes h = tt
none-whole NotABody bytes h = rw h refl

-- something is behind them
pub more-behind : (bytes rest : List ℕ) (ws : List Waiting) → waiters_at call_at bytes ≡ Some (ws, rest)
    → eqb (length rest) 0 ≡ false → whole (waiters_at call_at bytes) ≡ None
more-behind bytes rest ws read more = rw (read, more) refl

-- nothing is behind them
pub none-behind : (bytes rest : List ℕ) (ws : List Waiting) → waiters_at call_at bytes ≡ Some (ws, rest)
    → eqb (length rest) 0 ≡ true → whole (waiters_at call_at bytes) ≡ Some ws
none-behind bytes rest ws read none = rw (read, none) refl

-- they are few
pub few-read : (bytes rest : List ℕ) (ws : List Waiting) → IsBytes bytes
    → waiters_at call_at bytes ≡ Some (ws, rest) → length ws ≤ max_waiters
few-read bytes rest ws fits read =
    ((waiters-inverse IsWaitingCall call_at call-inverse).takes bytes (ws, rest) fits read).1.few

-- ---- all together

-- no numbers
pub no-numbers : (bytes : List ℕ) → numbers_at bytes ≡ None → fields_at bytes ≡ None
unfolding fields_at
no-numbers bytes none = rw (by-numbers bytes, none) refl

-- no messages behind the numbers
pub no-messages : (e : UnpackFault) (bytes rest : List ℕ) (n : ℕ × ℕ × ℕ) → numbers_at bytes ≡ Some (n, rest)
    → Fails e (messages_at rest) → Fails e (fields_at bytes)
unfolding fields_at
no-messages Memory bytes rest n first second = tt
no-messages NotABody bytes rest n first second = rw (by-numbers bytes, first, second) refl

-- nobody who waits is read behind the messages, or more than they
pub no-waiters : (e : UnpackFault) (bytes behind : List ℕ) (q : Queue) → state_at bytes ≡ Some (q, behind)
    → Fails e (whole (waiters_at call_at behind)) → Fails e (fields_at bytes)
unfolding fields_at settled_at
no-waiters Memory bytes behind q first second = tt
no-waiters NotABody bytes behind q first second = rw (first, second) refl

-- the queue and those who wait
pub all-read : (bytes behind : List ℕ) (q : Queue) (ws : List Waiting) → state_at bytes ≡ Some (q, behind)
    → whole (waiters_at call_at behind) ≡ Some ws → fields_at bytes ≡ settled_or_none (awaited q ws)
unfolding fields_at settled_at
all-read bytes behind q ws first second = rw (first, second) refl
