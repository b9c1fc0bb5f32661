-- Callers that wait at a queue or a set, as bytes in its body (profile): a count in one byte, and of each what a frame
-- brings of a call that was asked for: the node of the caller, the ticket, the process number, and the call.
use Rattle.std.specs.Prelude.{ℕ, Bool, true, not, ◌&&◌, nat_eq, List, [], ◌∷◌, length, map}
use Rattle.std.specs.List.{flat_map, list_any}
use Rattle.pico_base.specs.declared.call.Call.{Call}
use Rattle.rpc_frame.specs.declared.asked.Asked.{Asked}
use Rattle.body_fields.specs.Fields.{byte_upto}
use Rattle.frame_bytes.specs.Readers.{Reader, counted, passing, three, two}
use Rattle.frame_bytes.specs.Fields.{node_at, positive_at, word_at}
use Rattle.frame_bytes.specs.Frames.{asked_field}
use Rattle.waiting_model.specs.declared.callers.Waiting.{Waiting}

-- so many wait at one queue or set at most
abbrev pub max_waiters : ℕ
max_waiters = 32

-- one who waits, as a call that was asked for
abbrev pub asked_of : Waiting → Asked
asked_of w = record { caller = w.caller; ticket = w.ticket; pid = w.pid; call = w.call }

abbrev pub waiter_field : Waiting → List ℕ
waiter_field w = asked_field (asked_of w)

abbrev pub waiters_field : List Waiting → List ℕ
waiters_field ws = length ws ∷ flat_map waiter_field ws

-- no number stands there twice
abbrev pub are_different : List ℕ → Bool
are_different [] = true
are_different (n ∷ ns) = not (list_any (nat_eq n) ns) && are_different ns

abbrev pub processes_of : List Waiting → List ℕ
processes_of ws = map (λ w. w.pid) ws

-- Reading. Which calls may wait there, and how they are read, is up to the queue or the set.

-- what stands before a waiter's call: the caller, the ticket and the process
unfoldable pub head_at : Reader (ℕ × ℕ × ℕ)
head_at bytes = three node_at positive_at word_at (λ caller ticket pid. (caller, ticket, pid)) bytes

abbrev pub waiter_of : ℕ × ℕ × ℕ → Call → Waiting
waiter_of head call = record { caller = head.0; ticket = head.1; pid = head.2; call = call }

unfoldable pub waiter_at : Reader Call → Reader Waiting
waiter_at call_at bytes = two head_at call_at waiter_of bytes

-- those who wait, no two of one process
unfoldable pub waiters_at : Reader Call → Reader (List Waiting)
waiters_at call_at bytes =
    passing (λ ws. are_different (processes_of ws)) (counted (byte_upto max_waiters) (waiter_at call_at)) bytes
