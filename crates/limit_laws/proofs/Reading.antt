-- The body that bytes are read as is within the limits, where it is a queue's or a set's. The numbers that stand for
-- bytes may be any.
use Rattle.std.proofs.Common.{◌≡◌, ℕ, zero, suc, ◌≤◌, Bool, true, false, not, eqb, ltb, ℤ, ◌≤ℤ◌, pos, List, [], ◌∷◌, length, Option, Some, None, is_some, refl, subst, arith}
use Rattle.std.proofs.lemmas.Bool.{and_parts, false≢true, leb-true, ltb-false, or_parts}
use Rattle.std.proofs.lemmas.Int.{ints}
use Rattle.std.proofs.lemmas.List.Elements.{All-from_recursion}
use Rattle.std.specs.Int.{w16, w32}
use Rattle.std.specs.List.{AllByRecursion, list_all}
use Rattle.std.specs.Option.{option_map}
use Rattle.std.specs.Prelude.{◌==◌, int_le, nat_le, nat_lt}
use Rattle.sysv_msg.specs.Reading.{call_at, class_at, fields_at as queue_fields_at, is_settled as is_queue_settled, message_at, message_of, messages_at, queue_at, queue_of, settled_at, settled_or_none, short_at, state_at, waits}
use Rattle.sysv_sem.specs.Reading.{fields_at as set_fields_at, have_own, is_good_count, is_settled as is_set_settled, is_short_op, row_at, semaphore_at, set_at, waiter_at as set_waiter_at, waiters_at as set_waiters_at, waiting_of}
use Rattle.body_fields.proofs.Fields.{bind_some, guard_ended, guard_then}
use Rattle.body_fields.specs.Fields.{byte_upto, number_upto, whole}
use Rattle.frame_bytes.specs.Calls.{asked_call_at, call_bytes}
use Rattle.frame_bytes.specs.Fields.{node_at, positive_at, signed_at, text_at, word_at}
use Rattle.frame_bytes.specs.Frames.{asked_at, asked_of}
use Rattle.frame_bytes.specs.Readers.{byte_at, counted, one, passing, two}
use Rattle.kernel_laws.proofs.Plain.{by_test, Of, of-map}
use Rattle.kernel_laws.specs.Queues.{IsMessage, IsQueueWithinLimits}
use Rattle.kernel_model.specs.Queue.{Message, Queue, bytes_of, max_messages, max_queue_bytes, max_text}
use Rattle.kernel_model.specs.SemaphoreSet.{Semaphore, SemaphoreSet, is_bad_count, max_operations, max_semaphores, max_value, set_of}
use Rattle.limit_laws.proofs.Plain.{nonzero-some}
use Rattle.limit_laws.proofs.Read.{Any, Gets, got-whole, gets-any, gets-byte-upto, gets-counted, gets-four, gets-more, gets-one, gets-passing, gets-three, gets-two, gets-upto}
use Rattle.limit_laws.proofs.Tries.{ComesWithin, operation-is-short, queue-tries-within}
use Rattle.limit_laws.specs.Bodies.{AreWaitersWithin, IsQueueWithin, IsSetWithin, IsWaiterWithin}
use Rattle.limit_laws.specs.Within.{IsBodyWithin}
use Rattle.node_model.specs.Bodies.{AQueue, ASet, Removed}
use Rattle.node_model.specs.Kinds.{is_object}
use Rattle.node_model.specs.Spelling.{alone, read_body, read_deed, read_queue, read_set}
use Rattle.pico_base.specs.declared.call.Call.TheVariants as calls
use Rattle.pico_base.specs.declared.call.Call.{Call}
use Rattle.pico_base.specs.declared.numbers.Name.TheVariants.{Proc, Msg, Sem}
use Rattle.pico_base.specs.declared.numbers.Name.{Name}
use Rattle.rpc_frame.specs.declared.asked.Asked.{Asked}
use Rattle.rpc_frame.specs.declared.deed.PackedDeed.{PackedDeed}
use Rattle.waiter_fields.specs.Waiters.{are_different, head_at, max_waiters, processes_of, waiter_at, waiter_of, waiters_at}
use Rattle.waiting_model.specs.Queue.{try_queue}
use Rattle.waiting_model.specs.Waiters.{Attempt, Awaited, awaited}
use Rattle.waiting_model.specs.declared.callers.Waiting.{Waiting}

-- a number that is at least 1
positive-within : Gets (λ n. 1 ≤ n) positive_at
unfolding positive_at
positive-within =
    gets-more (λ n. Any n × (nat_lt 0 n ≡ true)) (λ n. 1 ≤ n) (passing (nat_lt 0) word_at)
    (gets-passing Any (nat_lt 0) word_at (gets-any word_at)) (λ n h. nonzero-some n h.1)

-- ---- a queue's messages

at-least-one : (z : ℤ) → int_le (pos 1) z ≡ true → pos 1 ≤ℤ z
at-least-one z e = grind (arith, ints)

class-within : Gets (λ z. pos 1 ≤ℤ z) class_at
unfolding class_at
class-within =
    gets-more (λ z. Any z × (int_le (pos 1) z ≡ true)) (λ z. pos 1 ≤ℤ z) (passing (int_le (pos 1)) signed_at)
    (gets-passing Any (int_le (pos 1)) signed_at (gets-any signed_at)) (λ z h. at-least-one z h.1)

short-within : Gets (λ text. length text ≤ 4096) short_at
unfolding short_at
short-within =
    gets-more (λ text. Any text × (nat_le (length text) max_text ≡ true)) (λ text. length text ≤ 4096)
    (passing (λ text. nat_le (length text) max_text) text_at)
    (gets-passing Any (λ text. nat_le (length text) max_text) text_at (gets-any text_at))
    (λ text h. leb-true (length text) 4096 h.1)

message-within : Gets IsMessage message_at
unfolding message_at
message-within =
    gets-two IsMessage (λ z. pos 1 ≤ℤ z) (λ text. length text ≤ 4096) class_at short_at message_of class-within
    short-within (λ class text p q. record { class = p; text = q })

-- the messages of a queue, which aren't too many, nor too long together
record AreMessages (ms : List Message) : Type 0 where
  pub count : length ms ≤ 1024
  pub bytes : bytes_of ms ≤ 16384
  pub each : AllByRecursion IsMessage ms

messages-within : Gets AreMessages messages_at
unfolding messages_at
messages-within =
    gets-more
    (λ ms. ((length ms ≤ max_messages) × AllByRecursion IsMessage ms) × (nat_le (bytes_of ms) max_queue_bytes ≡ true))
    AreMessages
    (passing (λ ms. nat_le (bytes_of ms) max_queue_bytes) (counted (number_upto w16 max_messages) message_at))
    (gets-passing (λ ms. (length ms ≤ max_messages) × AllByRecursion IsMessage ms)
    (λ ms. nat_le (bytes_of ms) max_queue_bytes) (counted (number_upto w16 max_messages) message_at)
    (gets-counted (λ n. n ≤ max_messages) IsMessage (number_upto w16 max_messages) message_at
    (gets-upto w16 max_messages) message-within))
    (λ ms h. record { count = h.0.0; bytes = leb-true (bytes_of ms) max_queue_bytes h.1; each = h.0.1 })

state-within : Gets IsQueueWithinLimits state_at
unfolding state_at
state-within =
    gets-four IsQueueWithinLimits (λ n. n ≤ max_queue_bytes) Any Any AreMessages (number_upto w32 max_queue_bytes)
    word_at word_at messages_at queue_of (gets-upto w32 max_queue_bytes) (gets-any word_at) (gets-any word_at)
    messages-within
    (λ qbytes sender receiver ms p q r s. record {
      limit = p;
      bytes = s.bytes;
      count = s.count;
      messages = All-from_recursion IsMessage ms s.each;
    })

-- ---- those who wait at a queue

abbrev HasTicket : Waiting → Type 0
HasTicket w = 1 ≤ w.ticket

head-within : Gets (λ (head : ℕ × ℕ × ℕ). 1 ≤ head.1) head_at
unfolding head_at
head-within =
    gets-three (λ (head : ℕ × ℕ × ℕ). 1 ≤ head.1) Any (λ n. 1 ≤ n) Any node_at positive_at word_at
    (λ caller ticket pid. (caller, ticket, pid)) (gets-any node_at) positive-within (gets-any word_at)
    (λ caller ticket pid p q r. q)

waiter-within : Gets HasTicket (waiter_at call_at)
unfolding waiter_at
waiter-within =
    gets-two HasTicket (λ (head : ℕ × ℕ × ℕ). 1 ≤ head.1) Any head_at call_at waiter_of head-within (gets-any call_at)
    (λ head call p q. p)

waiters-read : Gets (λ ws. (length ws ≤ max_waiters) × AllByRecursion HasTicket ws) (waiters_at call_at)
unfolding waiters_at
waiters-read =
    gets-more
    (λ ws. ((length ws ≤ max_waiters) × AllByRecursion HasTicket ws) × (are_different (processes_of ws) ≡ true))
    (λ ws. (length ws ≤ max_waiters) × AllByRecursion HasTicket ws)
    (passing (λ ws. are_different (processes_of ws)) (counted (byte_upto max_waiters) (waiter_at call_at)))
    (gets-passing (λ ws. (length ws ≤ max_waiters) × AllByRecursion HasTicket ws)
    (λ ws. are_different (processes_of ws)) (counted (byte_upto max_waiters) (waiter_at call_at))
    (gets-counted (λ n. n ≤ max_waiters) HasTicket (byte_upto max_waiters) (waiter_at call_at)
    (gets-byte-upto max_waiters) waiter-within)) (λ ws h. h.0)

-- a call that can't go on is short
stopped-is-short : (call : Call) (o : Option (Attempt Queue)) → ComesWithin IsQueueWithinLimits call o
    → not (is_some o) ≡ true → length (call_bytes call) ≤ 4110
stopped-is-short call None comes stops = comes
stopped-is-short call (Some a) comes stops = absurd (false≢true stops)

settled-within : (q : Queue) (ws : List Waiting) → IsQueueWithinLimits q → AllByRecursion HasTicket ws
    → list_all (waits q) ws ≡ true → AllByRecursion IsWaiterWithin ws
settled-within q [] k all settled = tt
settled-within q (w ∷ ws) k all settled =
    let stops = and_parts (waits q w) (list_all (waits q) ws) settled
    in (
      record {
        ticket = all.0;
        short = stopped-is-short w.call (try_queue q w.pid w.call) (queue-tries-within q w.pid w.call k) stops.0;
      },
      settled-within q ws k all.1 stops.1,
    )

queue-fields-within : (bytes : List ℕ) (q : Awaited Queue) → queue_fields_at bytes ≡ Some q → IsQueueWithin q
unfolding queue_fields_at settled_at
queue-fields-within bytes q e =
    let state = bind_some (state_at bytes) (λ x. settled_at x.0 x.1) q e
    in let ws =
    bind_some (whole (waiters_at call_at state.0.1)) (λ x. settled_or_none (awaited state.0.0 x)) q state.2
    in let made : Awaited Queue = awaited state.0.0 ws.0
    in let settled = guard_ended (is_queue_settled made) made q ws.2
    in let k : IsQueueWithinLimits state.0.0 = state-within bytes state.0 state.1
    in let all =
    got-whole (λ xs. (length xs ≤ max_waiters) × AllByRecursion HasTicket xs) (waiters_at call_at) state.0.1 ws.0
    waiters-read ws.1
    in subst IsQueueWithin settled.1
    (record {
      state = k;
      waiters = record { few = all.0; each = settled-within state.0.0 ws.0 k all.1 settled.0 };
    })

queue-within : (bytes : List ℕ) (q : Awaited Queue) → queue_at bytes ≡ Some q → IsQueueWithin q
unfolding queue_at
queue-within [] q e = absurd cc
queue-within (code ∷ bytes) q e = queue-fields-within bytes q (guard_then (eqb code 4) (queue_fields_at bytes) q e).1

-- ---- a set

abbrev HasLowValue : Semaphore → Type 0
HasLowValue s = s.value ≤ 32767

semaphore-within : Gets HasLowValue semaphore_at
unfolding semaphore_at
semaphore-within =
    gets-two HasLowValue (λ n. n ≤ max_value) Any (number_upto w16 max_value) word_at
    (λ value last. record { value = value; last = last }) (gets-upto w16 max_value) (gets-any word_at)
    (λ value last p q. p)

some-count : (n : ℕ) → eqb n 0 ≡ false → 1 ≤ n
some-count zero e = absurd cc
some-count (suc n) e = omega arith

not-true : (b : Bool) → not b ≡ true → b ≡ false
not-true false h = refl
not-true true h = absurd (false≢true h)

good-count : (n : ℕ) → is_good_count n ≡ true → (1 ≤ n) × (n ≤ 64)
good-count n good =
    let bad = or_parts (eqb n 0) (ltb max_semaphores n) (not-true (is_bad_count n) good)
    in (some-count n bad.0, ltb-false _ _ bad.1)

-- the semaphores of a set, some and not too many
record AreSemaphores (row : List Semaphore) : Type 0 where
  pub count : (1 ≤ length row) × (length row ≤ 64)
  pub each : AllByRecursion HasLowValue row

row-within : Gets AreSemaphores row_at
unfolding row_at
row-within =
    gets-more (λ row. (Any (length row) × (is_good_count (length row) ≡ true)) × AllByRecursion HasLowValue row)
    AreSemaphores (counted (passing is_good_count byte_at) semaphore_at)
    (gets-counted (λ n. Any n × (is_good_count n ≡ true)) HasLowValue (passing is_good_count byte_at) semaphore_at
    (gets-passing Any is_good_count byte_at (gets-any byte_at)) semaphore-within)
    (λ row h. record { count = good-count (length row) h.0.1; each = h.1 })

-- ---- those who wait at a set

asked-within : Gets (λ (asked : Asked). 1 ≤ asked.ticket) asked_at
unfolding asked_at
asked-within =
    gets-four (λ (asked : Asked). 1 ≤ asked.ticket) Any (λ n. 1 ≤ n) Any Any node_at positive_at word_at asked_call_at
    asked_of (gets-any node_at) positive-within (gets-any word_at) (gets-any asked_call_at)
    (λ caller ticket pid call p q r s. q)

short-op-is-short : (call : Call) → is_short_op call ≡ true → length (call_bytes call) ≤ 4110
short-op-is-short (calls.SemOp id steps) h = operation-is-short id steps (leb-true (length steps) max_operations h)
short-op-is-short call h = absurd (false≢true h)

set-waiter-within : Gets IsWaiterWithin set_waiter_at
unfolding set_waiter_at
set-waiter-within =
    gets-more (λ w. HasTicket w × (is_short_op w.call ≡ true)) IsWaiterWithin
    (passing (λ w. is_short_op w.call) (one asked_at waiting_of))
    (gets-passing HasTicket (λ w. is_short_op w.call) (one asked_at waiting_of)
    (gets-one HasTicket (λ (asked : Asked). 1 ≤ asked.ticket) asked_at waiting_of asked-within (λ asked p. p)))
    (λ w h. record { ticket = h.0; short = short-op-is-short w.call h.1 })

set-waiters-within : Gets AreWaitersWithin set_waiters_at
unfolding set_waiters_at
set-waiters-within =
    gets-more (λ ws. ((length ws ≤ max_waiters) × AllByRecursion IsWaiterWithin ws) × (have_own ws ≡ true))
    AreWaitersWithin (passing have_own (counted (byte_upto max_waiters) set_waiter_at))
    (gets-passing (λ ws. (length ws ≤ max_waiters) × AllByRecursion IsWaiterWithin ws) have_own
    (counted (byte_upto max_waiters) set_waiter_at)
    (gets-counted (λ n. n ≤ max_waiters) IsWaiterWithin (byte_upto max_waiters) set_waiter_at
    (gets-byte-upto max_waiters) set-waiter-within)) (λ ws h. record { few = h.0.0; each = h.0.1 })

set-fields-within : Gets IsSetWithin set_fields_at
unfolding set_fields_at
set-fields-within =
    gets-more (λ s. IsSetWithin s × (is_set_settled s ≡ true)) IsSetWithin
    (passing is_set_settled (two row_at set_waiters_at (λ row ws. awaited (set_of row) ws)))
    (gets-passing IsSetWithin is_set_settled (two row_at set_waiters_at (λ row ws. awaited (set_of row) ws))
    (gets-two IsSetWithin AreSemaphores AreWaitersWithin row_at set_waiters_at
    (λ row ws. awaited (set_of row) ws) row-within set-waiters-within
    (λ row ws p q. record {
      state = record {
        least = p.count.0;
        most = p.count.1;
        values =
            All-from_recursion HasLowValue row p.each;
      };
      waiters = q;
    })))
    (λ s h. h.0)

set-within : (bytes : List ℕ) (s : Awaited SemaphoreSet) → set_at bytes ≡ Some s → IsSetWithin s
unfolding set_at
set-within [] s e = absurd cc
set-within (code ∷ bytes) s e =
    got-whole IsSetWithin set_fields_at bytes s set-fields-within
    (guard_then (eqb code 5) (whole (set_fields_at bytes)) s e).1

-- ---- a deed

module _ (own most : ℕ) where
  removed-queue : (id : ℕ) (bytes : List ℕ) → Of (IsBodyWithin own most (Msg id)) (alone Removed bytes)
  removed-queue id [] = tt
  removed-queue id (b ∷ bytes) = tt

  removed-set : (id : ℕ) (bytes : List ℕ) → Of (IsBodyWithin own most (Sem id)) (alone Removed bytes)
  removed-set id [] = tt
  removed-set id (b ∷ bytes) = tt

  body-read : (name : Name) (bytes : List ℕ) → is_object name ≡ true
      → Of (IsBodyWithin own most name) (read_body name bytes)
  unfolding read_body read_queue read_set
  body-read (Proc pid) bytes object = absurd (false≢true object)
  body-read (Msg id) [] object = tt
  body-read (Msg id) (code ∷ bytes) object =
      by_test (Of (IsBodyWithin own most (Msg id))) (code == 6) (alone Removed bytes)
      (option_map AQueue (queue_at (code ∷ bytes))) (λ _. removed-queue id bytes)
      (λ _. of-map (IsBodyWithin own most (Msg id)) (queue_at (code ∷ bytes)) AQueue
      (λ q is. queue-within (code ∷ bytes) q is))
  body-read (Sem id) [] object = tt
  body-read (Sem id) (code ∷ bytes) object =
      by_test (Of (IsBodyWithin own most (Sem id))) (code == 6) (alone Removed bytes)
      (option_map ASet (set_at (code ∷ bytes))) (λ _. removed-set id bytes)
      (λ _. of-map (IsBodyWithin own most (Sem id)) (set_at (code ∷ bytes)) ASet
      (λ s is. set-within (code ∷ bytes) s is))

  -- The body that a deed on its way is read as is within the limits.
  pub deed-read : (deed : PackedDeed) → is_object deed.name ≡ true
      → Of (IsBodyWithin own most deed.name) (read_deed deed)
  unfolding read_deed
  deed-read deed object = body-read deed.name deed.body object
