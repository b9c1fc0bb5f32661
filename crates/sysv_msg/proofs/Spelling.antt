-- A queue and those who wait at it have a spelling.
use Rattle.std.proofs.Common.{◌≡◌, ◌∙◌, ℕ, ◌<◌, ◌≤◌, ◌^◌, Bool, true, false, cond, nat_le, ℤ, pos, List, [], ◌∷◌, ◌++◌, length, None, Ok, Err, refl, ap, append_assoc, arith}
use Rattle.std.specs.Prelude.{int_le, nat_lt}
use Rattle.std.specs.List.{AllByRecursion}
use Rattle.std.proofs.lemmas.Bool.{and_parts, false≢true}
use Rattle.std.proofs.lemmas.Bool.Decides.{nat_tests}
use Rattle.pico_base.specs.declared.call.Call.{Call}
use Rattle.pico_base.specs.declared.call.Call.TheVariants as calls
use Rattle.pico_base.specs.declared.reply.Errno.TheVariants.{Einval, Eagain}
use Rattle.kernel_model.specs.Queue.{Queue, has_room, is_sendable, max_text}
use Rattle.waiting_model.specs.declared.callers.Waiting.{Waiting}
use Rattle.waiting_model.specs.Waiters.{Awaited}
use Rattle.waiting_model.specs.Queue.{try_queue, try_send}
use Rattle.frame_bytes.specs.Limits.{is_call, is_nonzero}
use Rattle.frame_bytes.specs.Ranges.{HasCallRanges}
use Rattle.frame_bytes.proofs.FieldLaws.{text-is}
use Rattle.waiter_fields.specs.Ranges.{HasWaiterRanges}
use Rattle.waiter_fields.specs.Waiters.{waiters_field}
use Rattle.waiter_fields.proofs.WaiterLaws.{are-waiters}
use Rattle.sysv_msg.specs.Body.{IsBodyOf, IsWaitingCall, messages_field, numbers_field, queue_code}
use Rattle.sysv_msg.specs.Limits.{AreParked, IsParked, IsWithinLimits, may_wait}

short-text : (n : ℕ) → nat_le n max_text ≡ true → n < 2 ^ 32
short-text n h = grind (arith, nat_tests)

-- a send that waits has a text that a message may have
waiting-send : (q : Queue) (pid id : ℕ) (class : ℤ) (text : List ℕ) (nowait : Bool)
    → try_queue q pid (calls.MsgSnd id class text nowait) ≡ None → is_sendable class text ≡ true
waiting-send q pid id class text nowait waits = by-test (is_sendable class text) waits where
  by-test : (b : Bool)
      → try_send q nowait (cond b (cond (has_room q text) (Ok (record q {
        messages = q.messages ++ record { class = class; text = text } ∷ [];
        last_sender =
            pid;
      })) (Err Eagain)) (Err Einval)) ≡ None → b ≡ true
  by-test true e = refl
  by-test false e = absurd cc

-- a call that waits at a queue has a spelling, where its numbers are in the ranges of their types
waiting-call : (q : Queue) (pid : ℕ) (call : Call) → may_wait call ≡ true → try_queue q pid call ≡ None
    → is_call call ≡ true
waiting-call q pid (calls.MsgSnd id class text nowait) may waits =
    let sendable = waiting-send q pid id class text nowait waits in
    let short = (and_parts (int_le (pos 1) class) (nat_le (length text) max_text) sendable).1 in
    text-is text (short-text (length text) short)
waiting-call q pid (calls.MsgRcv id class size noerror nowait) may waits = refl
waiting-call q pid call may waits = absurd (false≢true may)

pub waiting-calls : (q : Queue) (ws : List Waiting) → AllByRecursion IsParked ws
    → AllByRecursion (λ w. try_queue q w.pid w.call ≡ None) ws
    → AllByRecursion (λ w. is_call w.call ≡ true) ws
waiting-calls q [] each waits = tt
waiting-calls q (w ∷ ws) each waits =
    (waiting-call q w.pid w.call each.0.call waits.0, waiting-calls q ws each.1 waits.1)

tickets : (ws : List Waiting) → AllByRecursion IsParked ws → AllByRecursion (λ w. is_nonzero w.ticket ≡ true) ws
tickets [] each = tt
tickets (w ∷ ws) each = (at-least-one w.ticket each.0.ticket, tickets ws each.1) where
  at-least-one : (n : ℕ) → 1 ≤ n → nat_lt 0 n ≡ true
  at-least-one n h = grind (arith, nat_tests)

calls-fit : (ws : List Waiting) → AllByRecursion IsParked ws → AllByRecursion (λ w. is_call w.call ≡ true) ws
    → AllByRecursion (λ w. HasCallRanges w.call → IsWaitingCall w.call) ws
calls-fit [] each within = tt
calls-fit (w ∷ ws) each within = (
  λ ranges. record { waits = each.0.call; ranges = ranges; within = within.0 },
  calls-fit ws each.1 within.1,
)

-- what was written is the body of the queue
pub is-body : (q : Awaited Queue) (first all : List ℕ) → AreParked q → IsWithinLimits q.state
    → q.state.last_sender < 2 ^ 32 → q.state.last_receiver < 2 ^ 32 → AllByRecursion HasWaiterRanges q.waiters
    → first ≡ queue_code ∷ (numbers_field q.state ++ messages_field q.state.messages)
    → all ≡ first ++ waiters_field q.waiters → IsBodyOf q all
is-body q first all p limits sender receiver ranges own behind =
    let within = waiting-calls q.state q.waiters p.each p.settled in
    let each = are-waiters IsWaitingCall q.waiters ranges (tickets q.waiters p.each)
    (calls-fit q.waiters p.each within) in
    record {
      limits = limits;
      waiters = record { few = p.few; different = p.different; each = each };
      settled = p.settled;
      sender = sender;
      receiver = receiver;
      spelled = behind ∙ ap (λ (f : List ℕ). f ++ waiters_field q.waiters) own
          ∙ ap (λ (r : List ℕ). queue_code ∷ r)
          (append_assoc (numbers_field q.state) (messages_field q.state.messages) (waiters_field q.waiters));
    }
