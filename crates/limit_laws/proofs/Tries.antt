-- What a call comes to that is tried at a queue or a set within the limits: these stay so, with a short reply, or the
-- call has to wait, and then it is a short one.
use Rattle.std.proofs.Common.{◌≡◌, ℕ, ℤ, pos, ◌≤◌, Bool, true, false, ◌&&◌, cond, length, List, [], ◌∷◌, ◌++◌, Option, Some, None, Result, Ok, Err, refl, arith}
use Rattle.std.proofs.lemmas.Bool.{and_parts, leb-true}
use Rattle.std.proofs.lemmas.List.{length-append}
use Rattle.std.specs.Prelude.{int_le, nat_le}
use Rattle.frame_bytes.specs.Calls.{call_bytes, step_field}
use Rattle.frame_bytes.specs.Fields.{flag_byte}
use Rattle.kernel_laws.proofs.Plain.{by_test}
use Rattle.kernel_laws.proofs.QueueLaws.{queue-within-rule}
use Rattle.kernel_laws.proofs.SetLaws.{set-within-rule}
use Rattle.kernel_laws.specs.Queues.{IsQueueWithinLimits}
use Rattle.kernel_laws.specs.Sets.{IsSetWithinLimits}
use Rattle.kernel_model.specs.Queue.{Queue, Received, has_room, is_sendable, max_text, receive, send, set_qbytes}
use Rattle.kernel_model.specs.SemaphoreSet.{SemaphoreSet, last_at, max_operations, op, set_all, set_value, value_at}
use Rattle.limit_laws.proofs.Plain.{fields-length}
use Rattle.limit_laws.proofs.Replies.{fail-is-short, num-is-short, stat-is-short, IsShortReceived, received-is-short, message-is-short, values-are-short}
use Rattle.limit_laws.specs.Within.{IsReplyShort}
use Rattle.pico_base.specs.declared.call.Call.TheVariants as calls
use Rattle.pico_base.specs.declared.call.Call.{Call}
use Rattle.pico_base.specs.declared.call.SemStep.{SemStep}
use Rattle.pico_base.specs.declared.reply.Errno.TheVariants.{Eagain, Einval, Enomsg}
use Rattle.pico_base.specs.declared.reply.Errno.{Errno}
use Rattle.waiting_model.specs.Queue.{stopped, try_queue, try_receive, try_send}
use Rattle.waiting_model.specs.SemaphoreSet.{are_tried, stop_of, try_op, try_set, waits_for}
use Rattle.waiting_model.specs.Waiters.{Attempt, Try, changed, looked_up, refused}

-- the state afterwards is like this, and the reply is short
pub record IsAttemptWithin {T : Type 0} (IsLike : T → Type 0) (a : Attempt T) : Type 0 where
  pub state : IsLike a.state
  pub reply : IsReplyShort a.reply

-- or the call has to wait, and is short
abbrev pub ComesWithin : {T : Type 0} → (T → Type 0) → Call → Option (Attempt T) → Type 0
ComesWithin IsLike call None = length (call_bytes call) ≤ 4110
ComesWithin IsLike call (Some a) = IsAttemptWithin IsLike a

-- and so it is with each call
abbrev pub TriesWithin : {T : Type 0} → (T → Type 0) → Try T → Type 0
TriesWithin {T} IsLike try =
    (state : T) (pid : ℕ) (call : Call) → IsLike state → ComesWithin IsLike call (try state pid call)

module _ {T : Type 0} (IsLike : T → Type 0) (state : T) (like : IsLike state) where
  refused-within : (e : Errno) → IsAttemptWithin IsLike (refused state e)
  refused-within e = record { state = like; reply = fail-is-short e }

  changed-within : (r : Result T Errno) → ((next : T) → r ≡ Ok next → IsLike next)
      → IsAttemptWithin IsLike (changed state r)
  changed-within (Ok next) h = record { state = h next refl; reply = num-is-short 0 }
  changed-within (Err e) h = refused-within e

  looked-within : (r : Result ℕ Errno) → IsAttemptWithin IsLike (looked_up state r)
  looked-within (Ok n) = record { state = like; reply = num-is-short n }
  looked-within (Err e) = refused-within e

  stopped-within : (call : Call) (nowait : Bool) (e : Errno) → length (call_bytes call) ≤ 4110
      → ComesWithin IsLike call (stopped state nowait e)
  stopped-within call nowait e short =
      by_test (ComesWithin IsLike call) nowait (Some (refused state e)) None (λ _. refused-within e) (λ _. short)

-- ---- at a queue

-- a send that finds no room has a text that a message may have
stopped-is-sendable : (q : Queue) (pid : ℕ) (class : ℤ) (text : List ℕ) → send q pid class text ≡ Err Eagain
    → length text ≤ max_text
stopped-is-sendable q pid class text is = by (is_sendable class text) (has_room q text) refl is
  where
    by : (sendable room : Bool) → is_sendable class text ≡ sendable
        → (let sent : Result Queue Errno =
        cond sendable
        (cond room
        (Ok (record q { messages = q.messages ++ record { class = class; text = text } ∷ []; last_sender = pid }))
        (Err Eagain))
        (Err Einval)
        in sent ≡ Err Eagain)
        → length text ≤ max_text
    by true room can e =
        leb-true (length text) max_text (and_parts (int_le (pos 1) class) (nat_le (length text) max_text) can).1
    by false room can e = absurd cc

send-is-short : (id : ℕ) (class : ℤ) (text : List ℕ) (nowait : Bool) → length text ≤ max_text
    → length (call_bytes (calls.MsgSnd id class text nowait)) ≤ 4110
send-is-short id class text nowait few =
    let whole = length-append text (flag_byte nowait ∷ []) in omega (arith, whole, few)

sent-within : (q : Queue) (pid id : ℕ) (class : ℤ) (text : List ℕ) (nowait : Bool) (r : Result Queue Errno)
    → IsQueueWithinLimits q → send q pid class text ≡ r
    → ComesWithin IsQueueWithinLimits (calls.MsgSnd id class text nowait) (try_send q nowait r)
sent-within q pid id class text nowait (Ok next) k is =
    record { state = queue-within-rule.sent q pid class text next k is; reply = num-is-short 0 }
sent-within q pid id class text nowait (Err Eagain) k is =
    stopped-within IsQueueWithinLimits q k (calls.MsgSnd id class text nowait) nowait Eagain
    (send-is-short id class text nowait (stopped-is-sendable q pid class text is))
sent-within q pid id class text nowait (Err e) k is = refused-within IsQueueWithinLimits q k e

taken-within : (q : Queue) (pid id : ℕ) (class : ℤ) (size : ℕ) (noerror nowait : Bool) (r : Result Received Errno)
    → IsQueueWithinLimits q → receive q pid class size noerror ≡ r → IsShortReceived r
    → ComesWithin IsQueueWithinLimits (calls.MsgRcv id class size noerror nowait) (try_receive q nowait r)
taken-within q pid id class size noerror nowait (Ok r) k is short =
    record {
      state = queue-within-rule.taken_from q pid class size noerror r k is;
      reply = message-is-short r.message short;
    }
taken-within q pid id class size noerror nowait (Err Enomsg) k is short =
    stopped-within IsQueueWithinLimits q k (calls.MsgRcv id class size noerror nowait) nowait Enomsg (omega arith)
taken-within q pid id class size noerror nowait (Err e) k is short = refused-within IsQueueWithinLimits q k e

-- a call that is tried at a queue within the limits
pub queue-tries-within : TriesWithin IsQueueWithinLimits try_queue
queue-tries-within q pid (calls.MsgSnd id class text nowait) k =
    sent-within q pid id class text nowait (send q pid class text) k refl
queue-tries-within q pid (calls.MsgRcv id class size noerror nowait) k =
    taken-within q pid id class size noerror nowait (receive q pid class size noerror) k refl
    (received-is-short q pid class size noerror k)
queue-tries-within q pid (calls.MsgStat id) k = record { state = k; reply = stat-is-short q }
queue-tries-within q pid (calls.MsgSet id qbytes) k =
    changed-within IsQueueWithinLimits q k (set_qbytes q qbytes)
    (λ next is. queue-within-rule.limited q qbytes next k is)
queue-tries-within q pid call k = refused-within IsQueueWithinLimits q k Einval

-- ---- at a set

-- operations that may be tried are short
pub operation-is-short : (id : ℕ) (steps : List SemStep) → length steps ≤ max_operations
    → length (call_bytes (calls.SemOp id steps)) ≤ 4110
operation-is-short id steps few =
    let each = fields-length step_field 7 steps (λ _. refl) in omega (arith, few, each)

tried-are-few : (set : SemaphoreSet) (steps : List SemStep) → are_tried set steps ≡ true
    → length steps ≤ max_operations
tried-are-few set steps tried =
    leb-true (length steps) max_operations (and_parts (nat_le (length steps) max_operations) _ tried).0

operated-within : (set : SemaphoreSet) (pid id : ℕ) (steps : List SemStep) → IsSetWithinLimits set
    → ComesWithin IsSetWithinLimits (calls.SemOp id steps) (try_op set pid steps)
operated-within set pid id steps k =
    by_test (ComesWithin IsSetWithinLimits (calls.SemOp id steps))
    (are_tried set steps && waits_for (stop_of set steps)) None (Some (changed set (op set pid steps)))
    (λ waits. operation-is-short id steps (tried-are-few set steps (and_parts (are_tried set steps) _ waits).0))
    (λ _. changed-within IsSetWithinLimits set k (op set pid steps)
    (λ next is. set-within-rule.operated set pid steps next k is))

-- a call that is tried at a set within the limits
pub set-tries-within : TriesWithin IsSetWithinLimits try_set
set-tries-within set pid (calls.SemOp id steps) k = operated-within set pid id steps k
set-tries-within set pid (calls.SemGetVal id num) k = looked-within IsSetWithinLimits set k (value_at set num)
set-tries-within set pid (calls.SemGetPid id num) k = looked-within IsSetWithinLimits set k (last_at set num)
set-tries-within set pid (calls.SemSetVal id num value) k =
    changed-within IsSetWithinLimits set k (set_value set num value)
    (λ next is. set-within-rule.one_set set num value next k is)
set-tries-within set pid (calls.SemGetAll id) k = record { state = k; reply = values-are-short set k.most }
set-tries-within set pid (calls.SemSetAll id values) k =
    changed-within IsSetWithinLimits set k (set_all set values)
    (λ next is. set-within-rule.filled set values next k is)
set-tries-within set pid call k = refused-within IsSetWithinLimits set k Einval
