-- The bytes that are read as a queue are its body, and its body is read as it.
use Rattle.std.proofs.Common.{◌≡◌, ◌∙◌, ℕ, ◌≤◌, true, not, eqb, List, [], ◌∷◌, ◌++◌, Option, Some, None, is_some, refl, sym, ap, subst, append-nil, arith}
use Rattle.std.specs.List.{list_all, AllByRecursion}
use Rattle.std.proofs.lemmas.Bool.{and_from, and_parts, eqb-true}
use Rattle.std.proofs.lemmas.Bool.Decides.{nat_tests}
use Rattle.pico_base.specs.declared.fault.UnpackFault.{UnpackFault}
use Rattle.pico_base.specs.declared.fault.UnpackFault.TheVariants.{Memory, NotABody}
use Rattle.kernel_model.specs.Queue.{Queue}
use Rattle.waiting_model.specs.declared.callers.Waiting.{Waiting}
use Rattle.waiting_model.specs.Waiters.{Attempt, Awaited, awaited}
use Rattle.waiting_model.specs.Queue.{try_queue}
use Rattle.body_fields.specs.Fields.{whole}
use Rattle.body_fields.proofs.Fields.{IsBytes, IsBytes-rest, bind_some, guard_ended, guard_then, some_is, whole_is}
use Rattle.frame_bytes.specs.Limits.{is_nonzero}
use Rattle.frame_bytes.specs.Readers.{Fails}
use Rattle.waiter_fields.specs.Ranges.{IsWaiter}
use Rattle.waiter_fields.specs.Waiters.{waiters_at, waiters_field}
use Rattle.waiter_fields.proofs.WaiterLaws.{waiters-inverse}
use Rattle.sysv_msg.specs.Body.{IsBodyOf, IsWaitingCall, queue_code}
use Rattle.sysv_msg.specs.Limits.{AreParked, IsParked, IsWithinLimits}
use Rattle.sysv_msg.specs.Reading.{call_at, fields_at, is_settled, queue_at, settled_at, settled_or_none, state_at, waits}
use Rattle.sysv_msg.proofs.BodyLaws.{IsState, call-inverse, state-inverse, state_field}

-- a queue whose own fields have a spelling is within the limits
pub limits-of : (q : Queue) → IsState q → IsWithinLimits q
limits-of q s =
    record { qbytes = s.qbytes; count = s.messages.few; bytes = s.messages.bytes; each = s.messages.each }

-- ---- whether no call could go on

none-told : (o : Option (Attempt Queue)) → not (is_some o) ≡ true → o ≡ None
none-told None h = refl
none-told (Some a) h = absurd cc

settled-is : (q : Queue) (ws : List Waiting) → list_all (waits q) ws ≡ true
    → AllByRecursion (λ w. try_queue q w.pid w.call ≡ None) ws
settled-is q [] h = tt
settled-is q (w ∷ ws) h =
    let t = and_parts (waits q w) (list_all (waits q) ws) h in
    (none-told (try_queue q w.pid w.call) t.0, settled-is q ws t.1)

is-settled : (q : Queue) (ws : List Waiting) → AllByRecursion (λ w. try_queue q w.pid w.call ≡ None) ws
    → list_all (waits q) ws ≡ true
is-settled q [] h = refl
is-settled q (w ∷ ws) h =
    and_from (waits q w) (list_all (waits q) ws) (ap (λ (o : Option (Attempt Queue)). not (is_some o)) h.0)
    (is-settled q ws h.1)

-- ---- what is read is the body

fields-take : (bytes : List ℕ) (q : Awaited Queue) → IsBytes bytes → fields_at bytes ≡ Some q
    → IsBodyOf q (queue_code ∷ bytes)
unfolding fields_at settled_at
fields-take bytes q fits e =
    let a = bind_some (state_at bytes) (λ s. settled_at s.0 s.1) q e in
    let s = a.0 in
    let b = bind_some (whole (waiters_at call_at s.1)) (λ ws. settled_or_none (awaited s.0 ws)) q a.2 in
    let ws = b.0 in
    let g = guard_ended (is_settled (awaited s.0 ws)) (awaited s.0 ws) q b.2 in
    let t = state-inverse.takes bytes s fits a.1 in
    let read = whole_is (waiters_at call_at s.1) ws b.1 in
    let w = (waiters-inverse IsWaitingCall call_at call-inverse).takes s.1 (ws, []) t.0.rest_fits read in
    let behind : s.1 ≡ waiters_field ws = w.0.parts ∙ append-nil (waiters_field ws) in
    subst (λ (o : Awaited Queue). IsBodyOf o (queue_code ∷ bytes)) g.1
    (record {
      limits = limits-of s.0 t.1;
      waiters = w.1;
      settled = settled-is s.0 ws g.0;
      sender = t.1.sender;
      receiver = t.1.receiver;
      spelled = ap (λ (r : List ℕ). queue_code ∷ r) (t.0.parts ∙ ap (λ (r : List ℕ). state_field s.0 ++ r) behind);
    })

-- the queue that is read from bytes has them as its body
pub body-takes : (bytes : List ℕ) (q : Awaited Queue) → IsBytes bytes → queue_at bytes ≡ Some q → IsBodyOf q bytes
unfolding queue_at
body-takes [] q fits e = absurd cc
body-takes (c ∷ bytes) q fits e =
    let g = guard_then (eqb c queue_code) (fields_at bytes) q e in
    let code : c ≡ queue_code = eqb-true c queue_code g.0 in
    subst (λ (n : ℕ). IsBodyOf q (n ∷ bytes)) (sym code)
    (fields-take bytes q (IsBytes-rest c bytes fits) g.1)

-- ---- and the body is read

state-of : (q : Awaited Queue) (bytes : List ℕ) → IsBodyOf q bytes → IsState q.state
state-of q bytes h =
    record {
      qbytes = h.limits.qbytes;
      sender = h.sender;
      receiver = h.receiver;
      messages = record { few = h.limits.count; bytes = h.limits.bytes; each = h.limits.each };
    }

fields-again : (bytes : List ℕ) (q : Awaited Queue) → IsBodyOf q bytes
    → fields_at (state_field q.state ++ waiters_field q.waiters) ≡ Some q
unfolding fields_at settled_at
fields-again bytes q h =
    let state = state-inverse.again q.state (waiters_field q.waiters) (state-of q bytes h) in
    let read : waiters_at call_at (waiters_field q.waiters) ≡ Some (q.waiters, []) =
    ap (waiters_at call_at) (sym (append-nil (waiters_field q.waiters)))
    ∙ (waiters-inverse IsWaitingCall call_at call-inverse).again q.waiters [] h.waiters in
    let settled = is-settled q.state q.waiters h.settled in
    rw (state, read, settled) refl

-- the body of a queue is read as it
pub body-again : (bytes : List ℕ) (q : Awaited Queue) → IsBodyOf q bytes → queue_at bytes ≡ Some q
unfolding queue_at
body-again bytes q h = ap queue_at h.spelled ∙ fields-again bytes q h

-- bytes are the body of one queue
pub one-queue : (bytes : List ℕ) (p q : Awaited Queue) → queue_at bytes ≡ Some p → IsBodyOf q bytes → p ≡ q
one-queue bytes p q read h = some_is p q (sym read ∙ body-again bytes q h)

none-some : (o : Option (Awaited Queue)) (q : Awaited Queue) → o ≡ None → o ≡ Some q → ⊥
none-some None q none some = absurd cc
none-some (Some p) q none some = absurd cc

-- what is refused as no body is none's
pub no-body : (e : UnpackFault) (bytes : List ℕ) → Fails e (queue_at bytes) → e ≡ NotABody → (q : Awaited Queue)
    → IsBodyOf q bytes → ⊥
no-body Memory bytes told is q h = absurd cc
no-body NotABody bytes told is q h = none-some (queue_at bytes) q told (body-again bytes q h)

-- ---- who waits at a queue that has a body

are-parked : (ws : List Waiting) → AllByRecursion (IsWaiter IsWaitingCall) ws → AllByRecursion IsParked ws
are-parked [] each = tt
are-parked (w ∷ ws) each =
    (record { ticket = positive w.ticket each.0.positive; call = each.0.call.waits }, are-parked ws each.1)
  where
    positive : (n : ℕ) → is_nonzero n ≡ true → 1 ≤ n
    positive n h = grind (arith, nat_tests)

-- they are within the limits of those who wait
pub parked-there : (bytes : List ℕ) (q : Awaited Queue) → IsBodyOf q bytes → AreParked q
parked-there bytes q h =
    record {
      few = h.waiters.few;
      different = h.waiters.different;
      each = are-parked q.waiters h.waiters.each;
      settled = h.settled;
    }
