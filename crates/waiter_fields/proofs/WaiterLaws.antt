-- What is read of those who wait is what was written, and what was written is read again, where that holds of the calls
-- that may wait there.
use Rattle.std.proofs.Common.{◌≡◌, ℕ, ◌≤◌, Bool, true, List, [], ◌∷◌, ◌++◌, refl}
use Rattle.pico_base.specs.declared.call.Call.{Call}
use Rattle.waiting_model.specs.declared.callers.Waiting.{Waiting}
use Rattle.body_fields.specs.Fields.{byte_upto}
use Rattle.body_fields.proofs.Fields.{byte_upto_takes, byte_upto_again}
use Rattle.frame_bytes.specs.Readers.{Reader, counted}
use Rattle.frame_bytes.specs.Fields.{IsNode, IsWord, word}
use Rattle.frame_bytes.specs.Calls.{call_bytes}
use Rattle.frame_bytes.specs.Limits.{is_nonzero}
use Rattle.frame_bytes.specs.Ranges.{HasCallRanges}
use Rattle.std.specs.List.{AllByRecursion}
use Rattle.frame_bytes.proofs.Inverse.{Inverse, Field, Counted, Passes, passing-inverse, counted-inverse, renamed, two-takes, three-takes, two-again, three-again}
use Rattle.frame_bytes.proofs.FieldLaws.{IsPositive, word-field, positive-field, node-field, whole-inverse}
use Rattle.waiter_fields.specs.Waiters.{max_waiters, waiter_field, waiters_field, are_different, processes_of, head_at, waiter_of, waiter_at, waiters_at}
use Rattle.waiter_fields.specs.Ranges.{IsWaiter, AreWaiters, HasWaiterRanges}

-- ---- what stands before a call

-- the caller, the ticket and the process
abbrev Head : Type 0
Head = ℕ × ℕ × ℕ

abbrev IsHead : Head → Type 0
IsHead h = IsNode h.0 × IsPositive h.1 × IsWord h.2

abbrev head_field : Head → List ℕ
head_field h = h.0 ∷ (word h.1 ++ word h.2)

abbrev head-from : ℕ → ℕ → ℕ → Head
head-from caller ticket pid = (caller, ticket, pid)

head-inverse : Inverse Head IsHead head_field head_at
unfolding head_at
head-inverse =
    whole-inverse Head IsHead head_field head_at
    (three-takes Head IsHead head_field ℕ ℕ ℕ node-field positive-field word-field head-from [] (λ a b c. refl)
    (λ a b c p q r. (p, q, r)))
    (λ h rest f. three-again ℕ ℕ ℕ Head node-field positive-field word-field head-from h.0 h.1 h.2 rest f.0 f.1 f.2)

abbrev head-field : Field Head
head-field = record { Fits = IsHead; spell = head_field; read = head_at; inverse = head-inverse }

-- a count is read as it is spelled
count-inverse : Inverse ℕ (λ n. n ≤ max_waiters) (λ n. n ∷ []) (byte_upto max_waiters)
count-inverse = record {
  takes = λ bytes x fits e. byte_upto_takes max_waiters bytes x fits e;
  again = λ n rest le. byte_upto_again max_waiters n rest le;
}

module _ (IsCall : Call → Type 0) (call_at : Reader Call) (inverse : Inverse Call IsCall call_bytes call_at) where
  -- ---- one who waits

  abbrev call-field : Field Call
  call-field = record { Fits = IsCall; spell = call_bytes; read = call_at; inverse = inverse }

  waiter-fits : (h : Head) (c : Call) → IsHead h → IsCall c → IsWaiter IsCall (waiter_of h c)
  waiter-fits h c p q =
      record { caller = p.0; ticket = p.1.0; positive = p.1.1; pid = p.2; call = q }

  pub waiter-inverse : Inverse Waiting (IsWaiter IsCall) waiter_field (waiter_at call_at)
  unfolding waiter_at
  waiter-inverse =
      whole-inverse Waiting (IsWaiter IsCall) waiter_field (waiter_at call_at)
      (two-takes Waiting (IsWaiter IsCall) waiter_field Head Call head-field call-field waiter_of [] (λ h c. refl)
      waiter-fits)
      (λ w rest f. two-again Head Call Waiting head-field call-field waiter_of (w.caller, w.ticket, w.pid) w.call rest
      (f.caller, (f.ticket, f.positive), f.pid) f.call)

  -- ---- all of them

  abbrev are_own : List Waiting → Bool
  are_own ws = are_different (processes_of ws)

  abbrev IsSome-of : List Waiting → Type 0
  IsSome-of ws = Passes (List Waiting) (Counted Waiting (λ n. n ≤ max_waiters) (IsWaiter IsCall)) are_own ws

  there : (ws : List Waiting) → IsSome-of ws → AreWaiters IsCall ws
  there ws p = record { few = p.fits.count; different = p.passes; each = p.fits.each }

  back : (ws : List Waiting) → AreWaiters IsCall ws → IsSome-of ws
  back ws a = record { fits = record { count = a.few; each = a.each }; passes = a.different }

  -- those who wait are read as they are spelled
  pub waiters-inverse : Inverse (List Waiting) (AreWaiters IsCall) waiters_field (waiters_at call_at)
  unfolding waiters_at
  waiters-inverse =
      renamed (List Waiting) IsSome-of (AreWaiters IsCall) waiters_field (waiters_at call_at) there back
      (passing-inverse (List Waiting) (Counted Waiting (λ n. n ≤ max_waiters) (IsWaiter IsCall)) waiters_field
      (counted (byte_upto max_waiters) (waiter_at call_at)) are_own
      (counted-inverse Waiting (λ n. n ≤ max_waiters)
      (λ n. n ∷ []) (byte_upto max_waiters) (IsWaiter IsCall) waiter_field (waiter_at call_at) count-inverse
      waiter-inverse))

-- waiters whose numbers are in the ranges of their types have a spelling, where their calls do
pub are-waiters : (IsCall : Call → Type 0) (ws : List Waiting) → AllByRecursion HasWaiterRanges ws
    → AllByRecursion (λ w. is_nonzero w.ticket ≡ true) ws
    → AllByRecursion (λ w. HasCallRanges w.call → IsCall w.call) ws
    → AllByRecursion (IsWaiter IsCall) ws
are-waiters IsCall [] ranges tickets calls = tt
are-waiters IsCall (w ∷ ws) ranges tickets calls =
    let r = ranges.0.1 in (
      record {
        caller = ranges.0.0;
        ticket = r.ticket;
        positive = tickets.0;
        pid = r.pid;
        call = calls.0 r.call;
      },
      are-waiters IsCall ws ranges.1 tickets.1 calls.1,
    )
