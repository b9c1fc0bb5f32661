-- A call that a signal has interrupted: its withdrawal is in the place that is said, or nowhere, where the call doesn't
-- come to wait.
use Rattle.std.proofs.Common.{◌≡◌, ◌≢◌, Bool, true, false, if◌then◌else◌, ℕ, Option, Some, None, is_some, refl, ap, sym, subst, ◌∙◌}
use Rattle.std.specs.Option.{option_and_then}
use Rattle.std.proofs.lemmas.Bool.{false≢true}
use Rattle.pico_base.specs.declared.call.Call.{Call}
use Rattle.kernel_laws.proofs.Plain.{not_none}
use Rattle.waiting_model.specs.Calls.{may_park, waits_at}
use Rattle.node_model.specs.Caller.{Caller, if_it_waits, to_cancel}
use Rattle.world_laws.specs.Places.{CallPlace, InAsk, SentByPlace, SentByRange, IsHeld, IsInHand, Parked, Waits, InAnswer, NoCancel}
use Rattle.world_laws.specs.Cancels.{CancelHolds, CancelSight, FollowsItsCall, LeadsNowhere, MayBeInterrupted, OfCall, Owing, Nothing, AStrike, asked_as, has_reply, is_owed, is_struck, may_follow}
use Rattle.world_laws.proofs.Cancels.{may_be_withdrawn}
use Rattle.world_laws.proofs.Following.{WaitsAt, waits-at, withdrawal}
use Rattle.world_laws.proofs.Pairs.{is_for_waiting}

-- of the call under way that waits and has no reply
pub record IsInterrupted (p : ℕ) (x : CancelSight) (call : Call) : Type 0 where
  pub follows : FollowsItsCall p x (asked_as x call) (withdrawal x call)
  pub pair : may_follow x.cancel x.call ≡ true
  pub noted : x.caller.noted ≡ true
  pub struck : is_struck x.alive ≡ true
  pub nowhere : x.cancel ≡ NoCancel → LeadsNowhere x (waits_at x.pid call)

-- so all is said of it, whether a strike is owed or not
pub interrupted-holds : (p : ℕ) (owed : Bool) (x : CancelSight) (call : Call) → may_be_withdrawn x.pid call ≡ true
    → is_for_waiting x.call ≡ true → IsInterrupted p x call → OfCall p owed x x.call (Some call)
interrupted-holds p owed x call waits place h = by x.call place
  where
    may-wait : MayBeInterrupted p owed x call (waits_at x.pid call) (may_be_withdrawn x.pid call) false
    may-wait =
        subst (λ t. MayBeInterrupted p owed x call (waits_at x.pid call) t false) (sym waits)
        (record {
          follows = h.follows;
          pair = h.pair;
          noted = λ some. h.noted;
          struck = λ some. h.struck;
          nowhere = λ noted none. h.nowhere none;
          interrupted = λ none doomed. h.noted;
        })

    by : (place : CallPlace) → is_for_waiting place ≡ true → OfCall p owed x place (Some call)
    by Parked e = absurd (false≢true e)
    by (InAnswer from reply) e = absurd (false≢true e)
    by place e = may-wait

-- ---- where a strike finds nothing to interrupt

-- a call under way that may have to wait was interrupted before
nothing-waits : (noted : Bool) (under_way : Option Call) (call : Call)
    → (if noted then None else option_and_then if_it_waits under_way) ≡ None → under_way ≡ Some call
    → may_park call ≡ true → noted ≡ true
nothing-waits true under_way call h is parks = refl
nothing-waits false under_way call h is parks =
    not_none call
    (sym (ap (option_and_then if_it_waits) is ∙ ap (λ b. if b then Some call else None) parks) ∙ h)

-- then no strike is owed any more
pub nothing-owed : (p : ℕ) (owes : Owing) (x : CancelSight) → to_cancel x.caller ≡ None
    → ((call : Call) → x.call ≡ Parked → x.caller.under_way ≡ Some call → may_park call ≡ true)
    → CancelHolds p owes x → CancelHolds p Nothing x
nothing-owed p owes x none parked h =
    record {
      of_call = by x.call x.caller.under_way refl refl h.of_call;
      frames = h.frames;
      held = h.held;
      hand = h.hand;
      owed = λ owed some. absurd (false≢true owed);
    }
  where
    is-noted : (call : Call) → x.caller.under_way ≡ Some call → may_park call ≡ true → x.caller.noted ≡ true
    is-noted call is parks = nothing-waits x.caller.noted x.caller.under_way call none is parks

    parks-by : (call : Call) → may_be_withdrawn x.pid call ≡ true → may_park call ≡ true
    parks-by call e = let at : WaitsAt x.pid call = waits-at x.pid call e in at.parks

    still : (call : Call) → x.caller.under_way ≡ Some call → (waits replied : Bool)
        → may_be_withdrawn x.pid call ≡ waits
        → MayBeInterrupted p (is_owed owes p) x call (waits_at x.pid call) waits replied
        → MayBeInterrupted p false x call (waits_at x.pid call) waits replied
    still call is true false e h =
        record {
          follows = h.follows;
          pair = h.pair;
          noted = h.noted;
          struck = h.struck;
          nowhere = h.nowhere;
          interrupted = λ unowed doomed. is-noted call is (parks-by call e);
        }
    still call is true true e h = h
    still call is false replied e h = h

    by : (place : CallPlace) (under_way : Option Call) → x.call ≡ place → x.caller.under_way ≡ under_way
        → OfCall p (is_owed owes p) x place under_way → OfCall p false x place under_way
    by place None at is h = h
    by Parked (Some call) at is h =
        absurd (false≢true (sym h.1.unnoted ∙ is-noted call is (parked call at is)))
    by place (Some call) at is h = still call is (may_be_withdrawn x.pid call) (has_reply place) refl h
