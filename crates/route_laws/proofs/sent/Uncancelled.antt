-- A call that can't wait at a queue or a set has no withdrawal, wherever it goes.
use Rattle.std.proofs.Common.{◌≡◌, ◌≤◌, ℕ, Bool, true, false, not, ◌&&◌, Some, refl, ap, sym, subst, ◌∙◌}
use Rattle.std.proofs.lemmas.Bool.{false≢true}
use Rattle.pico_base.specs.declared.call.Call.{Call}
use Rattle.pico_base.specs.declared.call.Home.{Home}
use Rattle.waiting_model.specs.Calls.{may_park, waits_at}
use Rattle.node_model.specs.Caller.{Caller}
use Rattle.node_model.specs.Kinds.{is_object}
use Rattle.world_model.specs.Calls.{is_on_name}
use Rattle.world_laws.specs.Places.{CallPlace, NoCancel, Parked}
use Rattle.world_laws.specs.Cancels.{CancelHolds, CancelSight, MayBeInterrupted, Nothing, OfCall, has_reply}
use Rattle.world_laws.proofs.Cancels.{may_be_withdrawn}
use Rattle.world_laws.proofs.Following.{SameOld, never-cancelled, old-holds}

-- it is parked at its own node
abbrev pub is_parked_place : CallPlace → Bool
is_parked_place Parked = true
is_parked_place place = false

never-withdrawn : (p : ℕ) (y : CancelSight) (call : Call) (place : CallPlace) → is_parked_place place ≡ false
    → may_be_withdrawn y.pid call ≡ false → y.cancel ≡ NoCancel → OfCall p false y place (Some call)
never-withdrawn p y call Parked away cannot none = absurd (false≢true (sym away))
never-withdrawn p y call place away cannot none =
    subst (λ t. MayBeInterrupted p false y call (waits_at y.pid call) t (has_reply place)) (sym cannot)
    (by (has_reply place))
  where
    by : (t : Bool) → MayBeInterrupted p false y call (waits_at y.pid call) false t
    by true = none
    by false = none

-- it goes on to where it isn't parked, and all holds of withdrawals as before
pub uncancelled-goes : (p : ℕ) (x y : CancelSight) (call : Call) → SameOld x y → x.caller ≡ y.caller → x.cancel
    ≡ y.cancel
    → x.caller.under_way ≡ Some call → may_be_withdrawn x.pid call ≡ false → is_parked_place y.call ≡ false
    → CancelHolds p Nothing x → CancelHolds p Nothing y
uncancelled-goes p x y call old caller cancel under_way cannot away h =
    let kept = old-holds p Nothing x y old h
    in let none : x.cancel ≡ NoCancel = never-cancelled p Nothing x call under_way cannot h
    in record {
      of_call = subst (λ o. OfCall p false y y.call o) (sym (sym (ap (λ (k : Caller). k.under_way) caller) ∙ under_way))
          (never-withdrawn p y call y.call away (ap (λ pid. may_be_withdrawn pid call) (sym old.of.pid) ∙ cannot)
          (sym cancel ∙ none));
      frames = kept.frames;
      held = kept.held;
      hand = kept.hand;
      owed = λ owed. absurd (false≢true owed);
    }

-- ---- calls that others were asked for as the owner

parks-not : (t : Bool) (parks : Bool) → (t && not parks) ≡ true → parks ≡ false
parks-not true false h = refl
parks-not true true h = absurd (false≢true h)
parks-not false parks h = absurd (false≢true h)

-- they never wait
pub never-waits : (pid : ℕ) (home : Home) (call : Call) → (is_on_name home && not (may_park call)) ≡ true
    → may_be_withdrawn pid call ≡ false
never-waits pid home call may =
    ap (λ t. t && is_object (waits_at pid call)) (parks-not (is_on_name home) (may_park call) may)
