-- A call goes on, and its withdrawal stays behind it.
use Rattle.std.proofs.Common.{◌≡◌, ℕ, Bool, true, false, List, Option, Some, None, refl, ap, sym, subst, ◌∙◌}
use Rattle.std.proofs.lemmas.Bool.{false≢true}
use Rattle.pico_base.specs.declared.call.Call.{Call}
use Rattle.pico_base.specs.declared.call.Call.TheVariants as calls
use Rattle.pico_base.specs.declared.reply.Reply.{Reply}
use Rattle.pico_base.specs.declared.script.Script.{Script}
use Rattle.waiting_model.specs.Calls.{waits_at}
use Rattle.node_model.specs.declared.held.Held.{Held}
use Rattle.node_model.specs.Caller.{Caller}
use Rattle.world_model.specs.World.{World}
use Rattle.world_laws.specs.Places.{CallPlace, InAsk, SentByRange, InBounce, Parked, Waits, InAnswer, Beside}
use Rattle.world_laws.specs.Callers.{CallHolds, HasCall, HasCallOrNone, call_sight}
use Rattle.world_laws.specs.Cancels.{CallMayWait, CancelSight, CancelHolds, FollowsItsCall, LeadsNowhere, MayBeInterrupted, OfCall, Owing, asked_as, cancel_sight, has_reply, is_owed, may_follow}
use Rattle.world_laws.proofs.Cancels.{KnowsTickets, StaysOwed}
use Rattle.world_laws.proofs.Pairs.{IsApart, goes-apart, goes_on, is_for_waiting, lands}
use Rattle.world_laws.proofs.Cancels.{OldHold, may_be_withdrawn}
use Rattle.world_laws.proofs.Following.{CallGoesOn, SameOld, WaitsAt, follows-now, is-for-waiting, never-cancelled, old-holds, waits-at}

-- ---- what is said of the call by its place

-- a call that goes on was not parked, and had no reply
from-there : (p : ℕ) (owed : Bool) (x : CancelSight) (call : Call) (place next : CallPlace)
    → goes_on place next ≡ true → OfCall p owed x place (Some call)
    → MayBeInterrupted p owed x call (waits_at x.pid call) (may_be_withdrawn x.pid call) false
from-there p owed x call Parked next g h = absurd (false≢true g)
from-there p owed x call (InAnswer from reply) next g h = absurd (false≢true g)
from-there p owed x call place next g h = h

never-parked : (place : CallPlace) → goes_on place Parked ≡ true → ⊥
never-parked InAsk g = absurd (false≢true g)
never-parked place g = absurd (false≢true g)

never-answered : (place : CallPlace) (from : ℕ) (reply : Reply) → goes_on place (InAnswer from reply) ≡ true → ⊥
never-answered InAsk from reply g = absurd (false≢true g)
never-answered place from reply g = absurd (false≢true g)

-- so it is afterwards
to-there : (p : ℕ) (owed : Bool) (y : CancelSight) (call : Call) (place next : CallPlace)
    → goes_on place next ≡ true
    → MayBeInterrupted p owed y call (waits_at y.pid call) (may_be_withdrawn y.pid call) false
    → OfCall p owed y next (Some call)
to-there p owed y call place Parked g h = absurd (never-parked place g)
to-there p owed y call place (InAnswer from reply) g h = absurd (never-answered place from reply g)
to-there p owed y call place next g h = h

unanswered : (place next : CallPlace) → goes_on place next ≡ true
    → (has_reply place ≡ false) × (has_reply next ≡ false)
unanswered (InAnswer from reply) next g = absurd (false≢true g)
unanswered place (InAnswer from reply) g = absurd (never-answered place from reply g)
unanswered place next g = (refl, refl)

module _ (script : Script) (p : ℕ) (born more : ℕ → Bool) (owes owes' : Owing) (w w' : World) (hand hand' : List Held)
    (b b' : Beside)
    (g : CallGoesOn p (cancel_sight w hand b p) (cancel_sight w' hand' b' p))
    (o : StaysOwed p owes owes' (cancel_sight w hand b p) (cancel_sight w' hand' b' p))
    (before : CallHolds script p born (call_sight w hand b p))
    (after : CallHolds script p more (call_sight w' hand' b' p))
    (h : CancelHolds p owes (cancel_sight w hand b p)) where
  abbrev x : CancelSight
  x = cancel_sight w hand b p

  abbrev y : CancelSight
  y = cancel_sight w' hand' b' p

  of-old : KnowsTickets x y
  of-old = let old : SameOld x y = g.old in old.of

  under-way-before : (call : Call) → y.caller.under_way ≡ Some call → x.caller.under_way ≡ Some call
  under-way-before call e = ap (λ (c : Caller). c.under_way) g.caller ∙ e

  withdrawn-before : (call : Call) → y.caller.under_way ≡ Some call
      → MayBeInterrupted p (is_owed owes p) x call (waits_at x.pid call) (may_be_withdrawn x.pid call) false
  withdrawn-before call e =
      from-there p (is_owed owes p) x call x.call y.call g.goes
      (subst (λ u. OfCall p (is_owed owes p) x x.call u) (under-way-before call e) h.of_call)

  not-sent-by-range : (place next : CallPlace) (node : ℕ) → goes_on place next ≡ true → is_for_waiting next ≡ true
      → place ≡ SentByRange node → lands place next ≡ true
  not-sent-by-range place next node on waits e =
      subst (λ z. lands z next ≡ true) (sym e) (by next (subst (λ z. goes_on z next ≡ true) e on) waits)
    where
      by : (next : CallPlace) → goes_on (SentByRange node) next ≡ true → is_for_waiting next ≡ true
          → lands (SentByRange node) next ≡ true
      by (Waits name) on waits = refl
      by (InBounce from) on waits = absurd (false≢true waits)
      by next on waits = absurd (false≢true on)

  may-wait : (call : Call) → y.caller.under_way ≡ Some call → may_be_withdrawn x.pid call ≡ true
      → CallMayWait p (is_owed owes p) x call (waits_at x.pid call)
      → CallMayWait p (is_owed owes' p) y call (waits_at x.pid call)
  may-wait call e waits m =
      record {
        follows = subst (λ pid. FollowsItsCall p y (asked_as y call) (asked_as y (calls.Withdraw (waits_at pid call))))
            (sym of-old.pid) (follows-now script p more w w' hand hand' b b' g call m.follows at.parks a later);
        pair = subst (λ c. may_follow c y.call ≡ true) g.cancel a.pair;
        noted = λ some. ap (λ (c : Caller). c.noted) (sym g.caller) ∙ m.noted (λ none. some (sym g.cancel ∙ none));
        struck = λ some. o.struck (m.struck (λ none. some (sym g.cancel ∙ none)));
        nowhere = λ noted none.
            let l : LeadsNowhere x (waits_at x.pid call) =
            m.nowhere (ap (λ (c : Caller). c.noted) g.caller ∙ noted) (g.cancel ∙ none)
            in absurd (g.somewhere (not-sent-by-range x.call y.call l.node g.goes now-waits l.is) (waits_at x.pid call)
            l);
        interrupted = λ none doomed. ap (λ (c : Caller). c.noted) (sym g.caller)
            ∙ m.interrupted (o.owed none) (o.doomed none doomed);
      }
    where
      at : WaitsAt x.pid call
      at = waits-at x.pid call waits

      earlier : HasCall script p born (call_sight w hand b p) call
      earlier = subst (λ u. HasCallOrNone script p born (call_sight w hand b p) u) (under-way-before call e) before.call

      later : HasCall script p more (call_sight w' hand' b' p) call
      later = subst (λ u. HasCallOrNone script p more (call_sight w' hand' b' p) u) e after.call

      none-answered : (has_reply x.call ≡ false) × (has_reply y.call ≡ false)
      none-answered = unanswered x.call y.call g.goes

      waited : is_for_waiting x.call ≡ true
      waited = is-for-waiting x.pid call x.call waits earlier.home none-answered.0

      now-waits : is_for_waiting y.call ≡ true
      now-waits =
          is-for-waiting y.pid call y.call (subst (λ pid. may_be_withdrawn pid call ≡ true) of-old.pid waits) later.home
          none-answered.1

      a : IsApart x.cancel y.call
      a = goes-apart x.cancel x.call y.call waited now-waits g.goes m.pair

  interrupted-now : (call : Call) → y.caller.under_way ≡ Some call → (t : Bool) → may_be_withdrawn x.pid call ≡ t
      → MayBeInterrupted p (is_owed owes' p) y call (waits_at x.pid call) t false
  interrupted-now call e true waits =
      may-wait call e waits
      (subst (λ t. MayBeInterrupted p (is_owed owes p) x call (waits_at x.pid call) t false) waits
      (withdrawn-before call e))
  interrupted-now call e false waits =
      sym g.cancel ∙ never-cancelled p owes x call (under-way-before call e) waits h

  of-call-now : (under_way : Option Call) → y.caller.under_way ≡ under_way
      → OfCall p (is_owed owes' p) y y.call under_way
  of-call-now None e =
      sym g.cancel
      ∙ subst (λ u. OfCall p (is_owed owes p) x x.call u) (ap (λ (c : Caller). c.under_way) g.caller ∙ e) h.of_call
  of-call-now (Some call) e =
      to-there p (is_owed owes' p) y call x.call y.call g.goes
      (subst (λ pid. MayBeInterrupted p (is_owed owes' p) y call (waits_at pid call) (may_be_withdrawn pid call) false)
      of-old.pid (interrupted-now call e (may_be_withdrawn x.pid call) refl))

  -- a withdrawal stays behind a call that goes on
  pub cancel-goes-on : CancelHolds p owes' y
  cancel-goes-on =
      let old : OldHold y = old-holds p owes x y g.old h
      in record {
        of_call = of-call-now y.caller.under_way refl;
        frames = old.frames;
        held = old.held;
        hand = old.hand;
        owed = o.strikes;
      }
