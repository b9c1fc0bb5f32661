-- A withdrawal goes from where it is in front to another place: the call's own follows the call from there, and an old
-- one changes nothing that is said of the call.
use Rattle.std.proofs.Common.{Bool, List, None, Option, Some, ap, false, filter, if◌then◌else◌, inl, inr, not, refl, subst, sym, true, ℕ, ◌&&◌, ◌∙◌, ◌≡◌, ◌≢◌}
use Rattle.std.proofs.lemmas.Bool.{cases_eq, eq-eqb, false≢true}
use Rattle.pico_base.specs.declared.call.Call.TheVariants as calls
use Rattle.pico_base.specs.declared.call.Call.{Call}
use Rattle.pico_base.specs.declared.numbers.Name.{Name}
use Rattle.rpc_frame.specs.declared.asked.Asked.{Asked}
use Rattle.waiting_model.specs.Calls.{is_withdrawal, may_park, waits_at}
use Rattle.node_model.specs.Caller.{Caller}
use Rattle.node_model.specs.Directory.{held_for}
use Rattle.node_model.specs.Kinds.{is_object}
use Rattle.node_model.specs.declared.held.Held.{Held}
use Rattle.world_model.specs.Node.{Node}
use Rattle.world_model.specs.World.{World}
use Rattle.world_laws.proofs.CancelMoves.{CancelTravels, SameLists, earlier-travels, follows-there, old-travels}
use Rattle.world_laws.proofs.Cancels.{KnowsTickets, OldHold, StaysOwed, cancel-of, may_be_withdrawn, of-call-holds, same-later, still-owed}
use Rattle.world_laws.proofs.Following.{WaitsAt, both-true, waits-at, withdrawal}
use Rattle.world_laws.proofs.Interrupted.{IsInterrupted, interrupted-holds}
use Rattle.world_laws.proofs.Pairs.{is_for_waiting}
use Rattle.world_laws.specs.Cancels.{CallMayWait, CancelHolds, CancelSight, FollowsItsCall, IsCancelOf, LeadsNowhere, MayBeInterrupted, OfCall, Owing, asked_as, cancel_sight, has_reply, is_held_of_call, is_of_call, is_owed, may_follow}
use Rattle.world_laws.specs.Places.{Beside, CallPlace, CancelHeld, CancelInHand, CancelPlace, InAnswer, InAsk, IsHeld, IsInHand, NoCancel, Parked, SentByPlace, SentByRange, SentTo, ToLeader, Waits, cancel_in}
use Rattle.world_laws.specs.Sights.{directory_of, frames_to, node_of}
use Rattle.route_laws.proofs.cancels.Current.{IsCurrent, IsInFront, is-current}

abbrev is_parked : CallPlace → Bool
is_parked Parked = true
is_parked place = false

-- there is one
abbrev pub is_somewhere : CancelPlace → Bool
is_somewhere NoCancel = false
is_somewhere place = true

-- a withdrawal that follows a call follows one that waits, or will
follows-waiting : (c : CancelPlace) (place : CallPlace) → is_somewhere c ≡ true → may_follow c place ≡ true
    → is_for_waiting place ≡ true
follows-waiting c InAsk some h = refl
follows-waiting c IsInHand some h = refl
follows-waiting c (SentByPlace to) some h = refl
follows-waiting c (SentByRange to) some h = refl
follows-waiting c (IsHeld name) some h = refl
follows-waiting c (Waits name) some h = refl
follows-waiting NoCancel place some h = absurd (false≢true some)
follows-waiting ToLeader place some h = absurd (false≢true h)
follows-waiting (SentTo to) place some h = absurd (false≢true h)
follows-waiting (CancelHeld name) place some h = absurd (false≢true h)
follows-waiting CancelInHand place some h = absurd (false≢true h)

-- a withdrawal that is in front, in a stream or in hand, is one that there is
pub front-somewhere : (p : ℕ) (cancel : Asked) (w : World) (hand : List Held) (from : CancelPlace)
    → IsInFront p cancel w hand from → is_somewhere from ≡ true
front-somewhere p cancel w hand ToLeader front = refl
front-somewhere p cancel w hand (SentTo to) front = refl
front-somewhere p cancel w hand CancelInHand front = refl
front-somewhere p cancel w hand NoCancel front = elim front [ ]
front-somewhere p cancel w hand (CancelHeld name) front = elim front [ ]

-- what is still to be shown of the place to which the call's own withdrawal goes
pub record GoesRightly (p : ℕ) (to : CancelPlace) (y : CancelSight) (call : Call) : Type 0 where
  pub pair : may_follow to y.call ≡ true
  pub nowhere : to ≡ NoCancel → LeadsNowhere y (waits_at y.pid call)

-- where it is now: there, or it was an old one
pub record HasGone (p : ℕ) (owes : Owing) (w' : World) (hand' : List Held) (b : Beside) : Type 0 where
  pub cancel : CancelPlace
  pub holds : CancelHolds p owes (cancel_sight w' hand' (record b { cancel = cancel_in b.cancel p cancel }) p)

module _ (p : ℕ) (owes : Owing) (w w' : World) (hand hand' : List Held) (b : Beside) (cancel : Asked)
    (from to : CancelPlace) (t : CancelTravels p from to cancel w w' hand hand') (of_p : cancel.caller ≡ p)
    (is_cancel : is_withdrawal cancel.call ≡ true) (front : IsInFront p cancel w hand from)
    (h : CancelHolds p owes (cancel_sight w hand b p)) (of : IsCancelOf (cancel_sight w hand b p) cancel)
    (number : (node_of w' p).number ≡ (node_of w p).number) (pid : (node_of w' p).pid ≡ (node_of w p).pid)
    (caller : (node_of w' p).caller ≡ (node_of w p).caller)
    (nowhere : (name : Name) → LeadsNowhere (cancel_sight w hand b p) name
    → LeadsNowhere (cancel_sight w' hand' b p) name) where
  abbrev x : CancelSight
  x = cancel_sight w hand b p

  -- beside the world the withdrawal is there now
  abbrev at_place : CancelPlace → Beside
  at_place place = record b { cancel = cancel_in b.cancel p place }

  abbrev y : CancelPlace → CancelSight
  y place = cancel_sight w' hand' (at_place place) p

  now-at : (place : CancelPlace) → cancel_in b.cancel p place p ≡ place
  now-at place = ap (λ u. if u then place else b.cancel p) (eq-eqb p p refl)

  knows : (place : CancelPlace) → KnowsTickets x (y place)
  knows place =
      record {
        pid = sym pid;
        later = same-later x.caller (let m : Node = node_of w' p in m.caller) (sym caller);
      }

  old : (place : CancelPlace) → OldHold (y place)
  old place =
      old-travels p from to cancel w w' hand hand' b (at_place place) t of_p is_cancel owes (knows place)
      (cancel-of x (y place) cancel (knows place) of) h

  stays : (place : CancelPlace) → StaysOwed p owes owes x (y place)
  stays place = still-owed p owes x (y place) refl (ap (λ (c : Caller). c.under_way) (sym caller)) h

  -- ---- an old one

  earlier-goes : cancel.ticket ≢ x.caller.ticket → HasGone p owes w' hand' b
  earlier-goes other =
      let same : SameLists (is_held_of_call p x.caller.ticket) (is_of_call p x.caller.ticket) w w' hand hand' =
      earlier-travels p from to cancel w w' hand hand' b b t of_p is_cancel other
      in record {
        cancel = b.cancel p;
        holds = of-call-holds p owes owes x (y (b.cancel p))
            (record {
              number = sym number;
              pid = sym pid;
              caller = sym caller;
              call = refl;
              cancel = sym (now-at (b.cancel p));
              of_call = λ at sender. same.streams at sender
                  ∙ ap (λ (c : Caller). filter (is_of_call p c.ticket at sender) (frames_to w' at sender)) (sym caller);
              held_of_call = λ name. same.lists name
                  ∙ ap (λ (c : Caller). filter (is_held_of_call p c.ticket) (held_for (directory_of w') name))
                  (sym caller);
              hand_of_call = same.hands
                  ∙ ap (λ (c : Caller). filter (is_held_of_call p c.ticket) hand') (sym caller);
              nowhere = λ call under_way waits l.
                  let n : LeadsNowhere (cancel_sight w' hand' b p) (waits_at x.pid call) = nowhere (waits_at x.pid call)
                  l
                  in record { node = n.node; is = n.is; leaves = n.leaves; unknown = n.unknown };
            }) (stays (b.cancel p)) (old (b.cancel p)) h;
      }

  -- ---- a call that no withdrawal is of

  no-cancel-now : x.cancel ≡ NoCancel → (y (b.cancel p)).cancel ≡ NoCancel
  no-cancel-now none = now-at (b.cancel p) ∙ none

  holds-at : (place : CancelPlace) → OfCall p (is_owed owes p) (y place) (b.call p) (node_of w' p).caller.under_way
      → CancelHolds p owes (y place)
  holds-at place of_call =
      let kept : OldHold (y place) = old place
      in let o : StaysOwed p owes owes x (y place) = stays place
      in record {
        of_call = of_call;
        frames = kept.frames;
        held = kept.held;
        hand = kept.hand;
        owed = o.strikes;
      }

  stays-there : OfCall p (is_owed owes p) (y (b.cancel p)) (b.call p) (node_of w' p).caller.under_way
      → HasGone p owes w' hand' b
  stays-there of_call = record { cancel = b.cancel p; holds = holds-at (b.cancel p) of_call }

  some-cancel : x.cancel ≡ from → x.cancel ≢ NoCancel
  some-cancel at none =
      false≢true (sym (ap is_somewhere (sym at ∙ none)) ∙ front-somewhere p cancel w hand from front)

  -- ---- the call's own

  module _ (call : Call) (under_way : x.caller.under_way ≡ Some call)
      (m : CallMayWait p (is_owed owes p) x call (waits_at x.pid call)) (waits : may_be_withdrawn x.pid call ≡ true)
      (cur : IsCurrent p x call cancel from) (right : GoesRightly p to (y to) call)
      (own : cancel.ticket ≡ x.caller.ticket) where
    at : WaitsAt x.pid call
    at = waits-at x.pid call waits

    asked-same : asked_as x call ≡ asked_as (y to) call
    asked-same = λ i. record {
      caller = sym number i;
      ticket = (sym caller i).ticket;
      pid = sym pid i;
      call = call;
    }

    withdrawal-same : withdrawal x call ≡ withdrawal (y to) call
    withdrawal-same = λ i. record {
      caller = sym number i;
      ticket = (sym caller i).ticket;
      pid = sym pid i;
      call = calls.Withdraw (waits_at (sym pid i) call);
    }

    follows-now : FollowsItsCall p (y to) (asked_as (y to) call) (withdrawal (y to) call)
    follows-now =
        subst (λ a. FollowsItsCall p (y to) a (withdrawal (y to) call)) asked-same
        (subst (λ k. FollowsItsCall p (y to) (asked_as x call) k) (cur.is ∙ withdrawal-same)
        (follows-there p from to cancel w w' hand hand' b (at_place to) t of_p is_cancel call (asked_as x call)
        at.parks refl (ap (λ (c : Caller). c.ticket) (sym caller)) own cur.place (now-at to) refl
        (subst (λ k. FollowsItsCall p x (asked_as x call) k) (sym cur.is) m.follows)))

    interrupted : IsInterrupted p (y to) call
    interrupted =
        record {
          follows = follows-now;
          pair = ap (λ c. may_follow c (b.call p)) (now-at to) ∙ right.pair;
          noted = ap (λ (c : Caller). c.noted) caller ∙ m.noted (some-cancel cur.place);
          struck = m.struck (some-cancel cur.place);
          nowhere = λ none. right.nowhere (sym (now-at to) ∙ none);
        }

    own-goes : HasGone p owes w' hand' b
    own-goes =
        record {
          cancel = to;
          holds = holds-at to
              (subst (λ u. OfCall p (is_owed owes p) (y to) (b.call p) u)
              (sym (ap (λ (c : Caller). c.under_way) caller ∙ under_way))
              (interrupted-holds p (is_owed owes p) (y to) call
              (ap (λ n. may_be_withdrawn n call) pid ∙ waits)
              (follows-waiting from (b.call p) (front-somewhere p cancel w hand from front)
              (ap (λ c. may_follow c (b.call p)) (sym cur.place) ∙ m.pair)) interrupted));
        }

  -- ---- either

  under-way-now : (under_way : Option Call) → x.caller.under_way ≡ under_way
      → (node_of w' p).caller.under_way ≡ under_way
  under-way-now under_way e = ap (λ (c : Caller). c.under_way) caller ∙ e

  none-of : (call : Call) (waits replied : Bool)
      → MayBeInterrupted p (is_owed owes p) x call (waits_at x.pid call) waits replied → (waits && not replied) ≡ false
      → x.cancel ≡ NoCancel
  none-of call true true h e = h
  none-of call true false h e = absurd (false≢true (sym e))
  none-of call false replied h e = h

  stays-none : (place : CallPlace) (call : Call) → x.cancel ≡ NoCancel → is_parked place ≡ false
      → (may_be_withdrawn (node_of w' p).pid call && not (has_reply place)) ≡ false
      → OfCall p (is_owed owes p) (y (b.cancel p)) place (Some call)
  stays-none Parked call none unparked e = absurd (false≢true (sym unparked))
  stays-none place call none unparked e = by (may_be_withdrawn (node_of w' p).pid call) (has_reply place) e
    where
      by : (waits replied : Bool) → (waits && not replied) ≡ false
          → MayBeInterrupted p (is_owed owes p)
          (cancel_sight w' hand' (record b { cancel = cancel_in b.cancel p (b.cancel p) }) p) call
          (waits_at (node_of w' p).pid call) waits replied
      by true true e = now-at (b.cancel p) ∙ none
      by true false e = absurd (false≢true (sym e))
      by false replied e = now-at (b.cancel p) ∙ none

  -- what is said of the call by its place, as it is afterwards
  at-now : (place : CallPlace) (under_way : Option Call) → b.call p ≡ place → x.caller.under_way ≡ under_way
      → OfCall p (is_owed owes p) (y (b.cancel p)) place under_way
      → OfCall p (is_owed owes p) (y (b.cancel p)) (b.call p) (node_of w' p).caller.under_way
  at-now place under_way at is of_call =
      subst (λ u. OfCall p (is_owed owes p) (y (b.cancel p)) (b.call p) u) (sym (under-way-now under_way is))
      (subst (λ c. OfCall p (is_owed owes p) (y (b.cancel p)) c under_way) (sym at) of_call)

  parked-goes : (call : Call) → b.call p ≡ Parked → x.caller.under_way ≡ Some call
      → OfCall p (is_owed owes p) x Parked (Some call)
      → HasGone p owes w' hand' b
  parked-goes call at is of_call =
      stays-there
      (at-now Parked (Some call) at is (
        now-at (b.cancel p) ∙ of_call.0,
        record {
          unnoted = ap (λ (c : Caller). c.noted) caller ∙ of_call.1.unnoted;
          undoomed = of_call.1.undoomed;
        },
      ))

  unparked-goes : (place : CallPlace) (call : Call) → b.call p ≡ place → is_parked place ≡ false
      → x.caller.under_way ≡ Some call
      → MayBeInterrupted p (is_owed owes p) x call (waits_at x.pid call) (may_be_withdrawn x.pid call)
      (has_reply place)
      → (may_be_withdrawn x.pid call ≡ true → has_reply (b.call p) ≡ false → IsCurrent p x call cancel from
      → GoesRightly p to (y to) call)
      → HasGone p owes w' hand' b
  unparked-goes place call at unparked is m right = by (may_be_withdrawn x.pid call) (has_reply place) refl refl m
    where
      none-now : (waits replied : Bool) → may_be_withdrawn (node_of w p).pid call ≡ waits → has_reply place ≡ replied
          → (waits && not replied) ≡ false
          → (may_be_withdrawn (node_of w' p).pid call && not (has_reply place)) ≡ false
      none-now waits replied e f none =
          ap (λ n. may_be_withdrawn n call && not (has_reply place)) pid
          ∙ ap (λ u. u && not (has_reply place)) e ∙ ap (λ r. waits && not r) f ∙ none

      by : (waits replied : Bool) → may_be_withdrawn (node_of w p).pid call ≡ waits → has_reply place ≡ replied
          → MayBeInterrupted p (is_owed owes p) (cancel_sight w hand b p) call (waits_at (node_of w p).pid call) waits
          replied
          → HasGone p owes w' hand' b
      by true false e f m =
          elim (cases_eq cancel.ticket (node_of w p).caller.ticket) [
            | inl own ↦
                let cur = is-current p w hand b cancel of_p is_cancel call (is_owed owes p)
                (both-true (may_park call) (is_object (waits_at (node_of w p).pid call)) e).0 m own from front
                in own-goes call is m e cur (right e (ap has_reply at ∙ f) cur) own
            | inr other ↦ earlier-goes other
          ]
      by true true e f m =
          stays-there (at-now place (Some call) at is (stays-none place call m unparked (none-now true true e f refl)))
      by false replied e f m =
          stays-there
          (at-now place (Some call) at is (stays-none place call m unparked (none-now false replied e f refl)))

  -- All that is said of the withdrawal holds after it has gone.
  pub goes : ((call : Call) → x.caller.under_way ≡ Some call → may_be_withdrawn x.pid call ≡ true
      → has_reply (b.call p) ≡ false → IsCurrent p x call cancel from → GoesRightly p to (y to) call)
      → HasGone p owes w' hand' b
  goes right = by x.caller.under_way refl (b.call p) refl h.of_call
    where
      by : (under_way : Option Call) → (node_of w p).caller.under_way ≡ under_way → (place : CallPlace)
          → b.call p ≡ place → OfCall p (is_owed owes p) (cancel_sight w hand b p) place under_way
          → HasGone p owes w' hand' b
      by None is place at of_call =
          stays-there (at-now place None at is (now-at (b.cancel p) ∙ of_call))
      by (Some call) is Parked at of_call = parked-goes call at is of_call
      by (Some call) is (InAnswer to reply) at of_call =
          unparked-goes (InAnswer to reply) call at refl is of_call (right call is)
      by (Some call) is place at of_call = unparked-goes place call at refl is of_call (right call is)
