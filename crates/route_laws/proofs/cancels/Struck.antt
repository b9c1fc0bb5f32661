-- A signal interrupts a call that isn't among those who wait where its node could take it out: the withdrawal is put on
-- its way, and it is noted. It follows the call from where it is; or the call has its reply already, and it is an old
-- one.
use Rattle.std.proofs.Common.{Bool, List, Some, ap, arith, false, if◌then◌else◌, is_some, refl, subst, sym, true, ℕ, ◌∙◌, ◌≡◌, ◌≢◌, ◌≤◌}
use Rattle.std.proofs.lemmas.Bool.{eq-eqb, false≢true}
use Rattle.pico_base.specs.declared.call.Call.TheVariants as calls
use Rattle.pico_base.specs.declared.call.Call.{Call}
use Rattle.pico_base.specs.declared.numbers.Name.{Name}
use Rattle.rpc_frame.specs.declared.asked.Asked.{Asked}
use Rattle.waiting_model.specs.Calls.{waits_at}
use Rattle.node_model.specs.Caller.{Caller}
use Rattle.node_model.specs.Kinds.{is_object}
use Rattle.node_model.specs.declared.held.Held.{Held}
use Rattle.world_model.specs.Node.{Node}
use Rattle.world_model.specs.World.{World}
use Rattle.world_laws.proofs.CancelMoves.{CancelTravels, follows-there, old-travels}
use Rattle.world_laws.proofs.Cancels.{KnowsTickets, OldHold, call-later, may_be_withdrawn}
use Rattle.world_laws.proofs.Following.{WaitsAt, waits-at, withdrawal}
use Rattle.world_laws.proofs.Interrupted.{IsInterrupted, interrupted-holds}
use Rattle.world_laws.proofs.Pairs.{is_for_waiting}
use Rattle.world_laws.specs.Cancels.{AStrike, CallMayWait, CancelHolds, CancelSight, FollowsItsCall, IsCancelOf, MayBeInterrupted, Nothing, OfCall, asked_as, cancel_sight, has_reply, is_struck, may_follow}
use Rattle.world_laws.specs.Places.{Beside, CallPlace, CancelHeld, CancelInHand, CancelPlace, InAnswer, NoCancel, Parked, SentTo, ToLeader, cancel_in}
use Rattle.world_laws.specs.Sights.{node_of}
use Rattle.route_laws.proofs.cancels.Going.{HasGone}

-- the call under way, of which no signal has been noted, and a process that is struck
pub record IsStruckCall (p : ℕ) (x : CancelSight) (call : Call) (name : Name) : Type 0 where
  pub number_is : x.number ≡ p
  pub under_way : x.caller.under_way ≡ Some call
  pub waits : may_be_withdrawn x.pid call ≡ true
  pub name_is : waits_at x.pid call ≡ name
  pub unnoted : x.caller.noted ≡ false
  pub ticket : 1 ≤ x.caller.ticket

same-call : (call other : Call) → Some call ≡ Some other → call ≡ other
same-call call other h = cc

-- so it has no withdrawal as yet
none-as-yet : (noted : Bool) (c : CancelPlace) → noted ≡ false → (c ≢ NoCancel → noted ≡ true) → c ≡ NoCancel
none-as-yet noted NoCancel unnoted h = refl
none-as-yet noted ToLeader unnoted h = absurd (false≢true (sym unnoted ∙ h (λ e. cc)))
none-as-yet noted (SentTo to) unnoted h = absurd (false≢true (sym unnoted ∙ h (λ e. cc)))
none-as-yet noted (CancelHeld name) unnoted h = absurd (false≢true (sym unnoted ∙ h (λ e. cc)))
none-as-yet noted CancelInHand unnoted h = absurd (false≢true (sym unnoted ∙ h (λ e. cc)))

module _ (p : ℕ) (w w' : World) (hand hand' : List Held) (b : Beside) (call : Call) (name : Name) (to : CancelPlace)
    (s : IsStruckCall p (cancel_sight w hand b p) call name)
    (t : CancelTravels p NoCancel to (withdrawal (cancel_sight w hand b p) call) w w' hand hand')
    (h : CancelHolds p (AStrike p) (cancel_sight w hand b p))
    (number : (node_of w' p).number ≡ (node_of w p).number) (pid : (node_of w' p).pid ≡ (node_of w p).pid)
    (caller : (node_of w' p).caller ≡ record (node_of w p).caller { noted = true })
    (place : is_for_waiting (b.call p) ≡ true → may_follow to (b.call p) ≡ true)
    (waiting : has_reply (b.call p) ≡ false → is_for_waiting (b.call p) ≡ true) (to_some : to ≢ NoCancel) where
  abbrev x : CancelSight
  x = cancel_sight w hand b p

  abbrev cancel : Asked
  cancel = withdrawal x call

  -- beside the world the withdrawal is there now
  abbrev at_place : CancelPlace → Beside
  at_place c = record b { cancel = cancel_in b.cancel p c }

  abbrev y : CancelPlace → CancelSight
  y c = cancel_sight w' hand' (at_place c) p

  now-at : (c : CancelPlace) → cancel_in b.cancel p c p ≡ c
  now-at c = ap (λ u. if u then c else b.cancel p) (eq-eqb p p refl)

  at : WaitsAt x.pid call
  at = waits-at x.pid call s.waits

  under-way-now : (node_of w' p).caller.under_way ≡ Some call
  under-way-now = ap (λ (c : Caller). c.under_way) caller ∙ s.under_way

  same-ticket : x.caller.ticket ≡ (node_of w' p).caller.ticket
  same-ticket = sym (ap (λ (c : Caller). c.ticket) caller)

  knows : (c : CancelPlace) → KnowsTickets x (y c)
  knows c =
      record {
        pid = sym pid;
        later = call-later x.caller (let m : Node = node_of w' p in m.caller) same-ticket
            (ap (λ (k : Caller). k.under_way) (sym caller));
      }

  of : (c : CancelPlace) → IsCancelOf (y c) cancel
  of c =
      record {
        process = sym pid;
        low = s.ticket;
        high = let same = same-ticket in omega (arith, same);
        name = waits_at x.pid call;
        withdraws = refl;
        object = at.object;
        current = λ same other under.
            subst (λ q. is_object (waits_at q other) ≡ true) (sym pid)
            (subst (λ z. is_object (waits_at x.pid z) ≡ true) (same-call call other (sym under-way-now ∙ under))
            at.object);
      }

  old : (c : CancelPlace) → OldHold (y c)
  old c =
      old-travels p NoCancel to cancel w w' hand hand' b (at_place c) t s.number_is refl (AStrike p) (knows c) (of c) h

  struck : is_struck x.alive ≡ true
  struck = h.owed (eq-eqb p p refl) (ap is_some s.under_way)

  holds-at : (c : CancelPlace) → OfCall p false (y c) (b.call p) (node_of w' p).caller.under_way
      → CancelHolds p Nothing (y c)
  holds-at c of_call =
      let kept : OldHold (y c) = old c
      in record {
        of_call = of_call;
        frames = kept.frames;
        held = kept.held;
        hand = kept.hand;
        owed = λ owed some. absurd (false≢true owed);
      }

  asked-same : asked_as x call ≡ asked_as (y to) call
  asked-same = λ i. record {
    caller = sym number i;
    ticket = same-ticket i;
    pid = sym pid i;
    call = call;
  }

  withdrawal-same : withdrawal x call ≡ withdrawal (y to) call
  withdrawal-same = λ i. record {
    caller = sym number i;
    ticket = same-ticket i;
    pid = sym pid i;
    call = calls.Withdraw (waits_at (sym pid i) call);
  }

  module _ (m : CallMayWait p true x call (waits_at x.pid call)) where
    none : x.cancel ≡ NoCancel
    none = none-as-yet x.caller.noted x.cancel s.unnoted m.noted

    follows-now : FollowsItsCall p (y to) (asked_as (y to) call) (withdrawal (y to) call)
    follows-now =
        subst (λ a. FollowsItsCall p (y to) a (withdrawal (y to) call)) asked-same
        (subst (λ k. FollowsItsCall p (y to) (asked_as x call) k) withdrawal-same
        (follows-there p NoCancel to cancel w w' hand hand' b (at_place to) t s.number_is refl call (asked_as x call)
        at.parks refl same-ticket refl none (now-at to) refl m.follows))

    interrupted : is_for_waiting (b.call p) ≡ true → IsInterrupted p (y to) call
    interrupted waits =
        record {
          follows = follows-now;
          pair = ap (λ c. may_follow c (b.call p)) (now-at to) ∙ place waits;
          noted = ap (λ (c : Caller). c.noted) caller;
          struck = struck;
          nowhere = λ gone. absurd (to_some (sym (now-at to) ∙ gone));
        }

  -- ---- the call by its place

  waits-now : may_be_withdrawn (node_of w' p).pid call ≡ true
  waits-now = ap (λ n. may_be_withdrawn n call) pid ∙ s.waits

  by-place : (z : CallPlace) → b.call p ≡ z → OfCall p true x z (Some call) → HasGone p Nothing w' hand' b
  by-place Parked at h = absurd (false≢true (ap is_for_waiting (sym at) ∙ waiting (ap has_reply at)))
  by-place (InAnswer from reply) at h =
      record {
        cancel = b.cancel p;
        holds = holds-at (b.cancel p)
            (subst (λ u. OfCall p false (y (b.cancel p)) (b.call p) u) (sym under-way-now)
            (subst (λ c. OfCall p false (y (b.cancel p)) c (Some call)) (sym at)
            (replied (may_be_withdrawn (node_of w' p).pid call)
            (was-none (may_be_withdrawn (node_of w p).pid call) h))));
      }
    where
      was-none : (waits : Bool)
          → MayBeInterrupted p true (cancel_sight w hand b p) call (waits_at (node_of w p).pid call) waits true
          → b.cancel p ≡ NoCancel
      was-none true h = h
      was-none false h = h

      replied : (waits : Bool) → b.cancel p ≡ NoCancel
          → MayBeInterrupted p false
          (cancel_sight w' hand' (record b { cancel = cancel_in b.cancel p (b.cancel p) }) p) call
          (waits_at (node_of w' p).pid call) waits true
      replied true none = now-at (b.cancel p) ∙ none
      replied false none = now-at (b.cancel p) ∙ none
  by-place z at h = goes-on (subst (λ t. MayBeInterrupted p true x call (waits_at x.pid call) t false) s.waits h)
    where
      goes-on : CallMayWait p true (cancel_sight w hand b p) call (waits_at (node_of w p).pid call)
          → HasGone p Nothing w' hand' b
      goes-on m =
          let waits : is_for_waiting (b.call p) ≡ true = waiting (ap has_reply at)
          in record {
            cancel = to;
            holds = holds-at to
                (subst (λ u. OfCall p false (y to) (b.call p) u) (sym under-way-now)
                (interrupted-holds p false (y to) call waits-now waits (interrupted m waits)));
          }

  -- All that is said of it holds then, and no strike is owed any more.
  pub struck-holds : HasGone p Nothing w' hand' b
  struck-holds =
      by-place (b.call p) refl
      (subst (λ u. OfCall p true x (b.call p) u) s.under_way
      (subst (λ t. OfCall p t x (b.call p) x.caller.under_way) (eq-eqb p p refl) h.of_call))
