-- A withdrawal follows its call: it stays behind a call that goes on, it is nowhere once that has its reply, and a call
-- that starts has none.
use Rattle.std.proofs.Common.{◌≡◌, ℕ, Bool, true, false, not, ◌&&◌, ◌||◌, nat_eq, List, ◌++◌, filter, Some, refl, ap, sym, subst, ◌∙◌}
use Rattle.std.specs.List.{AllByRecursion}
use Rattle.std.proofs.lemmas.Bool.{eq-eqb, false≢true}
use Rattle.pico_base.specs.Home.{home_of}
use Rattle.pico_base.specs.declared.call.Call.{Call}
use Rattle.pico_base.specs.declared.call.Call.TheVariants as calls
use Rattle.pico_base.specs.declared.call.Home.TheVariants as homes
use Rattle.pico_base.specs.declared.numbers.Name.{Name}
use Rattle.pico_base.specs.declared.script.Script.{Script}
use Rattle.rpc_frame.specs.declared.asked.Asked.{Asked}
use Rattle.rpc_frame.specs.declared.frame.Frame.{Frame}
use Rattle.rpc_frame.specs.declared.frame.Frame.TheVariants as frames
use Rattle.waiting_model.specs.Calls.{is_withdrawal, may_park, waits_at}
use Rattle.node_model.specs.declared.held.Held.{Held}
use Rattle.node_model.specs.declared.held.Held.TheVariants.{Request, Ending}
use Rattle.node_model.specs.Caller.{Caller}
use Rattle.node_model.specs.Kinds.{is_object}
use Rattle.node_model.specs.Directory.{held_for}
use Rattle.world_model.specs.World.{World}
use Rattle.world_laws.specs.Places.{CallPlace, InAsk, InRequest, InNotOwner, SentByPlace, SentByRange, InBounce, IsHeld, IsInHand, Parked, Waits, InAnswer, NoCancel, Beside}
use Rattle.world_laws.specs.Sights.{frames_to, directory_of}
use Rattle.world_laws.specs.Callers.{HasCall, IsJustThere, call_sight, frame_at, is_about, is_held_at, is_in_hand, is_in_stream, is_item_about, may_be_in, only_if}
use Rattle.world_laws.specs.Cancels.{CancelSight, CancelHolds, FollowsItsCall, IsCancelFrame, IsCancelItem, LeadsNowhere, MayBeInterrupted, OfCall, Owing, asked_as, cancel_held_at, cancel_in_hand, cancel_in_stream, cancel_sight, has_reply, is_cancel_of, is_held_cancel_of, is_held_of_call, is_of_call, is_owed}
use Rattle.world_laws.proofs.Behind.{call-kept, kept-of-both, withdrawal-kept}
use Rattle.world_laws.proofs.Cancels.{may_be_withdrawn, KnowsTickets, OldHold, frames-of, items-of}
use Rattle.world_laws.proofs.Filtered.{kept-of-same}
use Rattle.world_laws.proofs.Pairs.{IsApart, apart-in-hand, apart-in-lists, apart-in-streams, goes_on, is_for_waiting, lands}

-- ---- calls that may have a withdrawal

pub record WaitsAt (pid : ℕ) (call : Call) : Type 0 where
  pub home : home_of pid call ≡ homes.At (waits_at pid call)
  pub object : is_object (waits_at pid call) ≡ true
  pub parks : may_park call ≡ true

-- both tests pass
pub both-true : (a b : Bool) → (a && b) ≡ true → (a ≡ true) × (b ≡ true)
both-true true b h = (refl, h)
both-true false b h = absurd (false≢true h)

-- it is on the queue or set where it waits
pub waits-at : (pid : ℕ) (call : Call) → may_be_withdrawn pid call ≡ true → WaitsAt pid call
waits-at pid call h =
    let both = both-true (may_park call) (is_object (waits_at pid call)) h
    in record { home = on-object call both.1; object = both.1; parks = both.0 }
  where
    on-object : (call : Call) → is_object (waits_at pid call) ≡ true → home_of pid call ≡ homes.At (waits_at pid call)
    on-object (calls.MsgSnd id class text nowait) h = refl
    on-object (calls.MsgRcv id class size noerror nowait) h = refl
    on-object (calls.SemOp id steps) h = refl
    on-object call h = absurd (false≢true h)

-- so it is where such a call may be
pub is-for-waiting : (pid : ℕ) (call : Call) (place : CallPlace) → may_be_withdrawn pid call ≡ true
    → may_be_in place (home_of pid call) call ≡ true → has_reply place ≡ false → is_for_waiting place ≡ true
is-for-waiting pid call place waits may unanswered =
    let at : WaitsAt pid call = waits-at pid call waits
    in by (waits_at pid call) place at.object at.parks (sym (ap (λ h. may_be_in place h call) at.home) ∙ may)
    unanswered
  where
    by : (name : Name) (place : CallPlace) → is_object name ≡ true → may_park call ≡ true
        → may_be_in place (homes.At name) call ≡ true → has_reply place ≡ false → is_for_waiting place ≡ true
    by name InAsk object parks may unanswered = refl
    by name IsInHand object parks may unanswered = refl
    by name (SentByPlace h) object parks may unanswered = refl
    by name (SentByRange h) object parks may unanswered = refl
    by name (IsHeld other) object parks may unanswered = refl
    by name (Waits other) object parks may unanswered = refl
    by name (InRequest h) object parks may unanswered = absurd (false≢true (ap not (sym parks) ∙ may))
    by name (InNotOwner h) object parks may unanswered = absurd (false≢true (ap not (sym parks) ∙ may))
    by name (InBounce h) object parks may unanswered = absurd (false≢true (ap not (sym object) ∙ may))
    by name (InAnswer h reply) object parks may unanswered = absurd (false≢true (sym unanswered))
    by name place object parks may unanswered = absurd (false≢true may)

-- a call that can't wait has no withdrawal
pub never-cancelled : (p : ℕ) (owes : Owing) (x : CancelSight) (call : Call) → x.caller.under_way ≡ Some call
    → may_be_withdrawn x.pid call ≡ false → CancelHolds p owes x → x.cancel ≡ NoCancel
never-cancelled p owes x call under_way cannot h =
    by-place x.call (subst (λ o. OfCall p (is_owed owes p) x x.call o) under_way h.of_call)
  where
    by-place : (place : CallPlace) → OfCall p (is_owed owes p) x place (Some call) → x.cancel ≡ NoCancel
    by-place Parked h = h.0
    by-place place h =
        subst (λ b. MayBeInterrupted p (is_owed owes p) x call (waits_at x.pid call) b (has_reply place)) cannot h

-- ---- a call goes on

-- the withdrawals, also the old ones, are where they were
pub record SameOld (x y : CancelSight) : Type 0 where
  pub of : KnowsTickets x y
  pub cancels : (to sender : ℕ) → x.cancels to sender ≡ y.cancels to sender
  pub held_cancels : (name : Name) → x.held_cancels name ≡ y.held_cancels name
  pub hand_cancels : x.hand_cancels ≡ y.hand_cancels

-- the same call of the same caller has gone on, with its withdrawal where that was
pub record CallGoesOn (p : ℕ) (x y : CancelSight) : Type 0 where
  pub number_is : x.number ≡ p
  pub number : x.number ≡ y.number
  pub caller : x.caller ≡ y.caller
  pub old : SameOld x y
  pub cancel : x.cancel ≡ y.cancel
  pub goes : goes_on x.call y.call ≡ true
  pub somewhere : lands x.call y.call ≡ true → (name : Name) → LeadsNowhere x name → ⊥

-- they hold of the other sight
pub old-holds : (p : ℕ) (owes : Owing) (x y : CancelSight) → SameOld x y → CancelHolds p owes x → OldHold y
old-holds p owes x y s h =
    record {
      frames = λ to sender. subst (λ fs. AllByRecursion (IsCancelFrame y) fs) (s.cancels to sender)
          (frames-of x y s.of (x.cancels to sender) (h.frames to sender));
      held = λ name. subst (λ is. AllByRecursion (IsCancelItem y) is) (s.held_cancels name)
          (items-of x y s.of (x.held_cancels name) (h.held name));
      hand = subst (λ is. AllByRecursion (IsCancelItem y) is) s.hand_cancels
          (items-of x y s.of x.hand_cancels h.hand);
    }

-- the withdrawals of the call under way
abbrev pub is_own : ℕ → ℕ → Frame → Bool
is_own p ticket (frames.Cancel asked) = nat_eq asked.caller p && nat_eq asked.ticket ticket
is_own p ticket frame = false

-- and those that are held
abbrev pub is_held_own : ℕ → ℕ → Held → Bool
is_held_own p ticket (Request asked) = (nat_eq asked.caller p && nat_eq asked.ticket ticket) && is_withdrawal asked.call
is_held_own p ticket (Ending parcel) = false

-- the call under way itself
abbrev pub is_held_call : ℕ → ℕ → Held → Bool
is_held_call p ticket (Request asked) =
    (nat_eq asked.caller p && nat_eq asked.ticket ticket) && not (is_withdrawal asked.call)
is_held_call p ticket (Ending parcel) = false

module _ (p ticket : ℕ) where
  -- the call's own withdrawal is one of the node's
  pub own-is-cancel : (frame : Frame) → is_own p ticket frame ≡ true → is_cancel_of p frame ≡ true
  own-is-cancel (frames.Cancel asked) h =
      let both = both-true (nat_eq asked.caller p) (nat_eq asked.ticket ticket) h in both.0
  own-is-cancel frame h = absurd (false≢true h)

  own-is-of-call : (to sender : ℕ) (frame : Frame) → is_own p ticket frame ≡ true
      → is_of_call p ticket to sender frame ≡ true
  own-is-of-call to sender (frames.Cancel asked) h = h
  own-is-of-call to sender frame h = absurd (false≢true h)

  or-none : (b : Bool) → b ≡ (b || false)
  or-none true = refl
  or-none false = refl

  -- a frame of the call is about it, or is its withdrawal
  pub of-call-is : (to sender : ℕ) (frame : Frame)
      → is_of_call p ticket to sender frame ≡ (is_about p to sender frame || is_own p ticket frame)
  of-call-is to sender (frames.Cancel asked) = refl
  of-call-is to sender frame = or-none (is_about p to sender frame)

  three : (a b w : Bool) → ((a && b) && w) ≡ true → (a && w) ≡ true
  three true true w h = h
  three true false w h = absurd (false≢true h)
  three false b w h = absurd (false≢true h)

  -- also where it is held
  pub held-own-is-cancel : (item : Held) → is_held_own p ticket item ≡ true → is_held_cancel_of p item ≡ true
  held-own-is-cancel (Request asked) h = three (nat_eq asked.caller p) (nat_eq asked.ticket ticket) _ h
  held-own-is-cancel (Ending parcel) h = absurd (false≢true h)

  -- a call that is held is about itself
  pub held-call-is-about : (item : Held) → is_held_call p ticket item ≡ true → is_item_about p item ≡ true
  held-call-is-about (Request asked) h = three (nat_eq asked.caller p) (nat_eq asked.ticket ticket) _ h
  held-call-is-about (Ending parcel) h = absurd (false≢true h)

  held-own-is-of-call : (item : Held) → is_held_own p ticket item ≡ true → is_held_of_call p ticket item ≡ true
  held-own-is-of-call (Request asked) h =
      let both = both-true (nat_eq asked.caller p && nat_eq asked.ticket ticket) _ h in both.0
  held-own-is-of-call (Ending parcel) h = absurd (false≢true h)

  either : (a w : Bool) → a ≡ ((a && not w) || (a && w))
  either true true = refl
  either true false = refl
  either false w = refl

  -- an item of the call is the call, or its withdrawal
  pub held-of-call-is : (item : Held)
      → is_held_of_call p ticket item ≡ (is_held_call p ticket item || is_held_own p ticket item)
  held-of-call-is (Request asked) =
      either (nat_eq asked.caller p && nat_eq asked.ticket ticket) (is_withdrawal asked.call)
  held-of-call-is (Ending parcel) = refl

-- no frame of a call is a withdrawal
frame-is-no-cancel : (p ticket : ℕ) (place : CallPlace) (asked : Asked) → is_own p ticket (frame_at place asked) ≡ false
frame-is-no-cancel p ticket InAsk asked = refl
frame-is-no-cancel p ticket place asked = refl

-- equal numbers pass both tests
pub both-same : (m n k l : ℕ) → m ≡ n → k ≡ l → (nat_eq m n && nat_eq k l) ≡ true
both-same m n k l e f = rw (eq-eqb m n e, eq-eqb k l f) refl

-- a call that may have to wait is no withdrawal
pub parks-is-no-cancel : (call : Call) → may_park call ≡ true → is_withdrawal call ≡ false
parks-is-no-cancel (calls.Withdraw name) h = absurd (false≢true h)
parks-is-no-cancel call h = refl

-- of what is held about the node's call the call under way is kept
pub call-is-kept : (p : ℕ) (asked : Asked) → asked.caller ≡ p → may_park asked.call ≡ true → (items : List Held)
    (there : Bool)
    → filter (is_item_about p) items ≡ only_if there (Request asked)
    → filter (is_held_call p asked.ticket) items ≡ only_if there (Request asked)
call-is-kept p asked caller parks items there is =
    call-kept (is_item_about p) (is_held_call p asked.ticket) (held-call-is-about p asked.ticket) items there
    (Request asked)
    (λ e. ap (λ t. t && not (is_withdrawal asked.call)) (both-same asked.caller p asked.ticket asked.ticket caller refl)
    ∙ ap not (parks-is-no-cancel asked.call parks)) is

-- the withdrawal of a call, as it is asked for
abbrev pub withdrawal : CancelSight → Call → Asked
withdrawal x call = asked_as x (calls.Withdraw (waits_at x.pid call))

module _ (script : Script) (p : ℕ) (more : ℕ → Bool) (w w' : World) (hand hand' : List Held) (b b' : Beside)
    (g : CallGoesOn p (cancel_sight w hand b p) (cancel_sight w' hand' b' p)) (call : Call)
    (follows : FollowsItsCall p (cancel_sight w hand b p) (asked_as (cancel_sight w hand b p) call)
    (withdrawal (cancel_sight w hand b p) call))
    (parks : may_park call ≡ true)
    (a : IsApart (cancel_sight w hand b p).cancel (cancel_sight w' hand' b' p).call)
    (after : HasCall script p more (call_sight w' hand' b' p) call) where
  abbrev x : CancelSight
  x = cancel_sight w hand b p

  abbrev y : CancelSight
  y = cancel_sight w' hand' b' p

  old : SameOld x y
  old = g.old

  of : KnowsTickets x y
  of = old.of

  same-withdrawal : withdrawal x call ≡ withdrawal y call
  same-withdrawal = λ i. record {
    caller = g.number i;
    ticket = (g.caller i).ticket;
    pid = of.pid i;
    call = calls.Withdraw (waits_at (of.pid i) call);
  }

  own-frames : (to sender : ℕ)
      → filter (is_own p y.caller.ticket) (frames_to w' to sender)
      ≡ only_if (cancel_in_stream y.cancel p to sender) (frames.Cancel (withdrawal y call))
  own-frames to sender =
      ap (λ (c : Caller). filter (is_own p c.ticket) (frames_to w' to sender)) (sym g.caller)
      ∙ kept-of-same (is_own p x.caller.ticket) (is_cancel_of p) (own-is-cancel p x.caller.ticket)
      (frames_to w' to sender) (frames_to w to sender) (sym (old.cancels to sender))
      ∙ withdrawal-kept (is_own p x.caller.ticket) (is_of_call p x.caller.ticket to sender)
      (own-is-of-call p x.caller.ticket to sender) (frames_to w to sender)
      (is_in_stream x.call p to sender) (cancel_in_stream x.cancel p to sender) (frame_at x.call (asked_as x call))
      (frames.Cancel (withdrawal x call)) (frame-is-no-cancel p x.caller.ticket x.call (asked_as x call))
      (both-same x.number p x.caller.ticket x.caller.ticket g.number_is refl) (follows.in_streams to sender)
      ∙ ap (λ c. only_if (cancel_in_stream c p to sender) (frames.Cancel (withdrawal x call))) g.cancel
      ∙ ap (λ c. only_if (cancel_in_stream y.cancel p to sender) (frames.Cancel c)) same-withdrawal

  own-items : (items items' : List Held) (there also : Bool)
      → filter (is_held_cancel_of p) items ≡ filter (is_held_cancel_of p) items'
      → filter (is_held_of_call p x.caller.ticket) items
      ≡ only_if there (Request (asked_as x call)) ++ only_if also (Request (withdrawal x call))
      → filter (is_held_own p y.caller.ticket) items' ≡ only_if also (Request (withdrawal y call))
  own-items items items' there also same is =
      ap (λ (c : Caller). filter (is_held_own p c.ticket) items') (sym g.caller)
      ∙ kept-of-same (is_held_own p x.caller.ticket) (is_held_cancel_of p) (held-own-is-cancel p x.caller.ticket)
      items' items (sym same)
      ∙ withdrawal-kept (is_held_own p x.caller.ticket) (is_held_of_call p x.caller.ticket)
      (held-own-is-of-call p x.caller.ticket) items there also (Request (asked_as x call))
      (Request (withdrawal x call)) is-no-cancel
      (ap (λ t. t && true) (both-same x.number p x.caller.ticket x.caller.ticket g.number_is refl)) is
      ∙ ap (λ c. only_if also (Request c)) same-withdrawal
    where
      and-none : (t : Bool) → (t && false) ≡ false
      and-none true = refl
      and-none false = refl

      is-no-cancel : is_held_own p x.caller.ticket (Request (asked_as x call)) ≡ false
      is-no-cancel =
          ap (λ t. (nat_eq x.number p && nat_eq x.caller.ticket x.caller.ticket) && t) (parks-is-no-cancel call parks)
          ∙ and-none (nat_eq x.number p && nat_eq x.caller.ticket x.caller.ticket)

  just-there : IsJustThere p (call_sight w' hand' b' p) (asked_as y call)
  just-there = after.just_there

  -- where the call is now its withdrawal isn't, so that they are where they are said to be
  pub follows-now : FollowsItsCall p y (asked_as y call) (withdrawal y call)
  follows-now =
      record {
        in_streams = λ to sender.
            kept-of-both (is_about p to sender) (is_own p y.caller.ticket) (is_of_call p y.caller.ticket to sender)
            (of-call-is p y.caller.ticket to sender) (frames_to w' to sender) (is_in_stream y.call p to sender)
            (cancel_in_stream y.cancel p to sender) (frame_at y.call (asked_as y call))
            (frames.Cancel (withdrawal y call))
            (apart-in-streams p more y.cancel y.call apart after.between to sender) (just-there.in_streams to sender)
            (own-frames to sender);
        held_for_names = λ name.
            kept-of-both (is_held_call p y.caller.ticket) (is_held_own p y.caller.ticket)
            (is_held_of_call p y.caller.ticket)
            (held-of-call-is p y.caller.ticket) (held_for (directory_of w') name) (is_held_at y.call name)
            (cancel_held_at y.cancel name) (Request (asked_as y call)) (Request (withdrawal y call))
            (apart-in-lists y.cancel y.call apart name)
            (call-is-kept p (asked_as y call) (sym g.number ∙ g.number_is) parks (held_for (directory_of w') name)
            (is_held_at y.call name) (just-there.held_for_names name))
            (own-items (held_for (directory_of w) name) (held_for (directory_of w') name) (is_held_at x.call name)
            (cancel_held_at y.cancel name) (old.held_cancels name)
            (follows.held_for_names name
            ∙ ap (λ c. only_if (is_held_at x.call name) (Request (asked_as x call))
            ++ only_if (cancel_held_at c name) (Request (withdrawal x call))) g.cancel));
        in_hand =
            kept-of-both (is_held_call p y.caller.ticket) (is_held_own p y.caller.ticket)
            (is_held_of_call p y.caller.ticket)
            (held-of-call-is p y.caller.ticket) hand' (is_in_hand y.call)
            (cancel_in_hand y.cancel) (Request (asked_as y call)) (Request (withdrawal y call))
            (apart-in-hand y.cancel y.call apart)
            (call-is-kept p (asked_as y call) (sym g.number ∙ g.number_is) parks hand' (is_in_hand y.call)
            just-there.in_hand)
            (own-items hand hand' (is_in_hand x.call) (cancel_in_hand y.cancel) old.hand_cancels
            (follows.in_hand
            ∙ ap (λ c. only_if (is_in_hand x.call) (Request (asked_as x call))
            ++ only_if (cancel_in_hand c) (Request (withdrawal x call))) g.cancel));
      }
    where
      apart : IsApart y.cancel y.call
      apart = subst (λ c. IsApart c y.call) g.cancel a
