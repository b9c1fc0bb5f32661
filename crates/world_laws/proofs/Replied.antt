-- A call that has its reply has no withdrawal but old ones, and one that starts has none as yet.
use Rattle.std.proofs.Common.{◌≡◌, ◌⊎◌, ℕ, ◌+◌, ◌≤◌, Bool, true, false, ◌&&◌, cond, nat_eq, List, [], ◌∷◌, ◌++◌, filter, Option, Some, None, is_some, refl, ap, sym, subst, ◌∙◌, inl, inr, arith}
use Rattle.std.specs.List.{AllByRecursion}
use Rattle.std.proofs.lemmas.Bool.{ne_eqb, false≢true}
use Rattle.pico_base.specs.Home.{home_of}
use Rattle.pico_base.specs.declared.call.Call.{Call}
use Rattle.pico_base.specs.declared.numbers.Name.{Name}
use Rattle.pico_base.specs.declared.script.Script.{Script}
use Rattle.rpc_frame.specs.declared.frame.Frame.{Frame}
use Rattle.rpc_frame.specs.declared.frame.Frame.TheVariants as frames
use Rattle.kernel_laws.proofs.Plain.{not_none}
use Rattle.waiting_model.specs.Kernel.{living_at}
use Rattle.waiting_model.specs.Calls.{is_withdrawal, may_park, waits_at}
use Rattle.node_model.specs.declared.held.Held.{Held}
use Rattle.node_model.specs.declared.held.Held.TheVariants.{Request, Ending}
use Rattle.node_model.specs.Carrying.{is_own_home}
use Rattle.node_model.specs.Kinds.{is_object}
use Rattle.node_model.specs.Directory.{held_for}
use Rattle.world_model.specs.World.{World}
use Rattle.world_laws.specs.Places.{CallPlace, Parked, InAnswer, NoCancel, Beside}
use Rattle.world_laws.specs.Sights.{frames_to, directory_of}
use Rattle.world_laws.specs.Callers.{CallHolds, HasCall, HasCallOrNone, IsJustThere, call_sight, frame_at, is_about, is_held_at, is_in_hand, is_in_stream, is_item_about, may_be_in, only_if}
use Rattle.world_laws.specs.Cancels.{CancelSight, CancelHolds, FollowsItsCall, IsCancelFrame, IsCancelItem, MayBeInterrupted, OfCall, Owing, asked_as, cancel_held_at, cancel_in_hand, cancel_in_stream, cancel_sight, has_reply, is_cancel_of, is_doomed, is_held_cancel_of, is_held_of_call, is_of_call, is_owed, is_struck, may_follow}
use Rattle.world_laws.proofs.Behind.{kept-of-both}
use Rattle.world_laws.proofs.Filtered.{kept-of-kept}
use Rattle.world_laws.proofs.Cancels.{OldHold, may_be_withdrawn}
use Rattle.world_laws.proofs.Following.{SameOld, call-is-kept, both-true, held-of-call-is, held-own-is-cancel, is_held_call, is_held_own, is_own, of-call-is, old-holds, own-is-cancel, withdrawal}

-- ---- a call has its reply

-- no call of the node's may have a withdrawal under way: none is under way, or it has its reply
abbrev pub IsOver : CancelSight → Type 0
IsOver y = (y.caller.under_way ≡ None) ⊎ (has_reply y.call ≡ true)

-- nothing is to be said of its withdrawal but that there is none
over-is : (p : ℕ) (owed : Bool) (y : CancelSight) (place : CallPlace) (under_way : Option Call)
    → y.cancel ≡ NoCancel → (under_way ≡ None) ⊎ (has_reply place ≡ true)
    → OfCall p owed y place under_way
over-is p owed y place None none over = none
over-is p owed y (InAnswer from reply) (Some call) none over = answered (may_be_withdrawn y.pid call)
  where
    answered : (t : Bool) → MayBeInterrupted p owed y call (waits_at y.pid call) t true
    answered true = none
    answered false = none
over-is p owed y place (Some call) none over = absurd (not-over call over)
  where
    not-over : (call : Call) → (Some call ≡ None) ⊎ (false ≡ true) → ⊥
    not-over call (inl e) = not_none call e
    not-over call (inr e) = false≢true e

-- a call that is over has no withdrawal but old ones
pub cancel-over : (p : ℕ) (owes owes' : Owing) (x y : CancelSight) → SameOld x y → y.cancel ≡ NoCancel → IsOver y
    → (is_owed owes' p ≡ true → is_some y.caller.under_way ≡ true → is_struck y.alive ≡ true)
    → CancelHolds p owes x → CancelHolds p owes' y
cancel-over p owes owes' x y old none over strikes h =
    let kept : OldHold y = old-holds p owes x y old h
    in record {
      of_call = over-is p (is_owed owes' p) y y.call y.caller.under_way none over;
      frames = kept.frames;
      held = kept.held;
      hand = kept.hand;
      owed = strikes;
    }

-- ---- a call starts

-- It has a new ticket, and no signal has interrupted it. The process of a call that may have to wait isn't doomed.
pub record CallStarts (p : ℕ) (owed : Bool) (x y : CancelSight) (call : Call) : Type 0 where
  pub number_is : y.number ≡ p
  pub under_way : y.caller.under_way ≡ Some call
  pub unnoted : y.caller.noted ≡ false
  pub newer : x.caller.ticket + 1 ≤ y.caller.ticket
  pub old : SameOld x y
  pub cancel : y.cancel ≡ NoCancel
  pub undoomed : owed ≡ false → may_park call ≡ true → is_doomed y.alive ≡ false

none-kept : {T : Type 0} (P : T → Type 0) (test : T → Bool) → ((a : T) → P a → test a ≡ false) → (xs : List T)
    → AllByRecursion P xs → filter test xs ≡ []
none-kept P test none [] all = refl
none-kept P test none (x ∷ xs) all =
    ap (λ b. cond b (x ∷ filter test xs) (filter test xs)) (none x all.0) ∙ none-kept P test none xs all.1

not-both : (a b : Bool) → b ≡ false → (a && b) ≡ false
not-both true b h = h
not-both false b h = refl

-- a withdrawal of an earlier call isn't one of a call with a newer ticket
is-not-own : (p ticket : ℕ) (x : CancelSight) (frame : Frame) → x.caller.ticket + 1 ≤ ticket → IsCancelFrame x frame
    → is_own p ticket frame ≡ false
is-not-own p ticket x (frames.Cancel asked) newer h =
    not-both (nat_eq asked.caller p) (nat_eq asked.ticket ticket)
    (ne_eqb asked.ticket ticket (λ e. let high = h.high in omega (arith, e, high, newer)))
is-not-own p ticket x frame newer h = absurd h

is-not-held-own : (p ticket : ℕ) (x : CancelSight) (item : Held) → x.caller.ticket + 1 ≤ ticket → IsCancelItem x item
    → is_held_own p ticket item ≡ false
is-not-held-own p ticket x (Request asked) newer h =
    ap (λ b. b && is_withdrawal asked.call)
    (not-both (nat_eq asked.caller p) (nat_eq asked.ticket ticket)
    (ne_eqb asked.ticket ticket (λ e. let high = h.high in omega (arith, e, high, newer))))
is-not-held-own p ticket x (Ending parcel) newer h = absurd h

module _ (script : Script) (p : ℕ) (more : ℕ → Bool) (owes owes' : Owing) (x : CancelSight) (w' : World)
    (hand' : List Held) (b' : Beside) (call : Call)
    (s : CallStarts p (is_owed owes' p) x (cancel_sight w' hand' b' p) call)
    (strikes : is_owed owes' p ≡ true → is_struck (living_at b'.whole (b'.pids p)) ≡ true)
    (after : CallHolds script p more (call_sight w' hand' b' p)) (h : CancelHolds p owes x) where
  abbrev y : CancelSight
  y = cancel_sight w' hand' b' p

  old : SameOld x y
  old = s.old

  has-call : HasCall script p more (call_sight w' hand' b' p) call
  has-call = subst (λ u. HasCallOrNone script p more (call_sight w' hand' b' p) u) s.under_way after.call

  just-there : IsJustThere p (call_sight w' hand' b' p) (asked_as y call)
  just-there = has-call.just_there

  no-own-frames : (to sender : ℕ) → filter (is_own p y.caller.ticket) (frames_to w' to sender) ≡ []
  no-own-frames to sender =
      sym (kept-of-kept (is_own p y.caller.ticket) (is_cancel_of p) (own-is-cancel p y.caller.ticket)
      (frames_to w' to sender))
      ∙ none-kept (IsCancelFrame x) (is_own p y.caller.ticket)
      (λ f. is-not-own p y.caller.ticket x f s.newer) (y.cancels to sender)
      (subst (λ fs. AllByRecursion (IsCancelFrame x) fs) (old.cancels to sender) (h.frames to sender))

  no-own-items : (items : List Held) → AllByRecursion (IsCancelItem x) (filter (is_held_cancel_of p) items)
      → filter (is_held_own p y.caller.ticket) items ≡ []
  no-own-items items all =
      sym (kept-of-kept (is_held_own p y.caller.ticket) (is_held_cancel_of p) (held-own-is-cancel p y.caller.ticket)
      items)
      ∙ none-kept (IsCancelItem x) (is_held_own p y.caller.ticket)
      (λ item. is-not-held-own p y.caller.ticket x item s.newer) (filter (is_held_cancel_of p) items) all

  none-both : (b : Bool) → (b && false) ≡ false
  none-both true = refl
  none-both false = refl

  in-no-stream : (to sender : ℕ) → cancel_in_stream y.cancel p to sender ≡ false
  in-no-stream to sender = ap (λ c. cancel_in_stream c p to sender) s.cancel

  held-for-none : (name : Name) → cancel_held_at y.cancel name ≡ false
  held-for-none name = ap (λ c. cancel_held_at c name) s.cancel

  not-in-hand : cancel_in_hand y.cancel ≡ false
  not-in-hand = ap cancel_in_hand s.cancel

  none-beside : (a c : Bool) → c ≡ false → (a && c) ≡ false
  none-beside a c e = ap (λ b. a && b) e ∙ none-both a

  alone-in-list : (items : List Held) (there also : Bool) → also ≡ false
      → AllByRecursion (IsCancelItem x) (filter (is_held_cancel_of p) items)
      → filter (is_item_about p) items ≡ only_if there (Request (asked_as y call)) → may_park call ≡ true
      → filter (is_held_of_call p y.caller.ticket) items
      ≡ only_if there (Request (asked_as y call)) ++ only_if also (Request (withdrawal y call))
  alone-in-list items there also none all is parks =
      kept-of-both (is_held_call p y.caller.ticket) (is_held_own p y.caller.ticket)
      (is_held_of_call p y.caller.ticket) (held-of-call-is p y.caller.ticket) items there also
      (Request (asked_as y call)) (Request (withdrawal y call)) (none-beside there also none)
      (call-is-kept p (asked_as y call) s.number_is parks items there is)
      (no-own-items items all ∙ sym (ap (λ b. only_if b (Request (withdrawal y call))) none))

  -- the call is alone where it is
  alone : may_park call ≡ true → FollowsItsCall p y (asked_as y call) (withdrawal y call)
  alone parks =
      record {
        in_streams = λ to sender.
            kept-of-both (is_about p to sender) (is_own p y.caller.ticket) (is_of_call p y.caller.ticket to sender)
            (of-call-is p y.caller.ticket to sender) (frames_to w' to sender) (is_in_stream y.call p to sender)
            (cancel_in_stream y.cancel p to sender) (frame_at y.call (asked_as y call))
            (frames.Cancel (withdrawal y call))
            (none-beside (is_in_stream y.call p to sender) (cancel_in_stream y.cancel p to sender)
            (in-no-stream to sender))
            (just-there.in_streams to sender)
            (no-own-frames to sender
            ∙ sym (ap (λ b. only_if b (frames.Cancel (withdrawal y call))) (in-no-stream to sender)));
        held_for_names = λ name.
            alone-in-list (held_for (directory_of w') name) (is_held_at y.call name) (cancel_held_at y.cancel name)
            (held-for-none name)
            (subst (λ is. AllByRecursion (IsCancelItem x) is) (old.held_cancels name) (h.held name))
            (just-there.held_for_names name) parks;
        in_hand =
            alone-in-list hand' (is_in_hand y.call) (cancel_in_hand y.cancel) not-in-hand
            (subst (λ is. AllByRecursion (IsCancelItem x) is) old.hand_cancels h.hand) just-there.in_hand parks;
      }

  unnoted-still : y.caller.noted ≡ true → ⊥
  unnoted-still noted = false≢true (sym s.unnoted ∙ noted)

  may-wait : (waits : Bool) → may_be_withdrawn y.pid call ≡ waits
      → MayBeInterrupted p (is_owed owes' p) y call (waits_at y.pid call) waits false
  may-wait false e = s.cancel
  may-wait true e =
      let both = both-true (may_park call) (is_object (waits_at y.pid call)) e
      in record {
        follows = alone both.0;
        pair = ap (λ c. may_follow c y.call) s.cancel;
        noted = λ some. absurd (some s.cancel);
        struck = λ some. absurd (some s.cancel);
        nowhere = λ noted none. absurd (unnoted-still noted);
        interrupted = λ none doomed. absurd (false≢true (sym (s.undoomed none both.0) ∙ doomed));
      }

  replied : (waits : Bool) → MayBeInterrupted p (is_owed owes' p) y call (waits_at y.pid call) waits true
  replied true = s.cancel
  replied false = s.cancel

  by-place : (place : CallPlace) → y.call ≡ place → OfCall p (is_owed owes' p) y place (Some call)
  by-place Parked e =
      let parks = both-true (is_own_home (home_of y.pid call)) (may_park call)
      (ap (λ c. may_be_in c (home_of y.pid call) call) (sym e) ∙ has-call.home)
      in (s.cancel, record { unnoted = s.unnoted; undoomed = λ none. s.undoomed none parks.1 })
  by-place (InAnswer from reply) e = replied (may_be_withdrawn y.pid call)
  by-place place e = may-wait (may_be_withdrawn y.pid call) refl

  -- a call that starts has no withdrawal
  pub cancel-starts : CancelHolds p owes' y
  cancel-starts =
      let kept : OldHold y = old-holds p owes x y s.old h
      in record {
        of_call = subst (λ u. OfCall p (is_owed owes' p) y y.call u) (sym s.under_way) (by-place y.call refl);
        frames = kept.frames;
        held = kept.held;
        hand = kept.hand;
        owed = λ owed some. strikes owed;
      }
