-- A withdrawal that is first in its stream, or in hand: it is of the call that is under way and waits, and then it is
-- where the invariant says that this call's withdrawal is; or it is an old one, and goes without a trace.
use Rattle.std.proofs.Common.{Bool, List, [], ap, cond, false, filter, nat_eq, refl, sym, true, ℕ, ◌&&◌, ◌++◌, ◌∙◌, ◌∷◌, ◌≡◌, ◌≢◌}
use Rattle.std.proofs.lemmas.Bool.{eq-eqb, eqb-true, false≢true}
use Rattle.pico_base.specs.declared.call.Call.{Call}
use Rattle.rpc_frame.specs.declared.asked.Asked.{Asked}
use Rattle.rpc_frame.specs.declared.frame.Frame.TheVariants as frames
use Rattle.rpc_frame.specs.declared.frame.Frame.{Frame}
use Rattle.waiting_model.specs.Calls.{is_withdrawal, may_park, waits_at}
use Rattle.node_model.specs.declared.held.Held.TheVariants.{Ending, Request}
use Rattle.node_model.specs.declared.held.Held.{Held}
use Rattle.world_model.specs.World.{World}
use Rattle.world_laws.proofs.Following.{parks-is-no-cancel, withdrawal}
use Rattle.world_laws.specs.Callers.{frame_at, is_in_hand, is_in_stream, only_if}
use Rattle.world_laws.specs.Cancels.{CallMayWait, CancelSight, asked_as, cancel_in_hand, cancel_in_stream, cancel_sight, is_held_of_call, is_of_call, may_follow}
use Rattle.world_laws.specs.Places.{Beside, CallPlace, CancelHeld, CancelInHand, CancelPlace, InAsk, NoCancel, SentTo, ToLeader}
use Rattle.world_laws.specs.Sights.{frames_to}

-- ---- one list

nothing-there : {T : Type 0} (k : T) (ks : List T) → k ∷ ks ≡ [] → ⊥
nothing-there k ks h = cc

head-is : {T : Type 0} (x y : T) (xs ys : List T) → x ∷ xs ≡ y ∷ ys → x ≡ y
head-is x y xs ys h = cc

-- what is first, and isn't the call, is the withdrawal
first-is-it : {T : Type 0} (a c : Bool) (f w k : T) (ks : List T) → k ≢ f → k ∷ ks ≡ only_if a f ++ only_if c w
    → (a ≡ false) × (c ≡ true) × (k ≡ w)
first-is-it true c f w k ks differ h = absurd (differ (head-is k f ks (only_if c w) h))
first-is-it false true f w k ks differ h = (refl, refl, head-is k w ks [] h)
first-is-it false false f w k ks differ h = absurd (nothing-there k ks h)

abbrev asked_in : Frame → Asked → Asked
asked_in (frames.Cancel asked) other = asked
asked_in frame other = other

abbrev asked_held : Held → Asked → Asked
asked_held (Request asked) other = asked
asked_held (Ending parcel) other = other

abbrev is_cancel_frame : Frame → Bool
is_cancel_frame (frames.Cancel asked) = true
is_cancel_frame frame = false

abbrev is_cancel_item : Held → Bool
is_cancel_item (Request asked) = is_withdrawal asked.call
is_cancel_item (Ending parcel) = false

not-the-call : (place : CallPlace) (asked cancel : Asked) → frames.Cancel cancel ≢ frame_at place asked
not-the-call place asked cancel e = false≢true (sym (by place) ∙ ap is_cancel_frame (sym e))
  where
    by : (place : CallPlace) → is_cancel_frame (frame_at place asked) ≡ false
    by InAsk = refl
    by place = refl

-- ---- where it is first

-- first in a stream, or in hand
pub data IsInFront (p : ℕ) (cancel : Asked) (w : World) (hand : List Held) : CancelPlace → Type 0 where
  from_caller : (rest : List Frame) → p ≢ 1 → frames_to w 1 p ≡ frames.Cancel cancel ∷ rest
      → IsInFront p cancel w hand ToLeader
  from_leader : (to : ℕ) (rest : List Frame) → to ≢ 1 → frames_to w to 1 ≡ frames.Cancel cancel ∷ rest
      → IsInFront p cancel w hand (SentTo to)
  in_hand : (rest : List Held) → hand ≡ Request cancel ∷ rest → IsInFront p cancel w hand CancelInHand

both-true : (a b : Bool) → (a && b) ≡ true → (a ≡ true) × (b ≡ true)
both-true true b h = (refl, h)
both-true false b h = absurd (false≢true h)

to-leader-is : (p : ℕ) (c : CancelPlace) → p ≢ 1 → cancel_in_stream c p 1 p ≡ true → c ≡ ToLeader
to-leader-is p ToLeader other h = refl
to-leader-is p (SentTo to) other h =
    let both = both-true (nat_eq 1 to) (nat_eq p 1) h in absurd (other (eqb-true p 1 both.1))
to-leader-is p NoCancel other h = absurd (false≢true h)
to-leader-is p (CancelHeld name) other h = absurd (false≢true h)
to-leader-is p CancelInHand other h = absurd (false≢true h)

sent-to-is : (p to : ℕ) (c : CancelPlace) → to ≢ 1 → cancel_in_stream c p to 1 ≡ true → c ≡ SentTo to
sent-to-is p to (SentTo node) other h =
    let both = both-true (nat_eq to node) true h in ap SentTo (sym (eqb-true to node both.0))
sent-to-is p to ToLeader other h =
    let both = both-true (nat_eq to 1) (nat_eq 1 p) h in absurd (other (eqb-true to 1 both.0))
sent-to-is p to NoCancel other h = absurd (false≢true h)
sent-to-is p to (CancelHeld name) other h = absurd (false≢true h)
sent-to-is p to CancelInHand other h = absurd (false≢true h)

in-hand-is : (c : CancelPlace) → cancel_in_hand c ≡ true → c ≡ CancelInHand
in-hand-is CancelInHand h = refl
in-hand-is c h = absurd (false≢true h)

-- the call is where the withdrawal is
abbrev pub call_there : CancelPlace → CallPlace → ℕ → Bool
call_there ToLeader call p = is_in_stream call p 1 p
call_there (SentTo to) call p = is_in_stream call p to 1
call_there CancelInHand call p = is_in_hand call
call_there cancel call p = false

-- It is the withdrawal of this call, that is where it is said to be, and the call isn't in front of it any more.
pub record IsCurrent (p : ℕ) (x : CancelSight) (call : Call) (cancel : Asked) (from : CancelPlace) : Type 0 where
  pub place : x.cancel ≡ from
  pub alone : call_there from x.call p ≡ false
  pub pair : may_follow from x.call ≡ true
  pub is : cancel ≡ withdrawal x call

module _ (p : ℕ) (w : World) (hand : List Held) (b : Beside) (cancel : Asked) (of_p : cancel.caller ≡ p)
    (is_cancel : is_withdrawal cancel.call ≡ true) (call : Call) (owed : Bool)
    (parks : may_park call ≡ true)
    (m : CallMayWait p owed (cancel_sight w hand b p) call (waits_at (cancel_sight w hand b p).pid call))
    (own : cancel.ticket ≡ (cancel_sight w hand b p).caller.ticket) where
  abbrev x : CancelSight
  x = cancel_sight w hand b p

  passes : (nat_eq cancel.caller p && nat_eq cancel.ticket x.caller.ticket) ≡ true
  passes = rw (eq-eqb cancel.caller p of_p, eq-eqb cancel.ticket x.caller.ticket own) refl

  first-in-stream : (at sender : ℕ) (rest : List Frame) → frames_to w at sender ≡ frames.Cancel cancel ∷ rest
      → (is_in_stream x.call p at sender ≡ false) × (cancel_in_stream x.cancel p at sender ≡ true)
      × (frames.Cancel cancel ≡ frames.Cancel (withdrawal x call))
  first-in-stream at sender rest front =
      first-is-it (is_in_stream x.call p at sender) (cancel_in_stream x.cancel p at sender)
      (frame_at x.call (asked_as x call)) (frames.Cancel (withdrawal x call)) (frames.Cancel cancel)
      (filter (is_of_call p x.caller.ticket at sender) rest) (not-the-call x.call (asked_as x call) cancel)
      (sym (ap (filter (is_of_call p x.caller.ticket at sender)) front
      ∙ ap (λ t. cond t (frames.Cancel cancel ∷ filter (is_of_call p x.caller.ticket at sender) rest)
      (filter (is_of_call p x.caller.ticket at sender) rest)) passes)
      ∙ m.follows.in_streams at sender)

  not-the-item : Request cancel ≢ Request (asked_as x call)
  not-the-item e =
      false≢true (sym (parks-is-no-cancel call parks) ∙ ap is_cancel_item (sym e) ∙ is_cancel)

  first-in-hand : (rest : List Held) → hand ≡ Request cancel ∷ rest
      → (is_in_hand x.call ≡ false) × (cancel_in_hand x.cancel ≡ true) × (Request cancel ≡ Request (withdrawal x call))
  first-in-hand rest front =
      first-is-it (is_in_hand x.call) (cancel_in_hand x.cancel)
      (Request (asked_as x call)) (Request (withdrawal x call)) (Request cancel)
      (filter (is_held_of_call p x.caller.ticket) rest) not-the-item
      (sym (ap (filter (is_held_of_call p x.caller.ticket)) front
      ∙ ap (λ t. cond t (Request cancel ∷ filter (is_held_of_call p x.caller.ticket) rest)
      (filter (is_held_of_call p x.caller.ticket) rest)) passes)
      ∙ m.follows.in_hand)

  -- A withdrawal with the ticket of a call that waits and has no reply is that call's.
  pub is-current : (from : CancelPlace) → IsInFront p cancel w hand from → IsCurrent p x call cancel from
  is-current ToLeader (from_caller rest other front) =
      let both = first-in-stream 1 p rest front
      in record {
        place = to-leader-is p x.cancel other both.1;
        alone = both.0;
        pair = ap (λ c. may_follow c x.call) (sym (to-leader-is p x.cancel other both.1)) ∙ m.pair;
        is = ap (λ f. asked_in f cancel) both.2;
      }
  is-current (SentTo to) (from_leader _ rest other front) =
      let both = first-in-stream to 1 rest front
      in record {
        place = sent-to-is p to x.cancel other both.1;
        alone = both.0;
        pair = ap (λ c. may_follow c x.call) (sym (sent-to-is p to x.cancel other both.1)) ∙ m.pair;
        is = ap (λ f. asked_in f cancel) both.2;
      }
  is-current CancelInHand (in_hand rest front) =
      let both = first-in-hand rest front
      in record {
        place = in-hand-is x.cancel both.1;
        alone = both.0;
        pair = ap (λ c. may_follow c x.call) (sym (in-hand-is x.cancel both.1)) ∙ m.pair;
        is = ap (λ f. asked_held f cancel) both.2;
      }
  is-current NoCancel none = elim none [ ]
  is-current (CancelHeld name) none = elim none [ ]
