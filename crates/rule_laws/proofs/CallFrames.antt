-- A frame about a call says where the call is: what stands at the head of a stream, read back to the call's place.
use Rattle.std.proofs.Common.{◌≡◌, ◌⊎◌, ℕ, Bool, true, false, ◌&&◌, List, [], ◌∷◌, nat_eq, refl, ap, sym, ◌∙◌, inl, inr}
use Rattle.std.proofs.lemmas.Bool.{eqb-true, false≢true}
use Rattle.pico_base.specs.declared.call.Call.{Call}
use Rattle.pico_base.specs.declared.numbers.Kind.{Kind}
use Rattle.rpc_frame.specs.declared.asked.Asked.{Asked}
use Rattle.rpc_frame.specs.declared.frame.Frame.{Frame}
use Rattle.rpc_frame.specs.declared.frame.Frame.TheVariants as frames
use Rattle.world_laws.specs.Places.{CallPlace, Idle, AsksLease, HasLease, InAsk, InRequest, InNotOwner, SentByPlace, SentByRange, InBounce, IsHeld, IsInHand, Parked, Waits, InAnswer, Ends}
use Rattle.world_laws.specs.Callers.{only_if, is_in_stream, frame_at}
use Rattle.rule_laws.proofs.Answers.{IsOnly, only-one}

-- ---- kinds of frames about calls

data FrameKind : Type 0 where
  AnAsk : FrameKind
  ARequest : FrameKind
  AForward : FrameKind
  ABounce : FrameKind
  AnAnswer : FrameKind
  ANotOwner : FrameKind
  ALeaseAsk : FrameKind
  ALease : FrameKind
  AnyOther : FrameKind

abbrev kind_of_frame : Frame → FrameKind
kind_of_frame (frames.Ask ticket pid call) = AnAsk
kind_of_frame (frames.Request ticket pid call) = ARequest
kind_of_frame (frames.Forward asked) = AForward
kind_of_frame (frames.Bounce asked) = ABounce
kind_of_frame (frames.Answer ticket reply) = AnAnswer
kind_of_frame (frames.NotOwner ticket) = ANotOwner
kind_of_frame (frames.LeaseAsk kind) = ALeaseAsk
kind_of_frame (frames.Lease kind first) = ALease
kind_of_frame frame = AnyOther

none-is-not : (f : Frame) (fs : List Frame) → [] ≡ f ∷ fs → ⊥
none-is-not f fs h = cc

kinds-differ : (t : Bool) (f g : Frame) (fs : List Frame) → (kind_of_frame f ≡ kind_of_frame g → ⊥)
    → only_if t f ≡ g ∷ fs → ⊥
kinds-differ t f g fs d h =
    let one : IsOnly t f g fs = only-one t f g fs h
    in d (ap kind_of_frame one.same)

and-first : (a b : Bool) → (a && b) ≡ true → a ≡ true
and-first true b h = refl
and-first false b h = absurd (false≢true h)

and-second : (a b : Bool) → (a && b) ≡ true → b ≡ true
and-second true b h = h
and-second false b h = absurd (false≢true h)

-- ---- an Ask

pub record IsAskOf (place : CallPlace) (asked : Asked) (ticket pid : ℕ) (call : Call) (fs : List Frame) : Type 0 where
  pub place_is : place ≡ InAsk
  pub ticket_is : ticket ≡ asked.ticket
  pub pid_is : pid ≡ asked.pid
  pub call_is : call ≡ asked.call
  pub alone : fs ≡ []

ask-ticket : (a c : ℕ) (p q : ℕ) (x y : Call) → frames.Ask a p x ≡ frames.Ask c q y → c ≡ a
ask-ticket a c p q x y h = cc

ask-pid : (a c : ℕ) (p q : ℕ) (x y : Call) → frames.Ask a p x ≡ frames.Ask c q y → q ≡ p
ask-pid a c p q x y h = cc

ask-call : (a c : ℕ) (p q : ℕ) (x y : Call) → frames.Ask a p x ≡ frames.Ask c q y → y ≡ x
ask-call a c p q x y h = cc

module _ (asked : Asked) (p to sender ticket pid : ℕ) (call : Call) (fs : List Frame) where
  -- an Ask says that the call is there
  pub ask-of : (place : CallPlace)
      → only_if (is_in_stream place p to sender) (frame_at place asked) ≡ frames.Ask ticket pid call ∷ fs
      → IsAskOf place asked ticket pid call fs
  ask-of InAsk h =
      let one : IsOnly (nat_eq to 1 && nat_eq sender p) (frames.Ask asked.ticket asked.pid asked.call)
      (frames.Ask ticket pid call) fs =
      only-one (nat_eq to 1 && nat_eq sender p) (frames.Ask asked.ticket asked.pid asked.call)
      (frames.Ask ticket pid call) fs h
      in record {
        place_is = refl;
        ticket_is = ask-ticket asked.ticket ticket asked.pid pid asked.call call one.same;
        pid_is = ask-pid asked.ticket ticket asked.pid pid asked.call call one.same;
        call_is = ask-call asked.ticket ticket asked.pid pid asked.call call one.same;
        alone = one.alone;
      }
  ask-of Idle h = absurd (none-is-not _ fs h)
  ask-of (IsHeld name) h = absurd (none-is-not _ fs h)
  ask-of IsInHand h = absurd (none-is-not _ fs h)
  ask-of Parked h = absurd (none-is-not _ fs h)
  ask-of (Waits name) h = absurd (none-is-not _ fs h)
  ask-of Ends h = absurd (none-is-not _ fs h)
  ask-of (AsksLease kind) h = absurd (kinds-differ _ _ _ fs (λ e. cc) h)
  ask-of (HasLease kind first) h = absurd (kinds-differ _ _ _ fs (λ e. cc) h)
  ask-of (InRequest node) h = absurd (kinds-differ _ _ _ fs (λ e. cc) h)
  ask-of (InNotOwner node) h = absurd (kinds-differ _ _ _ fs (λ e. cc) h)
  ask-of (SentByPlace node) h = absurd (kinds-differ _ _ _ fs (λ e. cc) h)
  ask-of (SentByRange node) h = absurd (kinds-differ _ _ _ fs (λ e. cc) h)
  ask-of (InBounce node) h = absurd (kinds-differ _ _ _ fs (λ e. cc) h)
  ask-of (InAnswer node reply) h = absurd (kinds-differ _ _ _ fs (λ e. cc) h)

-- ---- a Request

pub record IsRequestOf (place : CallPlace) (asked : Asked) (to ticket pid : ℕ) (call : Call) (fs : List Frame) : Type 0
  where
    pub place_is : place ≡ InRequest to
    pub ticket_is : ticket ≡ asked.ticket
    pub pid_is : pid ≡ asked.pid
    pub call_is : call ≡ asked.call
    pub alone : fs ≡ []

request-ticket : (a c : ℕ) (p q : ℕ) (x y : Call) → frames.Request a p x ≡ frames.Request c q y → c ≡ a
request-ticket a c p q x y h = cc

request-pid : (a c : ℕ) (p q : ℕ) (x y : Call) → frames.Request a p x ≡ frames.Request c q y → q ≡ p
request-pid a c p q x y h = cc

request-call : (a c : ℕ) (p q : ℕ) (x y : Call) → frames.Request a p x ≡ frames.Request c q y → y ≡ x
request-call a c p q x y h = cc

module _ (asked : Asked) (p to sender ticket pid : ℕ) (call : Call) (fs : List Frame) where
  -- so does a Request
  pub request-of : (place : CallPlace)
      → only_if (is_in_stream place p to sender) (frame_at place asked) ≡ frames.Request ticket pid call ∷ fs
      → IsRequestOf place asked to ticket pid call fs
  request-of (InRequest node) h =
      let one : IsOnly (nat_eq to node && nat_eq sender p) (frames.Request asked.ticket asked.pid asked.call)
      (frames.Request ticket pid call) fs =
      only-one (nat_eq to node && nat_eq sender p) (frames.Request asked.ticket asked.pid asked.call)
      (frames.Request ticket pid call) fs h
      in record {
        place_is = ap InRequest (sym (eqb-true to node (and-first (nat_eq to node) (nat_eq sender p) one.is_there)));
        ticket_is = request-ticket asked.ticket ticket asked.pid pid asked.call call one.same;
        pid_is = request-pid asked.ticket ticket asked.pid pid asked.call call one.same;
        call_is = request-call asked.ticket ticket asked.pid pid asked.call call one.same;
        alone = one.alone;
      }
  request-of Idle h = absurd (none-is-not _ fs h)
  request-of (IsHeld name) h = absurd (none-is-not _ fs h)
  request-of IsInHand h = absurd (none-is-not _ fs h)
  request-of Parked h = absurd (none-is-not _ fs h)
  request-of (Waits name) h = absurd (none-is-not _ fs h)
  request-of Ends h = absurd (none-is-not _ fs h)
  request-of (AsksLease kind) h = absurd (kinds-differ _ _ _ fs (λ e. cc) h)
  request-of (HasLease kind first) h = absurd (kinds-differ _ _ _ fs (λ e. cc) h)
  request-of InAsk h = absurd (kinds-differ _ _ _ fs (λ e. cc) h)
  request-of (InNotOwner node) h = absurd (kinds-differ _ _ _ fs (λ e. cc) h)
  request-of (SentByPlace node) h = absurd (kinds-differ _ _ _ fs (λ e. cc) h)
  request-of (SentByRange node) h = absurd (kinds-differ _ _ _ fs (λ e. cc) h)
  request-of (InBounce node) h = absurd (kinds-differ _ _ _ fs (λ e. cc) h)
  request-of (InAnswer node reply) h = absurd (kinds-differ _ _ _ fs (λ e. cc) h)

-- ---- a Forward, by the name's place or by its range

pub record IsForwardOf (place : CallPlace) (asked : Asked) (to : ℕ) (it : Asked) (fs : List Frame) : Type 0 where
  pub place_is : (place ≡ SentByPlace to) ⊎ (place ≡ SentByRange to)
  pub asked_is : it ≡ asked
  pub alone : fs ≡ []

forward-asked : (a c : Asked) → frames.Forward a ≡ frames.Forward c → c ≡ a
forward-asked a c h = cc

module _ (asked : Asked) (p to sender : ℕ) (it : Asked) (fs : List Frame) where
  -- a Forward says that it was sent by place or by range
  pub forward-of : (place : CallPlace)
      → only_if (is_in_stream place p to sender) (frame_at place asked) ≡ frames.Forward it ∷ fs
      → IsForwardOf place asked to it fs
  forward-of (SentByPlace node) h =
      let one : IsOnly (nat_eq to node && nat_eq sender 1) (frames.Forward asked) (frames.Forward it) fs =
      only-one (nat_eq to node && nat_eq sender 1) (frames.Forward asked) (frames.Forward it) fs h
      in record {
        place_is = inl
            (ap SentByPlace (sym (eqb-true to node (and-first (nat_eq to node) (nat_eq sender 1) one.is_there))));
        asked_is = forward-asked asked it one.same;
        alone = one.alone;
      }
  forward-of (SentByRange node) h =
      let one : IsOnly (nat_eq to node && nat_eq sender 1) (frames.Forward asked) (frames.Forward it) fs =
      only-one (nat_eq to node && nat_eq sender 1) (frames.Forward asked) (frames.Forward it) fs h
      in record {
        place_is = inr
            (ap SentByRange (sym (eqb-true to node (and-first (nat_eq to node) (nat_eq sender 1) one.is_there))));
        asked_is = forward-asked asked it one.same;
        alone = one.alone;
      }
  forward-of Idle h = absurd (none-is-not _ fs h)
  forward-of (IsHeld name) h = absurd (none-is-not _ fs h)
  forward-of IsInHand h = absurd (none-is-not _ fs h)
  forward-of Parked h = absurd (none-is-not _ fs h)
  forward-of (Waits name) h = absurd (none-is-not _ fs h)
  forward-of Ends h = absurd (none-is-not _ fs h)
  forward-of (AsksLease kind) h = absurd (kinds-differ _ _ _ fs (λ e. cc) h)
  forward-of (HasLease kind first) h = absurd (kinds-differ _ _ _ fs (λ e. cc) h)
  forward-of InAsk h = absurd (kinds-differ _ _ _ fs (λ e. cc) h)
  forward-of (InRequest node) h = absurd (kinds-differ _ _ _ fs (λ e. cc) h)
  forward-of (InNotOwner node) h = absurd (kinds-differ _ _ _ fs (λ e. cc) h)
  forward-of (InBounce node) h = absurd (kinds-differ _ _ _ fs (λ e. cc) h)
  forward-of (InAnswer node reply) h = absurd (kinds-differ _ _ _ fs (λ e. cc) h)

-- ---- a Bounce

pub record IsBounceOf (place : CallPlace) (asked : Asked) (sender : ℕ) (it : Asked) (fs : List Frame) : Type 0 where
  pub place_is : place ≡ InBounce sender
  pub asked_is : it ≡ asked
  pub alone : fs ≡ []

bounce-asked : (a c : Asked) → frames.Bounce a ≡ frames.Bounce c → c ≡ a
bounce-asked a c h = cc

module _ (asked : Asked) (p to sender : ℕ) (it : Asked) (fs : List Frame) where
  -- a Bounce says that the call comes back
  pub bounce-of : (place : CallPlace)
      → only_if (is_in_stream place p to sender) (frame_at place asked) ≡ frames.Bounce it ∷ fs
      → IsBounceOf place asked sender it fs
  bounce-of (InBounce node) h =
      let one : IsOnly (nat_eq to 1 && nat_eq sender node) (frames.Bounce asked) (frames.Bounce it) fs =
      only-one (nat_eq to 1 && nat_eq sender node) (frames.Bounce asked) (frames.Bounce it) fs h
      in record {
        place_is = ap InBounce (sym (eqb-true sender node (and-second (nat_eq to 1)
            (nat_eq sender node) one.is_there)));
        asked_is = bounce-asked asked it one.same;
        alone = one.alone;
      }
  bounce-of Idle h = absurd (none-is-not _ fs h)
  bounce-of (IsHeld name) h = absurd (none-is-not _ fs h)
  bounce-of IsInHand h = absurd (none-is-not _ fs h)
  bounce-of Parked h = absurd (none-is-not _ fs h)
  bounce-of (Waits name) h = absurd (none-is-not _ fs h)
  bounce-of Ends h = absurd (none-is-not _ fs h)
  bounce-of (AsksLease kind) h = absurd (kinds-differ _ _ _ fs (λ e. cc) h)
  bounce-of (HasLease kind first) h = absurd (kinds-differ _ _ _ fs (λ e. cc) h)
  bounce-of InAsk h = absurd (kinds-differ _ _ _ fs (λ e. cc) h)
  bounce-of (InRequest node) h = absurd (kinds-differ _ _ _ fs (λ e. cc) h)
  bounce-of (InNotOwner node) h = absurd (kinds-differ _ _ _ fs (λ e. cc) h)
  bounce-of (SentByPlace node) h = absurd (kinds-differ _ _ _ fs (λ e. cc) h)
  bounce-of (SentByRange node) h = absurd (kinds-differ _ _ _ fs (λ e. cc) h)
  bounce-of (InAnswer node reply) h = absurd (kinds-differ _ _ _ fs (λ e. cc) h)

-- ---- a NotOwner

pub record IsNotOwnerOf (place : CallPlace) (asked : Asked) (sender ticket : ℕ) (fs : List Frame) : Type 0 where
  pub place_is : place ≡ InNotOwner sender
  pub ticket_is : ticket ≡ asked.ticket
  pub alone : fs ≡ []

not-owner-ticket : (a c : ℕ) → frames.NotOwner a ≡ frames.NotOwner c → c ≡ a
not-owner-ticket a c h = cc

module _ (asked : Asked) (p to sender ticket : ℕ) (fs : List Frame) where
  -- a NotOwner says so of a Request
  pub not-owner-of : (place : CallPlace)
      → only_if (is_in_stream place p to sender) (frame_at place asked) ≡ frames.NotOwner ticket ∷ fs
      → IsNotOwnerOf place asked sender ticket fs
  not-owner-of (InNotOwner node) h =
      let one : IsOnly (nat_eq to p && nat_eq sender node) (frames.NotOwner asked.ticket) (frames.NotOwner ticket) fs =
      only-one (nat_eq to p && nat_eq sender node) (frames.NotOwner asked.ticket) (frames.NotOwner ticket) fs h
      in record {
        place_is = ap InNotOwner (sym (eqb-true sender node (and-second (nat_eq to p)
            (nat_eq sender node) one.is_there)));
        ticket_is = not-owner-ticket asked.ticket ticket one.same;
        alone = one.alone;
      }
  not-owner-of Idle h = absurd (none-is-not _ fs h)
  not-owner-of (IsHeld name) h = absurd (none-is-not _ fs h)
  not-owner-of IsInHand h = absurd (none-is-not _ fs h)
  not-owner-of Parked h = absurd (none-is-not _ fs h)
  not-owner-of (Waits name) h = absurd (none-is-not _ fs h)
  not-owner-of Ends h = absurd (none-is-not _ fs h)
  not-owner-of (AsksLease kind) h = absurd (kinds-differ _ _ _ fs (λ e. cc) h)
  not-owner-of (HasLease kind first) h = absurd (kinds-differ _ _ _ fs (λ e. cc) h)
  not-owner-of InAsk h = absurd (kinds-differ _ _ _ fs (λ e. cc) h)
  not-owner-of (InRequest node) h = absurd (kinds-differ _ _ _ fs (λ e. cc) h)
  not-owner-of (InBounce node) h = absurd (kinds-differ _ _ _ fs (λ e. cc) h)
  not-owner-of (SentByPlace node) h = absurd (kinds-differ _ _ _ fs (λ e. cc) h)
  not-owner-of (SentByRange node) h = absurd (kinds-differ _ _ _ fs (λ e. cc) h)
  not-owner-of (InAnswer node reply) h = absurd (kinds-differ _ _ _ fs (λ e. cc) h)

-- ---- a Lease

pub record IsLeaseOf (place : CallPlace) (kind : Kind) (first : ℕ) (fs : List Frame) : Type 0 where
  pub place_is : place ≡ HasLease kind first
  pub alone : fs ≡ []

lease-kind : (a c : Kind) (x y : ℕ) → frames.Lease a x ≡ frames.Lease c y → a ≡ c
lease-kind a c x y h = cc

lease-first : (a c : Kind) (x y : ℕ) → frames.Lease a x ≡ frames.Lease c y → x ≡ y
lease-first a c x y h = cc

module _ (asked : Asked) (p to sender : ℕ) (kind : Kind) (first : ℕ) (fs : List Frame) where
  -- a Lease says that its numbers come
  pub lease-of-call : (place : CallPlace)
      → only_if (is_in_stream place p to sender) (frame_at place asked) ≡ frames.Lease kind first ∷ fs
      → IsLeaseOf place kind first fs
  lease-of-call (HasLease other number) h =
      let one : IsOnly (nat_eq to p && nat_eq sender 1) (frames.Lease other number) (frames.Lease kind first) fs =
      only-one (nat_eq to p && nat_eq sender 1) (frames.Lease other number) (frames.Lease kind first) fs h
      in record {
        place_is = ap (λ k. HasLease k number) (lease-kind other kind number first one.same)
            ∙ ap (HasLease kind) (lease-first other kind number first one.same);
        alone = one.alone;
      }
  lease-of-call Idle h = absurd (none-is-not _ fs h)
  lease-of-call (IsHeld name) h = absurd (none-is-not _ fs h)
  lease-of-call IsInHand h = absurd (none-is-not _ fs h)
  lease-of-call Parked h = absurd (none-is-not _ fs h)
  lease-of-call (Waits name) h = absurd (none-is-not _ fs h)
  lease-of-call Ends h = absurd (none-is-not _ fs h)
  lease-of-call (AsksLease other) h = absurd (kinds-differ _ _ _ fs (λ e. cc) h)
  lease-of-call InAsk h = absurd (kinds-differ _ _ _ fs (λ e. cc) h)
  lease-of-call (InRequest node) h = absurd (kinds-differ _ _ _ fs (λ e. cc) h)
  lease-of-call (InNotOwner node) h = absurd (kinds-differ _ _ _ fs (λ e. cc) h)
  lease-of-call (InBounce node) h = absurd (kinds-differ _ _ _ fs (λ e. cc) h)
  lease-of-call (SentByPlace node) h = absurd (kinds-differ _ _ _ fs (λ e. cc) h)
  lease-of-call (SentByRange node) h = absurd (kinds-differ _ _ _ fs (λ e. cc) h)
  lease-of-call (InAnswer node reply) h = absurd (kinds-differ _ _ _ fs (λ e. cc) h)
