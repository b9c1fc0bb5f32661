-- A frame about a call at the head of a stream: where the call is, and that its line may be tried.
use Rattle.std.proofs.Common.{◌≡◌, ◌⊎◌, ℕ, ◌≤◌, true, cond, List, [], ◌∷◌, filter, slice_get, refl, ap, sym, ◌∙◌, Option, Some, None, is_some, subst}
use Rattle.std.proofs.lemmas.Bool.{eq-eqb, false≢true}
use Rattle.pico_base.specs.declared.call.Call.{Call}
use Rattle.pico_base.specs.declared.numbers.Kind.{Kind}
use Rattle.pico_base.specs.declared.reply.Reply.{Reply}
use Rattle.pico_base.specs.declared.script.Script.{Script}
use Rattle.rpc_frame.specs.declared.asked.Asked.{Asked}
use Rattle.rpc_frame.specs.declared.frame.Frame.{Frame}
use Rattle.rpc_frame.specs.declared.frame.Frame.TheVariants as frames
use Rattle.node_model.specs.Caller.{lines_of}
use Rattle.world_model.specs.Node.{Node}
use Rattle.world_model.specs.World.{World, node_count}
use Rattle.world_laws.specs.Places.{Beside, AsksLease, HasLease, InAsk, InRequest, InNotOwner, SentByPlace, SentByRange, InBounce, InAnswer}
use Rattle.world_laws.specs.Sights.{node_of, is_born_in}
use Rattle.world_laws.specs.Callers.{CallHolds, CallSight, HasCall, HasTryLeft, IsJustThere, asked_of, call_sight, frame_at, is_about, is_in_stream, only_if, HasCallOrNone}
use Rattle.world_laws.specs.Families.{NodeHolds}
use Rattle.world_laws.specs.Invariant.{Holds, IsShaped, HoldsOwing}
use Rattle.world_laws.proofs.Steps.{Heads}
use Rattle.world_laws.proofs.Heads.{head-is}
use Rattle.rule_laws.proofs.Answers.{Found, IsAnswerOf, answer-of, find}
use Rattle.rule_laws.proofs.CallFrames.{IsAskOf, IsBounceOf, IsForwardOf, IsLeaseOf, IsNotOwnerOf, IsRequestOf, ask-of, bounce-of, forward-of, lease-of-call, not-owner-of, request-of}
use Rattle.rule_laws.proofs.LeaseAsks.{IsLeaseAskOf, lease-ask-of}
use Rattle.weight_laws.proofs.Costs.{MayEnd, MayEndIf}
use Rattle.node_model.specs.declared.held.Held.{Held}
use Rattle.world_laws.specs.Cancels.{Owing}

module _ (script : Script) (w : World) (b : Beside) (holds : Holds script w [] b) (c : ℕ) (low : 1 ≤ c)
    (high : c ≤ node_count script) (p q : ℕ) (frame : Frame) (rest : List Frame)
    (h : Heads script w p q frame rest) (about : is_about c p q frame ≡ true) where
  abbrev x : CallSight
  x = call_sight w [] b c

  abbrev n : Node
  n = node_of w c

  call-holds : CallHolds script c (is_born_in w) x
  call-holds = holds.calls c low high

  about-first : x.frames_about p q ≡ frame ∷ filter (is_about c p q) rest
  about-first =
      ap (filter (is_about c p q)) (head-is script w p q frame rest h)
      ∙ ap (λ t. cond t (frame ∷ filter (is_about c p q) rest) (filter (is_about c p q) rest)) about

  found : Found script c (is_born_in w) x
  found =
      find script c (is_born_in w) x p q frame (filter (is_about c p q) rest) about-first x.caller.under_way refl
      call-holds.call

  has : HasCall script c (is_born_in w) x found.call
  has = found.has

  just-there : IsJustThere c x (asked_of x found.call)
  just-there = has.just_there

  in-place : only_if (is_in_stream x.call c p q) (frame_at x.call (asked_of x found.call))
      ≡ frame ∷ filter (is_about c p q) rest
  in-place = sym (just-there.in_streams p q) ∙ about-first

  -- the call's line may be tried once more
  pub may-end : MayEnd script n
  may-end =
      let m : NodeHolds script b.pids (is_born_in w) c n = holds.nodes c low high
      in let shape : IsShaped script w = holds.shape
      in let left : HasTryLeft script c x.caller = has.try_left
      in record {
        tries = shape.tries;
        left = λ line at. left line (ap (λ y. slice_get (lines_of script y) n.caller.line) (sym m.number) ∙ at);
      }

  -- what the frame says of the place
  abbrev asked_there : Asked
  asked_there = asked_of x found.call

-- where a call is under way at a node, its line may be tried once more
pub may-end-if : (script : Script) (w : World) (hand : List Held) {owes : Owing} (b : Beside)
    → HoldsOwing script w hand owes b → (p : ℕ) → 1 ≤ p → p ≤ node_count script → MayEndIf script (node_of w p)
may-end-if script w hand b holds p low high there = by-call x.caller.under_way all.call there
  where
    x : CallSight
    x = call_sight w hand b p

    all : CallHolds script p (is_born_in w) (call_sight w hand b p)
    all = holds.calls p low high

    by-call : (o : Option Call) → HasCallOrNone script p (is_born_in w) (call_sight w hand b p) o → is_some o ≡ true
        → MayEnd script (node_of w p)
    by-call None h none = absurd (false≢true none)
    by-call (Some call) h some =
        let has : HasCall script p (is_born_in w) (call_sight w hand b p) call = h
        in let m : NodeHolds script b.pids (is_born_in w) p (node_of w p) = holds.nodes p low high
        in let shape : IsShaped script w = holds.shape
        in record {
          tries = shape.tries;
          left = subst (λ y. HasTryLeft script y (node_of w p).caller) (sym m.number) has.try_left;
        }

-- ---- the place by the frame

module _ (script : Script) (w : World) (b : Beside) (holds : Holds script w [] b) (p q : ℕ) (rest : List Frame) where
  -- an Ask is its sender's
  pub ask-place : (ticket pid : ℕ) (call : Call) → Heads script w p q (frames.Ask ticket pid call) rest
      → b.call q ≡ InAsk
  ask-place ticket pid call h =
      let f : Frame = frames.Ask ticket pid call
      in let is : IsAskOf (b.call q)
      (asked_there script w b holds q h.low_from h.high_from p q f rest h (eq-eqb q q refl)) ticket pid call
      (filter (is_about q p q) rest) =
      ask-of (asked_there script w b holds q h.low_from h.high_from p q f rest h (eq-eqb q q refl)) q p q ticket pid
      call (filter (is_about q p q) rest) (b.call q)
      (in-place script w b holds q h.low_from h.high_from p q f rest h (eq-eqb q q refl))
      in is.place_is

  -- so is a Request
  pub request-place : (ticket pid : ℕ) (call : Call) → Heads script w p q (frames.Request ticket pid call) rest
      → b.call q ≡ InRequest p
  request-place ticket pid call h =
      let f : Frame = frames.Request ticket pid call
      in let is : IsRequestOf (b.call q)
      (asked_there script w b holds q h.low_from h.high_from p q f rest h (eq-eqb q q refl)) p ticket pid call
      (filter (is_about q p q) rest) =
      request-of (asked_there script w b holds q h.low_from h.high_from p q f rest h (eq-eqb q q refl)) q p q ticket pid
      call (filter (is_about q p q) rest) (b.call q)
      (in-place script w b holds q h.low_from h.high_from p q f rest h (eq-eqb q q refl))
      in is.place_is

  -- and a LeaseAsk
  pub lease-ask-place : (kind : Kind) → Heads script w p q (frames.LeaseAsk kind) rest → b.call q ≡ AsksLease kind
  lease-ask-place kind h =
      let f : Frame = frames.LeaseAsk kind
      in let is : IsLeaseAskOf (b.call q) kind (filter (is_about q p q) rest) =
      lease-ask-of (b.call q)
      (asked_there script w b holds q h.low_from h.high_from p q f rest h (eq-eqb q q refl)) q p q kind
      (filter (is_about q p q) rest)
      (in-place script w b holds q h.low_from h.high_from p q f rest h (eq-eqb q q refl))
      in is.place_is

  -- an Answer is its receiver's
  pub answer-place : (ticket : ℕ) (reply : Reply) → Heads script w p q (frames.Answer ticket reply) rest
      → b.call p ≡ InAnswer q reply
  answer-place ticket reply h =
      let f : Frame = frames.Answer ticket reply
      in let is : IsAnswerOf (b.call p)
      (asked_there script w b holds p h.low h.high p q f rest h (eq-eqb p p refl)) q ticket reply
      (filter (is_about p p q) rest) =
      answer-of (b.call p) (asked_there script w b holds p h.low h.high p q f rest h (eq-eqb p p refl)) p q ticket reply
      (filter (is_about p p q) rest) (in-place script w b holds p h.low h.high p q f rest h (eq-eqb p p refl))
      in is.place_is

  -- so is a NotOwner
  pub not-owner-place : (ticket : ℕ) → Heads script w p q (frames.NotOwner ticket) rest → b.call p ≡ InNotOwner q
  not-owner-place ticket h =
      let f : Frame = frames.NotOwner ticket
      in let is : IsNotOwnerOf (b.call p)
      (asked_there script w b holds p h.low h.high p q f rest h (eq-eqb p p refl)) q ticket
      (filter (is_about p p q) rest) =
      not-owner-of (asked_there script w b holds p h.low h.high p q f rest h (eq-eqb p p refl)) p p q ticket
      (filter (is_about p p q) rest) (b.call p)
      (in-place script w b holds p h.low h.high p q f rest h (eq-eqb p p refl))
      in is.place_is

  -- and a Lease
  pub lease-place : (kind : Kind) (first : ℕ) → Heads script w p q (frames.Lease kind first) rest
      → b.call p ≡ HasLease kind first
  lease-place kind first h =
      let f : Frame = frames.Lease kind first
      in let is : IsLeaseOf (b.call p) kind first (filter (is_about p p q) rest) =
      lease-of-call (asked_there script w b holds p h.low h.high p q f rest h (eq-eqb p p refl)) p p q kind first
      (filter (is_about p p q) rest) (b.call p)
      (in-place script w b holds p h.low h.high p q f rest h (eq-eqb p p refl))
      in is.place_is

  -- a Forward is the call's that it brings
  pub forward-place : (asked : Asked) → Heads script w p q (frames.Forward asked) rest → 1 ≤ asked.caller
      → asked.caller ≤ node_count script → (b.call asked.caller ≡ SentByPlace p) ⊎ (b.call asked.caller ≡ SentByRange p)
  forward-place asked h low high =
      let f : Frame = frames.Forward asked
      in let c : ℕ = asked.caller
      in let is : IsForwardOf (b.call c)
      (asked_there script w b holds c low high p q f rest h (eq-eqb c c refl)) p asked
      (filter (is_about c p q) rest) =
      forward-of (asked_there script w b holds c low high p q f rest h (eq-eqb c c refl)) c p q asked
      (filter (is_about c p q) rest) (b.call c) (in-place script w b holds c low high p q f rest h (eq-eqb c c refl))
      in is.place_is

  -- and so is a Bounce
  pub bounce-place : (asked : Asked) → Heads script w p q (frames.Bounce asked) rest → 1 ≤ asked.caller
      → asked.caller ≤ node_count script → b.call asked.caller ≡ InBounce q
  bounce-place asked h low high =
      let f : Frame = frames.Bounce asked
      in let c : ℕ = asked.caller
      in let is : IsBounceOf (b.call c) (asked_there script w b holds c low high p q f rest h (eq-eqb c c refl)) q asked
      (filter (is_about c p q) rest) =
      bounce-of (asked_there script w b holds c low high p q f rest h (eq-eqb c c refl)) c p q asked
      (filter (is_about c p q) rest) (b.call c) (in-place script w b holds c low high p q f rest h (eq-eqb c c refl))
      in is.place_is
