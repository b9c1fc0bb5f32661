-- Where a call under way is: in which stream, and which frame is about it.
use Rattle.std.proofs.Common.{◌≡◌, ℕ, ◌+◌, Bool, true, false, ◌&&◌, nat_eq, [], ◌∷◌, Contains, refl, ap, sym, ◌∙◌, inl, inr}
use Rattle.std.specs.Prelude.{count_by}
use Rattle.std.proofs.lemmas.Bool.{eq-eqb, false≢true}
use Rattle.pico_base.specs.declared.call.Call.{Call}
use Rattle.pico_base.specs.declared.call.Call.TheVariants as calls
use Rattle.pico_base.specs.declared.call.Home.{Home}
use Rattle.pico_base.specs.declared.call.Home.TheVariants as homes
use Rattle.pico_base.specs.declared.numbers.Kind.{Kind}
use Rattle.pico_base.specs.declared.numbers.Name.{Name}
use Rattle.pico_base.specs.Home.{home_of}
use Rattle.rpc_frame.specs.declared.asked.Asked.{Asked}
use Rattle.kernel_laws.proofs.Members.{contains-cases, contains-none}
use Rattle.node_model.specs.Leases.{takes_number}
use Rattle.world_model.specs.Census.{one_if}
use Rattle.world_model.specs.Lives.{is_end}
use Rattle.world_laws.specs.Callers.{frame_at, is_call_of_kind, is_end_place, is_held_at, is_in_stream, may_be_in, only_if}
use Rattle.world_laws.specs.Places.{AsksLease, CallPlace, Ends, HasLease, Idle, InAnswer, InAsk, InBounce, InNotOwner, InRequest, IsHeld, IsInHand, Parked, SentByPlace, SentByRange, Waits}
use Rattle.projection_laws.specs.Projection.{IsOf, has_call, is_answer_to, is_parcel_frame}

-- ---- in which stream

-- it is in a stream
abbrev pub is_sent : CallPlace → Bool
is_sent Idle = false
is_sent (IsHeld name) = false
is_sent IsInHand = false
is_sent Ends = false
is_sent Parked = false
is_sent (Waits name) = false
is_sent place = true

-- what is in the stream is the reply
abbrev pub is_answer : CallPlace → Bool
is_answer (InAnswer h reply) = true
is_answer place = false

-- the node that it goes to
abbrev pub call_to : CallPlace → ℕ → ℕ
call_to (HasLease kind first) p = p
call_to (InRequest h) p = h
call_to (InNotOwner h) p = p
call_to (SentByPlace h) p = h
call_to (SentByRange h) p = h
call_to (InAnswer h reply) p = p
call_to place p = 1

-- and the one that it comes from
abbrev pub call_from : CallPlace → ℕ → ℕ
call_from (AsksLease kind) p = p
call_from InAsk p = p
call_from (InRequest h) p = p
call_from (InNotOwner h) p = h
call_from (InBounce h) p = h
call_from (InAnswer h reply) p = h
call_from place p = 1

-- the stream is from that one to that one
pub stream-as : (place : CallPlace) (p to sender : ℕ)
    → is_in_stream place p to sender
    ≡ (is_sent place && (nat_eq to (call_to place p) && nat_eq sender (call_from place p)))
stream-as Idle p to sender = refl
stream-as (AsksLease kind) p to sender = refl
stream-as (HasLease kind first) p to sender = refl
stream-as InAsk p to sender = refl
stream-as (InRequest h) p to sender = refl
stream-as (InNotOwner h) p to sender = refl
stream-as (SentByPlace h) p to sender = refl
stream-as (SentByRange h) p to sender = refl
stream-as (InBounce h) p to sender = refl
stream-as (IsHeld name) p to sender = refl
stream-as IsInHand p to sender = refl
stream-as (InAnswer h reply) p to sender = refl
stream-as Ends p to sender = refl
stream-as Parked p to sender = refl
stream-as (Waits name) p to sender = refl

-- ---- the frame there

-- it has the call, unless it is the reply
pub frame-has-call : (place : CallPlace) (p pid : ℕ) (asked : Asked) → asked.caller ≡ p → is_sent place ≡ true
    → is_answer place ≡ false → has_call p pid (call_to place p) (call_from place p) (frame_at place asked) ≡ true
frame-has-call (AsksLease kind) p pid asked own sent other = eq-eqb p p refl
frame-has-call (HasLease kind first) p pid asked own sent other = eq-eqb p p refl
frame-has-call InAsk p pid asked own sent other = eq-eqb p p refl
frame-has-call (InRequest h) p pid asked own sent other = eq-eqb p p refl
frame-has-call (InNotOwner h) p pid asked own sent other = eq-eqb p p refl
frame-has-call (SentByPlace h) p pid asked own sent other = eq-eqb asked.caller p own
frame-has-call (SentByRange h) p pid asked own sent other = eq-eqb asked.caller p own
frame-has-call (InBounce h) p pid asked own sent other = eq-eqb asked.caller p own
frame-has-call (InAnswer h reply) p pid asked own sent other = absurd (false≢true (sym other))
frame-has-call Idle p pid asked own sent other = absurd (false≢true sent)
frame-has-call (IsHeld name) p pid asked own sent other = absurd (false≢true sent)
frame-has-call IsInHand p pid asked own sent other = absurd (false≢true sent)
frame-has-call Ends p pid asked own sent other = absurd (false≢true sent)
frame-has-call Parked p pid asked own sent other = absurd (false≢true sent)
frame-has-call (Waits name) p pid asked own sent other = absurd (false≢true sent)

-- which has no call
pub answer-has-none : (place : CallPlace) (p pid to sender : ℕ) (asked : Asked) → is_answer place ≡ true
    → has_call p pid to sender (frame_at place asked) ≡ false
answer-has-none (InAnswer h reply) p pid to sender asked is = refl
answer-has-none place p pid to sender asked is = absurd (false≢true is)

-- and it is the reply where there is one
pub frame-answers : (place : CallPlace) (p : ℕ) (asked : Asked)
    → is_answer_to p (call_to place p) (call_from place p) (frame_at place asked) ≡ is_answer place
frame-answers (InAnswer h reply) p asked = eq-eqb p p refl
frame-answers Idle p asked = refl
frame-answers (AsksLease kind) p asked = refl
frame-answers (HasLease kind first) p asked = refl
frame-answers InAsk p asked = refl
frame-answers (InRequest h) p asked = refl
frame-answers (InNotOwner h) p asked = refl
frame-answers (SentByPlace h) p asked = refl
frame-answers (SentByRange h) p asked = refl
frame-answers (InBounce h) p asked = refl
frame-answers (IsHeld name) p asked = refl
frame-answers IsInHand p asked = refl
frame-answers Ends p asked = refl
frame-answers Parked p asked = refl
frame-answers (Waits name) p asked = refl

kind-takes : (kind : Kind) (home : Home) (call : Call) → is_call_of_kind kind home call ≡ true
    → takes_number kind call ≡ true
kind-takes kind homes.Own call e = e
kind-takes kind home call e = absurd (false≢true e)

-- the frame is of the call that was asked
pub frame-is-of : (place : CallPlace) (p pid to sender : ℕ) (asked : Asked) (home : Home)
    → may_be_in place home asked.call ≡ true → has_call p pid to sender (frame_at place asked) ≡ true
    → IsOf asked (frame_at place asked)
frame-is-of (AsksLease kind) p pid to sender asked home may has = kind-takes kind home asked.call may
frame-is-of (HasLease kind first) p pid to sender asked home may has = kind-takes kind home asked.call may
frame-is-of InAsk p pid to sender asked home may has = (refl, refl, refl)
frame-is-of (InRequest h) p pid to sender asked home may has = (refl, refl, refl)
frame-is-of (InNotOwner h) p pid to sender asked home may has = refl
frame-is-of (SentByPlace h) p pid to sender asked home may has = refl
frame-is-of (SentByRange h) p pid to sender asked home may has = refl
frame-is-of (InBounce h) p pid to sender asked home may has = refl
frame-is-of (InAnswer h reply) p pid to sender asked home may has = absurd (false≢true has)
frame-is-of Idle p pid to sender asked home may has = absurd (false≢true has)
frame-is-of (IsHeld name) p pid to sender asked home may has = absurd (false≢true has)
frame-is-of IsInHand p pid to sender asked home may has = absurd (false≢true has)
frame-is-of Ends p pid to sender asked home may has = absurd (false≢true has)
frame-is-of Parked p pid to sender asked home may has = absurd (false≢true has)
frame-is-of (Waits name) p pid to sender asked home may has = absurd (false≢true has)

-- ---- one, or none

-- what may be alone counts once where it is there and passes
pub count-only : {A : Type 0} (test : A → Bool) (t : Bool) (x : A)
    → count_by test (only_if t x) ≡ one_if (t && test x)
count-only test false x = refl
count-only test true x = by-test (test x) refl
  where
    by-test : (s : Bool) → test x ≡ s → count_by test (x ∷ []) ≡ one_if s
    by-test true e = ap (λ s. let n : ℕ = 0 + one_if s in n) e
    by-test false e = ap (λ s. let n : ℕ = 0 + one_if s in n) e

-- and what is in such a list is that
pub only-is : {A : Type 0} (t : Bool) (x y : A) → Contains (only_if t x) y → (t ≡ true) × (x ≡ y)
only-is true x y there =
    elim (contains-cases x [] y there) [
      | inl same ↦ (refl, same)
      | inr later ↦ absurd (contains-none y later)
    ]
only-is false x y there = absurd (contains-none y there)

-- ---- which calls end a process

-- the end of one is in no frame about a call, nor held for a name
pub parent-place : (place : CallPlace) (call : Call) → may_be_in place homes.Parent call ≡ true
    → is_end_place place ≡ true
parent-place Ends call e = refl
parent-place Idle call e = absurd (false≢true e)
parent-place (AsksLease kind) call e = absurd (false≢true e)
parent-place (HasLease kind first) call e = absurd (false≢true e)
parent-place InAsk call e = absurd (false≢true e)
parent-place (InRequest h) call e = absurd (false≢true e)
parent-place (InNotOwner h) call e = absurd (false≢true e)
parent-place (SentByPlace h) call e = absurd (false≢true e)
parent-place (SentByRange h) call e = absurd (false≢true e)
parent-place (InBounce h) call e = absurd (false≢true e)
parent-place (IsHeld name) call e = absurd (false≢true e)
parent-place IsInHand call e = absurd (false≢true e)
parent-place (InAnswer h reply) call e = absurd (false≢true e)
parent-place Parked call e = absurd (false≢true e)
parent-place (Waits name) call e = absurd (false≢true e)

-- so a call that is elsewhere ends none
pub no-end : (place : CallPlace) (pid : ℕ) (call : Call) → may_be_in place (home_of pid call) call ≡ true
    → is_end_place place ≡ false → is_end call ≡ false
no-end place pid (calls.Exit status) may busy =
    absurd (false≢true (sym busy ∙ parent-place place (calls.Exit status) may))
no-end place pid (calls.Killed sig) may busy =
    absurd (false≢true (sym busy ∙ parent-place place (calls.Killed sig) may))
no-end place pid call may busy = refl

-- the frame of a call that is sent brings no parcel
pub frame-no-parcel : (place : CallPlace) (asked : Asked) → is_parcel_frame (frame_at place asked) ≡ false
frame-no-parcel Idle asked = refl
frame-no-parcel (AsksLease kind) asked = refl
frame-no-parcel (HasLease kind first) asked = refl
frame-no-parcel InAsk asked = refl
frame-no-parcel (InRequest h) asked = refl
frame-no-parcel (InNotOwner h) asked = refl
frame-no-parcel (SentByPlace h) asked = refl
frame-no-parcel (SentByRange h) asked = refl
frame-no-parcel (InBounce h) asked = refl
frame-no-parcel (IsHeld name) asked = refl
frame-no-parcel IsInHand asked = refl
frame-no-parcel (InAnswer h reply) asked = refl
frame-no-parcel Ends asked = refl
frame-no-parcel Parked asked = refl
frame-no-parcel (Waits name) asked = refl

-- it is in a stream only where it doesn't end a process
pub sent-is-busy : (place : CallPlace) (p to sender : ℕ) → is_in_stream place p to sender ≡ true
    → is_end_place place ≡ false
sent-is-busy Ends p to sender e = absurd (false≢true e)
sent-is-busy place p to sender e = refl

-- nor is it held where it does
pub held-is-busy : (place : CallPlace) (name : Name) → is_held_at place name ≡ true → is_end_place place ≡ false
held-is-busy Ends name e = absurd (false≢true e)
held-is-busy place name e = refl
