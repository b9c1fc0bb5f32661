-- The calls that were held for a name are in the leader's hand: what holds of each node's call, and what that is for
-- what is on its way.
use Rattle.std.proofs.Common.{◌≡◌, ℕ, Bool, true, false, ◌&&◌, if◌then◌else◌, List, [], ◌∷◌, ◌++◌, flat_map, Option, Some, None, refl, ap, sym, ◌∙◌, inl, inr}
use Rattle.std.proofs.lemmas.Bool.{false≢true}
use Rattle.pico_base.specs.declared.call.Call.{Call}
use Rattle.pico_base.specs.declared.call.Home.{Home}
use Rattle.pico_base.specs.declared.call.Home.TheVariants as homes
use Rattle.pico_base.specs.declared.numbers.Name.{Name}
use Rattle.pico_base.specs.declared.script.Script.{Script}
use Rattle.pico_base.specs.Home.{home_of}
use Rattle.rpc_frame.specs.declared.asked.Asked.{Asked}
use Rattle.rpc_frame.specs.declared.frame.Frame.{Frame}
use Rattle.rpc_frame.specs.declared.frame.Frame.TheVariants as frames
use Rattle.node_model.specs.declared.held.Held.{Held}
use Rattle.node_model.specs.declared.held.Held.TheVariants.{Request}
use Rattle.node_model.specs.Kinds.{is_object, is_same_name}
use Rattle.node_model.specs.Serving.{waiting_as}
use Rattle.world_model.specs.Node.{Stage, Unborn, Living, Leaving, Left, Over}
use Rattle.world_model.specs.Calls.{is_for_others}
use Rattle.world_laws.specs.Places.{CallPlace, IsHeld, IsInHand, InAnswer, Ends}
use Rattle.world_laws.specs.Plays.{is_call_on, is_lasting, needs_by, steps_of, steps_if, IsNeeded, plays}
use Rattle.world_laws.specs.Names.{is_sent_by_range, range_steps_of, range_steps_if, IsSentThere}
use Rattle.world_laws.specs.Callers.{CallSight, CallHolds, HasCall, HasCallOrNone, IsNowhere, IsJustThere, IsToBeMade, HasEnded, FreeIn, IsSoFar, IsBetween, asked_of, only_if, is_in_stream, frame_at, is_held_at, is_in_hand, is_on, is_end_place, is_waiting_at, may_be_in, lease_is_over}
use Rattle.world_laws.proofs.Named.{same-name-is}

-- what was held for the name is in hand
abbrev pub taken_up : Name → CallPlace → CallPlace
taken_up name place = if is_held_at place name then IsInHand else place

-- what a held call and one in hand have in common stays
pub carried-up : (P : CallPlace → Type 0) (name : Name) → ((other : Name) → P (IsHeld other) → P IsInHand)
    → (place : CallPlace) → P place → P (taken_up name place)
carried-up P name up (IsHeld other) h = by-test (is_same_name other name)
  where
    by-test : (t : Bool) → P (if t then IsInHand else IsHeld other)
    by-test true = up other h
    by-test false = h
carried-up P name up place h = h

-- what is read of it is the same where it is of both
pub read-up : {A : Type 0} (f : CallPlace → A) (name : Name) → ((other : Name) → f IsInHand ≡ f (IsHeld other))
    → (place : CallPlace) → f (taken_up name place) ≡ f place
read-up f name same (IsHeld other) = by-test (is_same_name other name)
  where
    by-test : (t : Bool) → f (if t then IsInHand else IsHeld other) ≡ f (IsHeld other)
    by-test true = same other
    by-test false = refl
read-up f name same place = refl

-- ---- what is on its way

-- which calls were sent, and how, says what frames are for a name
pub plays-alike : (used : Bool) (call changed : ℕ → CallPlace)
    → ((lasting : Bool) (y : ℕ) → needs_by lasting (changed y) ≡ needs_by lasting (call y)) → (name : Name)
    (fs : List Frame) → plays used changed name fs ≡ plays used call name fs
plays-alike used call changed same name [] = refl
plays-alike used call changed same name (f ∷ fs) =
    ap (λ ss. ss ++ plays used changed name fs) (step-alike f)
    ∙ ap (λ ss. steps_of used call name f ++ ss) (plays-alike used call changed same name fs)
  where
    step-alike : (f : Frame) → steps_of used changed name f ≡ steps_of used call name f
    step-alike (frames.Forward asked) =
        ap (λ t. steps_if (is_call_on name asked && t) IsNeeded)
        (same (used && (is_object name && is_lasting asked)) asked.caller)
    step-alike f = refl

-- and which were sent by range
pub ranges-alike : (used : Bool) (call changed : ℕ → CallPlace)
    → ((y : ℕ) → is_sent_by_range (changed y) ≡ is_sent_by_range (call y)) → (name : Name) (fs : List Frame)
    → flat_map (range_steps_of used changed name) fs ≡ flat_map (range_steps_of used call name) fs
ranges-alike used call changed same name [] = refl
ranges-alike used call changed same name (f ∷ fs) =
    ap (λ ss. ss ++ flat_map (range_steps_of used changed name) fs) (step-alike f)
    ∙ ap (λ ss. range_steps_of used call name f ++ ss) (ranges-alike used call changed same name fs)
  where
    step-alike : (f : Frame) → range_steps_of used changed name f ≡ range_steps_of used call name f
    step-alike (frames.Forward asked) =
        ap (λ t. range_steps_if (is_call_on name asked && t) IsSentThere) (same asked.caller)
    step-alike f = refl

-- ---- a node's call

-- none is held for the name any more, and what was is in hand
abbrev pub up_sight : CallSight → Name → CallSight
up_sight x name =
    record x {
      call = taken_up name x.call;
      held = λ m. if is_same_name name m then [] else x.held m;
      hand = x.held name;
    }

none-in-hand : (place : CallPlace) (asked : Asked) → [] ≡ only_if (is_in_hand place) (Request asked)
    → is_in_hand place ≡ false
none-in-hand place asked h = by-test (is_in_hand place) h
  where
    not-empty : (item : Held) → [] ≡ item ∷ [] → ⊥
    not-empty item e = cc

    by-test : (t : Bool) → [] ≡ only_if t (Request asked) → t ≡ false
    by-test true e = absurd (not-empty (Request asked) e)
    by-test false e = refl

hand-is-held : (place : CallPlace) (name : Name) → is_in_hand place ≡ false
    → is_in_hand (taken_up name place) ≡ is_held_at place name
hand-is-held (IsHeld other) name h = by-test (is_same_name other name)
  where
    by-test : (t : Bool) → is_in_hand (if t then IsInHand else IsHeld other) ≡ t
    by-test true = refl
    by-test false = refl
hand-is-held IsInHand name h = absurd (false≢true (sym h))
hand-is-held place name h = h

-- it is held for no name but as before
held-now : (place : CallPlace) (name m : Name) (asked : Asked) (items : List Held)
    → items ≡ only_if (is_held_at place m) (Request asked)
    → (if is_same_name name m then [] else items) ≡ only_if (is_held_at (taken_up name place) m) (Request asked)
held-now (IsHeld other) name m asked items e = by-tests (is_same_name name m) (is_same_name other name) refl refl
  where
    not-both : is_same_name name m ≡ true → is_same_name other name ≡ false → is_same_name other m ≡ false
    not-both g h = ap (is_same_name other) (sym (same-name-is name m g)) ∙ h

    not-other : is_same_name name m ≡ false → is_same_name other name ≡ true → is_same_name other m ≡ false
    not-other g h = ap (λ y. is_same_name y m) (same-name-is other name h) ∙ g

    by-tests : (t u : Bool) → is_same_name name m ≡ t → is_same_name other name ≡ u
        → (if t then [] else items)
        ≡ only_if (is_held_at (if u then IsInHand else IsHeld other) m) (Request asked)
    by-tests true true g h = refl
    by-tests true false g h = ap (λ b. only_if b (Request asked)) (sym (not-both g h))
    by-tests false true g h = e ∙ ap (λ b. only_if b (Request asked)) (not-other g h)
    by-tests false false g h = e
held-now place name m asked items e = by-test (is_same_name name m)
  where
    by-test : (t : Bool) → (if t then [] else items) ≡ only_if (is_held_at place m) (Request asked)
    by-test true = refl
    by-test false = e

on-for-others : (name : Name) (home : Home) → is_on name home ≡ true → is_for_others home ≡ true
on-for-others name (homes.At other) h = refl
on-for-others name (homes.Removal other) h = refl
on-for-others name homes.Own h = absurd (false≢true h)
on-for-others name homes.Keys h = absurd (false≢true h)
on-for-others name homes.Parent h = absurd (false≢true h)

module _ (script : Script) (p : ℕ) (born : ℕ → Bool) (x : CallSight) (name : Name) (none : x.hand ≡ []) where
  abbrev up : CallSight
  up = up_sight x name

  made-up : (call : Call) → IsToBeMade script p x call → IsToBeMade script p up call
  made-up call h = record { there = h.there; due = h.due; alive = h.alive; lives = h.lives; may = h.may }

  ended-up : HasEnded x → HasEnded up
  ended-up h = record { last = h.last; there = h.there; over = h.over; dead = h.dead }

  so-far-up : (call : Call) (place : CallPlace) → IsSoFar script p x call place → IsSoFar script p up call place
  so-far-up call (InAnswer sender reply) h =
      record { there = h.there; due = h.due; alive = h.alive; lives = h.lives }
  so-far-up call Ends (inl h) = inl (made-up call h)
  so-far-up call Ends (inr h) = inr (ended-up h)
  so-far-up call place h = made-up call h

  free-up : (stage : Stage) → FreeIn script p x stage → FreeIn script p up stage
  free-up Unborn h = tt
  free-up Living h =
      record { there = h.there; alive = h.alive; lives = h.lives; tickets = h.tickets; try_left = h.try_left }
  free-up Leaving h = h
  free-up Left h = h
  free-up Over h = ended-up h

  just-there-up : (asked : Asked) → IsJustThere p x asked → IsJustThere p up asked
  just-there-up asked h =
      record {
        in_streams = λ to sender. h.in_streams to sender
            ∙ sym (read-up (λ z. only_if (is_in_stream z p to sender) (frame_at z asked)) name (λ other. refl) x.call);
        held_for_names = λ m. held-now x.call name m asked (x.held m) (h.held_for_names m);
        in_hand = h.held_for_names name
            ∙ ap (λ t. only_if t (Request asked))
            (sym (hand-is-held x.call name (none-in-hand x.call asked (sym none ∙ h.in_hand))));
        waiting = λ m. h.waiting m
            ∙ sym (read-up (λ z. only_if (is_waiting_at z m) (waiting_as asked)) name (λ other. refl) x.call);
      }

  has-up : (call : Call) → HasCall script p born x call → HasCall script p born up call
  has-up call h =
      record {
        just_there = just-there-up (asked_of x call) h.just_there;
        home = carried-up (λ z. may_be_in z (home_of x.pid call) call ≡ true) name
            (λ other. on-for-others other (home_of x.pid call)) x.call h.home;
        used_up = carried-up (λ z. lease_is_over z x.leases) name (λ other g. tt) x.call h.used_up;
        between = carried-up (λ z. IsBetween p born z) name (λ other g. tt) x.call h.between;
        so_far = carried-up (λ z. IsSoFar script p up call z) name (λ other g. g) x.call
            (so-far-up call x.call h.so_far);
        at_work = h.at_work;
        started = h.started;
        tickets = h.tickets;
        try_left = h.try_left;
      }

  call-or-none-up : (o : Option Call) → HasCallOrNone script p born x o → HasCallOrNone script p born up o
  call-or-none-up None h =
      let nowhere : IsNowhere x = h.nowhere
      in record {
        nowhere = record {
          in_streams = nowhere.in_streams;
          held_for_names = λ m. none-held (is_same_name name m) (x.held m) (nowhere.held_for_names m);
          in_hand = nowhere.held_for_names name;
          waiting = nowhere.waiting;
        };
        idle = ap (taken_up name) h.idle;
        free = free-up x.stage h.free;
      }
    where
      none-held : (t : Bool) (items : List Held) → items ≡ [] → (if t then [] else items) ≡ []
      none-held true items e = refl
      none-held false items e = e
  call-or-none-up (Some call) h = has-up call h

  -- What holds of the call holds of it where what was held for the name is in hand.
  pub call-up : CallHolds script p born x → CallHolds script p born up
  call-up h =
      record {
        call = call-or-none-up x.caller.under_way h.call;
        ends = read-up is_end_place name (λ other. refl) x.call ∙ h.ends;
      }
