-- At rest no call is under way but those that wait, and the ends of processes that have left.
use Rattle.std.proofs.Common.{◌≡◌, ◌≢◌, ◌⊎◌, ℕ, ◌≤◌, Bool, true, false, not, ◌&&◌, nat_eq, List, [], ◌∷◌, filter, Option, Some, None, IsSome, is_some, refl, ap, sym, subst, ◌∙◌, inl, inr, arith}
use Rattle.std.proofs.lemmas.Bool.{cases_eq, eq-eqb, false≢true, lt-ltb}
use Rattle.pico_base.specs.declared.call.Call.{Call}
use Rattle.pico_base.specs.declared.call.Home.{Home}
use Rattle.pico_base.specs.declared.script.Event.TheVariants as events
use Rattle.pico_base.specs.declared.script.Script.{Script}
use Rattle.pico_base.specs.Home.{home_of}
use Rattle.rpc_frame.specs.declared.frame.Frame.{Frame}
use Rattle.kernel_model.specs.Fitting.{IsDue}
use Rattle.kernel_model.specs.Kernel.{living_at}
use Rattle.kernel_model.specs.Row.{Alive}
use Rattle.waiting_model.specs.Calls.{may_park}
use Rattle.node_model.specs.Caller.{caller_place}
use Rattle.node_model.specs.Carrying.{is_own_home}
use Rattle.world_model.specs.Lives.{is_end}
use Rattle.world_model.specs.Node.{Leaving, Left, Living, Over, Stage, Unborn, can_run, is_living}
use Rattle.world_model.specs.Run.{IsAtRest}
use Rattle.world_model.specs.World.{World, is_enabled, is_number, is_run_enabled, node_at, node_count}
use Rattle.world_laws.specs.Callers.{CallHolds, CallSight, HasCall, HasCallOrNone, HasNoCall, IsJustThere, IsSoFar, IsToBeMade, asked_of, call_sight, frame_at, is_about, is_at_work, is_end_place, is_end_stage, is_held_at, is_in_hand, is_in_stream, is_item_about, is_on, may_be_in, only_if}
use Rattle.world_laws.specs.Families.{NodeHolds, is_first_stage}
use Rattle.world_laws.specs.Invariant.{Holds}
use Rattle.world_laws.specs.Places.{AsksLease, Beside, CallPlace, Ends, HasLease, Idle, InAnswer, InAsk, InBounce, InNotOwner, InRequest, IsHeld, IsInHand, Parked, SentByPlace, SentByRange, Waits}
use Rattle.world_laws.specs.Sights.{frames_to, is_born_in, node_of, stage_of}
use Rattle.world_laws.specs.Ways.{Way, collected, gone, here, is_leaving_frame, is_recall_all, knows_parent, over, tells, under_way_of, way_sight}
use Rattle.world_laws.proofs.Named.{same-name}
use Rattle.rule_laws.proofs.Nodes.{and-true}
use Rattle.world_laws.proofs.Steps.{node-there}
use Rattle.rule_laws.proofs.ends.RecallAlls.{ends-by-end}
use Rattle.bound_laws.specs.Bounded.{IsBounded}
use Rattle.rest_laws.specs.Laws.{IsNodeAtRest}
use Rattle.rest_laws.proofs.Held.{nothing-held}
use Rattle.rest_laws.proofs.Streams.{all-empty}

-- ---- where a call would be

abbrev is_sent : CallPlace → Bool
is_sent Idle = false
is_sent (IsHeld name) = false
is_sent IsInHand = false
is_sent Ends = false
is_sent Parked = false
is_sent (Waits name) = false
is_sent place = true

abbrev call_to : CallPlace → ℕ → ℕ
call_to (HasLease kind first) p = p
call_to (InRequest h) p = h
call_to (InNotOwner h) p = p
call_to (SentByPlace h) p = h
call_to (SentByRange h) p = h
call_to (InAnswer h reply) p = p
call_to place p = 1

abbrev call_from : CallPlace → ℕ → ℕ
call_from (AsksLease kind) p = p
call_from InAsk p = p
call_from (InRequest h) p = p
call_from (InNotOwner h) p = h
call_from (InBounce h) p = h
call_from (InAnswer h reply) p = h
call_from place p = 1

same-numbers : (to sender : ℕ) → (nat_eq to to && nat_eq sender sender) ≡ true
same-numbers to sender = rw (eq-eqb to to refl, eq-eqb sender sender refl) refl

in-its-stream : (place : CallPlace) (p : ℕ) → is_sent place ≡ true
    → is_in_stream place p (call_to place p) (call_from place p) ≡ true
in-its-stream (AsksLease kind) p h = same-numbers 1 p
in-its-stream (HasLease kind first) p h = same-numbers p 1
in-its-stream InAsk p h = same-numbers 1 p
in-its-stream (InRequest x) p h = same-numbers x p
in-its-stream (InNotOwner x) p h = same-numbers p x
in-its-stream (SentByPlace x) p h = same-numbers x 1
in-its-stream (SentByRange x) p h = same-numbers x 1
in-its-stream (InBounce x) p h = same-numbers 1 x
in-its-stream (InAnswer x reply) p h = same-numbers p x
in-its-stream Idle p h = absurd (false≢true h)
in-its-stream (IsHeld name) p h = absurd (false≢true h)
in-its-stream IsInHand p h = absurd (false≢true h)
in-its-stream Ends p h = absurd (false≢true h)
in-its-stream Parked p h = absurd (false≢true h)
in-its-stream (Waits name) p h = absurd (false≢true h)

nothing-is-one : {A B : Type 0} (t : Bool) (x : A) → t ≡ true → [] ≡ only_if t x → B
nothing-is-one {A} true x h e = absurd (differ e)
  where
    differ : [] ≡ x ∷ [] → ⊥
    differ g = cc
nothing-is-one false x h e = absurd (false≢true h)

no-frames : (f : Frame) (fs : List Frame) → [] ≡ f ∷ fs → ⊥
no-frames f fs e = cc

abbrev is_left_stage : Stage → Bool
is_left_stage Left = true
is_left_stage s = false

-- ---- a call that waits

-- parked at its caller, or at a queue or a set
abbrev pub is_waiting_place : CallPlace → Bool
is_waiting_place Parked = true
is_waiting_place (Waits name) = true
is_waiting_place place = false

-- a node's process lives, and its call waits
pub record WaitsHere (script : Script) (w : World) (b : Beside) (p : ℕ) (call : Call) : Type 0 where
  pub is : under_way_of w p ≡ Some call
  pub stage : stage_of w p ≡ Living
  pub parks : may_park call ≡ true
  pub place : is_waiting_place (b.call p) ≡ true
  pub home : may_be_in (b.call p) (home_of (node_of w p).pid call) call ≡ true
  pub due : IsDue (caller_place script p (node_of w p).caller) call
  pub alive : Alive
  pub lives : living_at b.kernel (b.pids p) ≡ Some alive

to-be-made : (script : Script) (p : ℕ) (x : CallSight) (call : Call) (place : CallPlace)
    → is_waiting_place place ≡ true → IsSoFar script p x call place → IsToBeMade script p x call
to-be-made script p x call Parked waits made = made
to-be-made script p x call (Waits name) waits made = made
to-be-made script p x call place waits made = absurd (false≢true waits)

second-of : (a b : Bool) → (a && b) ≡ true → b ≡ true
second-of true b h = h
second-of false b h = absurd (false≢true h)

parks-there : (place : CallPlace) (home : Home) (call : Call) → is_waiting_place place ≡ true
    → may_be_in place home call ≡ true → may_park call ≡ true
parks-there Parked home call waits may = second-of (is_own_home home) (may_park call) may
parks-there (Waits name) home call waits may = second-of (is_on name home) (may_park call) may
parks-there place home call waits may = absurd (false≢true waits)

ends-not : (place : CallPlace) → is_waiting_place place ≡ true → is_end_place place ≡ false
ends-not Parked waits = refl
ends-not (Waits name) waits = refl
ends-not place waits = absurd (false≢true waits)

living-is : (s : Stage) → is_at_work s ≡ true → is_end_stage s ≡ false → s ≡ Living
living-is Living work goes = refl
living-is Leaving work goes = absurd (false≢true (sym goes))
living-is Left work goes = absurd (false≢true (sym goes))
living-is s work goes = absurd (false≢true work)

module _ (script : Script) (w : World) (b : Beside) (holds : Holds script w [] b) (rest : IsAtRest w)
    (bounded : IsBounded script w []) where
  empty : (to sender : ℕ) → frames_to w to sender ≡ []
  empty to sender = all-empty script w b holds rest bounded to sender

  -- ---- calls

  module _ (p : ℕ) (low : 1 ≤ p) (high : p ≤ node_count script) where
    abbrev x : CallSight
    x = call_sight w [] b p

    call-holds : CallHolds script p (is_born_in w) x
    call-holds = holds.calls p low high

    node-holds : NodeHolds script b.pids (is_born_in w) p (node_of w p)
    node-holds = holds.nodes p low high

    -- a call that is under way ends its process, or waits
    call-rests : (call : Call) → HasCall script p (is_born_in w) x call
        → (b.call p ≡ Ends) ⊎ (is_waiting_place (b.call p) ≡ true)
    call-rests call has = by-place (b.call p) refl
      where
        just_there : IsJustThere p x (asked_of x call)
        just_there = has.just_there

        no-stream : {B : Type 0} (place : CallPlace) → b.call p ≡ place → is_sent place ≡ true → B
        no-stream place e way =
            nothing-is-one (is_in_stream (b.call p) p (call_to place p) (call_from place p))
            (frame_at (b.call p) (asked_of x call))
            (ap (λ c. is_in_stream c p (call_to place p) (call_from place p)) e ∙ in-its-stream place p way)
            (sym (ap (filter (is_about p (call_to place p) (call_from place p)))
            (empty (call_to place p) (call_from place p)))
            ∙ just_there.in_streams (call_to place p) (call_from place p))

        by-place : (place : CallPlace) → b.call p ≡ place → (b.call p ≡ Ends) ⊎ (is_waiting_place (b.call p) ≡ true)
        by-place Ends e = inl e
        by-place Parked e = inr (ap is_waiting_place e)
        by-place (Waits name) e = inr (ap is_waiting_place e)
        by-place Idle e =
            absurd
            (false≢true
            (ap (λ c. may_be_in c (home_of (node_of w p).pid call) call) (sym e) ∙ has.home))
        by-place (IsHeld name) e =
            nothing-is-one (is_held_at (b.call p) name) _
            (ap (λ c. is_held_at c name) e ∙ same-name name name refl)
            (sym (ap (filter (is_item_about p)) (nothing-held script w b holds rest bounded name))
            ∙ just_there.held_for_names name)
        by-place IsInHand e =
            nothing-is-one (is_in_hand (b.call p)) _ (ap is_in_hand e) just_there.in_hand
        by-place (AsksLease kind) e = no-stream (AsksLease kind) e refl
        by-place (HasLease kind first) e = no-stream (HasLease kind first) e refl
        by-place InAsk e = no-stream InAsk e refl
        by-place (InRequest h) e = no-stream (InRequest h) e refl
        by-place (InNotOwner h) e = no-stream (InNotOwner h) e refl
        by-place (SentByPlace h) e = no-stream (SentByPlace h) e refl
        by-place (SentByRange h) e = no-stream (SentByRange h) e refl
        by-place (InBounce h) e = no-stream (InBounce h) e refl
        by-place (InAnswer h reply) e = no-stream (InAnswer h reply) e refl

    -- it ends where a process leaves, or has left, and waits where a process lives
    record EndsHere (call : Call) : Type 0 where
      stage : is_end_stage (stage_of w p) ≡ true
      is_an_end : is_end call ≡ true

    call-at-rest : (call : Call) → under_way_of w p ≡ Some call → EndsHere call ⊎ WaitsHere script w b p call
    call-at-rest call e =
        elim (call-rests call has) [
          | inl ends ↦ inl (ends-here ends)
          | inr waits ↦ inr (waits-here waits)
        ]
      where
        has : HasCall script p (is_born_in w) x call
        has = subst (λ o. HasCallOrNone script p (is_born_in w) x o) e call-holds.call

        ends-here : b.call p ≡ Ends → EndsHere call
        ends-here place =
            record {
              stage = sym call-holds.ends ∙ ap is_end_place place;
              is_an_end = ends-by-end (node_of w p).pid call
                  (sym (ap (λ c. may_be_in c (home_of (node_of w p).pid call) call) place) ∙ has.home);
            }

        waits-here : is_waiting_place (b.call p) ≡ true → WaitsHere script w b p call
        waits-here place =
            let made : IsToBeMade script p x call = to-be-made script p x call (b.call p) place has.so_far
            in record {
              is = e;
              stage = living-is (stage_of w p) has.at_work (sym call-holds.ends ∙ ends-not (b.call p) place);
              parks = parks-there (b.call p) (home_of (node_of w p).pid call) call place has.home;
              place = place;
              home = has.home;
              due = made.due;
              alive = made.alive;
              lives = made.lives;
            }

    -- and nowhere else
    none-before : (o : Option Call) → under_way_of w p ≡ o → is_end_stage (stage_of w p) ≡ false
        → is_living (stage_of w p) ≡ false → o ≡ None
    none-before None e stage idle = refl
    none-before (Some call) e stage idle =
        elim (call-at-rest call e) [
          | inl ends ↦ absurd (false≢true (sym stage ∙ ends.stage))
          | inr waits ↦ absurd (false≢true (sym idle ∙ ap is_living waits.stage))
        ]

    pub none-free : is_end_stage (stage_of w p) ≡ false → is_living (stage_of w p) ≡ false → HasNoCall script p x
    none-free stage idle =
        subst (λ o. HasCallOrNone script p (is_born_in w) x o) (none-before (under_way_of w p) refl stage idle)
        call-holds.call

    -- ---- stages

    -- a process that lives could start a call, but that one waits
    pub living-waits : stage_of w p ≡ Living → (call : Call) × WaitsHere script w b p call
    living-waits stage = by-call (under_way_of w p) refl
      where
        can : under_way_of w p ≡ None → can_run (node_of w p) ≡ true
        can none =
            ap (λ s. is_living s && not (is_some (under_way_of w p))) stage ∙ ap (λ o. not (is_some o)) none

        enabled : under_way_of w p ≡ None → is_enabled w (events.Run p) ≡ true
        enabled none =
            and-true (is_number p) (is_run_enabled (node_at w p)) (lt-ltb 0 p low)
            (ap is_run_enabled (node-there script w holds.shape p low high) ∙ can none)

        by-call : (o : Option Call) → under_way_of w p ≡ o → (call : Call) × WaitsHere script w b p call
        by-call None e = absurd (false≢true (sym (rest (events.Run p)) ∙ enabled e))
        by-call (Some call) e =
            elim (call-at-rest call e) [
              | inl ends ↦ absurd (false≢true (sym (ap is_end_stage stage) ∙ ends.stage))
              | inr waits ↦ (call, waits)
            ]

    -- one that leaves has told so, or is asked for what it holds
    pub not-leaving : stage_of w p ≡ Leaving → ⊥
    not-leaving stage =
        elim (cases_eq p 1) [
          | inl same ↦ false≢true (sym (ap is_first_stage stage) ∙ node-holds.first same)
          | inr other ↦ by-way (holds.ways p (omega (arith, low, other)) high)
        ]
      where
        other-stage : (s : Stage) → stage_of w p ≡ s → is_at_work s ≡ false ⊎ (is_living s ≡ true) → ⊥
        other-stage s at (inl h) = false≢true (sym h ∙ ap is_at_work (sym at ∙ stage))
        other-stage s at (inr h) = false≢true (ap is_living (sym stage ∙ at) ∙ h)

        has-left : stage_of w p ≡ Left → ⊥
        has-left at = false≢true (ap is_left_stage (sym stage ∙ at))

        by-way : Way script b.pids p (knows_parent script w b.pids p) (way_sight w p) → ⊥
        by-way (here h) =
            elim h.stage [
              | inl unborn ↦ other-stage Unborn unborn (inl refl)
              | inr living ↦ other-stage Living living (inr refl)
            ]
        by-way (tells h) =
            let shows = h.shows
            in no-frames _ [] (sym (ap (filter is_leaving_frame) (empty 1 p)) ∙ shows.has_leavings)
        by-way (collected h) =
            let shows = h.shows
            in no-frames _ [] (sym (ap (filter is_recall_all) (empty p 1)) ∙ shows.has_recalls)
        by-way (over h) = has-left h.stage
        by-way (gone h) = has-left h.stage

    -- The node isn't born, has left, or is node 1, whose process is over; or its process's call waits.
    pub node-at-rest : IsNodeAtRest w p
    node-at-rest =
        record {
          stage = by-stage (stage_of w p) refl;
          calls = λ call e.
              elim (call-at-rest call e) [
                | inl ends ↦ inl (has-left (stage_of w p) refl ends.stage, ends.is_an_end)
                | inr waits ↦ inr (waits.stage, waits.parks)
              ];
        }
      where
        by-stage : (s : Stage) → stage_of w p ≡ s
            → (s ≡ Unborn) ⊎ (s ≡ Left) ⊎ ((p ≡ 1) × (s ≡ Over)) ⊎ ((s ≡ Living) × IsSome (under_way_of w p))
        by-stage Unborn e = inl refl
        by-stage Living e =
            let waits : WaitsHere script w b p (living-waits e).0 = (living-waits e).1
            in inr (inr (inr (refl, ap is_some waits.is)))
        by-stage Leaving e = absurd (not-leaving e)
        by-stage Left e = inr (inl refl)
        by-stage Over e =
            elim (cases_eq p 1) [
              | inl same ↦ inr (inr (inl (same, refl)))
              | inr other ↦ absurd (node-holds.others other e)
            ]

        has-left : (s : Stage) → stage_of w p ≡ s → is_end_stage s ≡ true → s ≡ Left
        has-left Left e h = refl
        has-left Leaving e h = absurd (not-leaving e)
        has-left s e h = absurd (false≢true h)
