-- The leader gives a node that asks for numbers the next range of the kind.
use Rattle.std.proofs.Common.{◌≡◌, ◌≢◌, ◌⊎◌, ℕ, ◌+◌, ◌≤◌, Bool, true, false, ◌&&◌, not, cond, if◌then◌else◌, List, [], ◌∷◌, ◌++◌, length, filter, flat_map, nat_eq, Contains, Some, None, is_some, refl, ap, sym, subst, ◌∙◌, inl, inr, arith, append-nil, length-append}
use Rattle.std.specs.List.{list_any}
use Rattle.std.proofs.lemmas.Bool.{cases_eq, eq-eqb, ne_eqb, false≢true}
use Rattle.std.proofs.lemmas.List.Elements.{Contains-push_cases, Contains-push, Contains-append_left, Contains-append_right}
use Rattle.pico_base.specs.declared.call.Call.{Call}
use Rattle.pico_base.specs.declared.numbers.Kind.{Kind}
use Rattle.pico_base.specs.declared.numbers.Kind.TheVariants as kinds
use Rattle.pico_base.specs.declared.numbers.Name.{Name}
use Rattle.pico_base.specs.declared.numbers.Name.TheVariants.{Proc}
use Rattle.pico_base.specs.declared.script.Script.{Script}
use Rattle.pico_base.specs.declared.script.Event.TheVariants as events
use Rattle.pico_base.specs.Home.{home_of}
use Rattle.rpc_frame.specs.declared.asked.Asked.{Asked}
use Rattle.rpc_frame.specs.declared.frame.Frame.{Frame}
use Rattle.rpc_frame.specs.declared.frame.Frame.TheVariants as frames
use Rattle.entry_laws.specs.Entering.{is_used_name}
use Rattle.node_model.specs.declared.held.Held.TheVariants.{Request}
use Rattle.node_model.specs.Kinds.{for_kind, kind_of, number_of, is_same_kind, get_named}
use Rattle.node_model.specs.Directory.{Directory, place_of, held_for, maker, maker_in, stays, has_more, upcoming, with_range, is_parcel_with}
use Rattle.node_model.specs.Leases.{lease_of}
use Rattle.waiting_model.specs.Marks.{Alive}
use Rattle.node_model.specs.Serving.{waiting_as}
use Rattle.world_model.specs.Node.{Node, Stage, Unborn, Living, Leaving, Left, Over, is_leader}
use Rattle.world_model.specs.Step.{Step, step_to, with_directory, send}
use Rattle.world_model.specs.Ranges.{take_lease_ask}
use Rattle.world_model.specs.Census.{brings}
use Rattle.world_model.specs.World.{World, node_count, world_after}
use Rattle.world_laws.specs.Places.{CallPlace, Idle, AsksLease, HasLease, InAsk, InRequest, InNotOwner, SentByPlace, SentByRange, InBounce, IsHeld, IsInHand, Parked, Waits, InAnswer, Ends, Beside, call_in}
use Rattle.world_laws.specs.Sights.{node_of, frames_to, directory_of, stage_of, is_born_in, is_born_stage}
use Rattle.world_laws.specs.Plays.{plays, begin, believed, is_there, is_checkpoint_of, has_any, placed_in, news}
use Rattle.world_laws.specs.Names.{NameSight, name_sight, NameHolds, IsTold, PlaysTo, belief_of, maker_tells, held_at, comes_to, is_maker, range_steps_of, range_steps_if, leases_name, leases_first, RangeStep, IsLeased, IsSentThere, forker}
use Rattle.world_laws.specs.Callers.{CallSight, call_sight, CallHolds, HasCall, HasCallOrNone, IsJustThere, IsToBeMade, IsSoFar, IsBetween, asked_of, only_if, is_in_stream, frame_at, is_held_at, is_in_hand, is_waiting_at, is_about, is_item_about, is_at_work, is_end_place, may_be_in, lease_is_over}
use Rattle.world_laws.specs.Cancels.{CancelHolds, Nothing, cancel_sight, is_held_cancel_of}
use Rattle.world_laws.specs.Wholes.{HasMarks, under_way_at}
use Rattle.world_laws.specs.Ranges.{kind_sight, KindHolds, has_lease, leases_on_way, FewRanges, lease_in, first_if, one_for, is_given}
use Rattle.world_laws.specs.Families.{NodeHolds}
use Rattle.world_laws.specs.Invariant.{Holds, IsLeading}
use Rattle.world_laws.proofs.Stays.{IsMore, SameCall, SameName, SameKind, call-stays, name-stays, kind-stays}
use Rattle.world_laws.proofs.Cancels.{same-later, still-owed}
use Rattle.world_laws.proofs.GoingOn.{cancel-goes-on}
use Rattle.world_laws.proofs.Pairs.{goes_on}
use Rattle.world_laws.proofs.Changes.{Changes, frames_if, sent, filter-is-list-map, flat_map-is-list-map, made-after, made-same, stayed, only-stayed, read-same}
use Rattle.world_laws.proofs.Sends.{frame_if}
use Rattle.world_laws.proofs.LeftAlone.{LeavesName, DirectoryLeaves, name-left-alone, kind-left-alone, few-still}
use Rattle.world_laws.proofs.Steps.{KeepsAs, Heads, world_without, take-steps, changes-by-take}
use Rattle.world_laws.proofs.Heads.{head-is, head-from-another, rest-stays, others-stay}
use Rattle.world_laws.proofs.Numbers.{maker-in-range}
use Rattle.world_laws.proofs.NewRanges.{unmade-next, range-of-next, maker-elsewhere, leased, kind-leased, no-lease-about, sum-more}
use Rattle.rule_laws.proofs.Nodes.{node-with-directory}
use Rattle.world_laws.proofs.Wholes.{LeavesWhole, marks-go-on, marks-of-others, whole-left-alone}
use Rattle.rule_laws.proofs.Withdrawals.{old-still}
use Rattle.rule_laws.proofs.CallMoves.{IsCallMove, SameButCall, cancel-if-same, call-move-keeps, move-born, steps-still, ranges-still}
use Rattle.rule_laws.proofs.Answers.{IsOnly, only-one, Found, find}

-- ---- what a LeaseAsk says of the call

abbrev is_lease_ask : Frame → Bool
is_lease_ask (frames.LeaseAsk kind) = true
is_lease_ask frame = false

pub record IsLeaseAskOf (place : CallPlace) (kind : Kind) (fs : List Frame) : Type 0 where
  pub place_is : place ≡ AsksLease kind
  pub alone : fs ≡ []

no-lease-ask : (t : Bool) (f : Frame) (kind : Kind) (fs : List Frame) → is_lease_ask f ≡ false
    → only_if t f ≡ frames.LeaseAsk kind ∷ fs → ⊥
no-lease-ask t f kind fs other h =
    let one : IsOnly t f (frames.LeaseAsk kind) fs = only-one t f (frames.LeaseAsk kind) fs h
    in false≢true (sym other ∙ ap is_lease_ask one.same)

none-is-not : (f : Frame) (fs : List Frame) → [] ≡ f ∷ fs → ⊥
none-is-not f fs h = cc

asks-same : (a c : Kind) → frames.LeaseAsk a ≡ frames.LeaseAsk c → a ≡ c
asks-same a c h = cc

-- a LeaseAsk says that the call waits for numbers
pub lease-ask-of : (place : CallPlace) (asked : Asked) (p to sender : ℕ) (kind : Kind) (fs : List Frame)
    → only_if (is_in_stream place p to sender) (frame_at place asked) ≡ frames.LeaseAsk kind ∷ fs
    → IsLeaseAskOf place kind fs
lease-ask-of (AsksLease other) asked p to sender kind fs h =
    let one : IsOnly (nat_eq to 1 && nat_eq sender p) (frames.LeaseAsk other) (frames.LeaseAsk kind) fs =
    only-one (nat_eq to 1 && nat_eq sender p) (frames.LeaseAsk other) (frames.LeaseAsk kind) fs h
    in record { place_is = ap AsksLease (asks-same other kind one.same); alone = one.alone }
lease-ask-of Idle asked p to sender kind fs h = absurd (none-is-not _ fs h)
lease-ask-of (IsHeld name) asked p to sender kind fs h = absurd (none-is-not _ fs h)
lease-ask-of IsInHand asked p to sender kind fs h = absurd (none-is-not _ fs h)
lease-ask-of Parked asked p to sender kind fs h = absurd (none-is-not _ fs h)
lease-ask-of (Waits name) asked p to sender kind fs h = absurd (none-is-not _ fs h)
lease-ask-of Ends asked p to sender kind fs h = absurd (none-is-not _ fs h)
lease-ask-of (InAnswer node answer) asked p to sender kind fs h = absurd (no-lease-ask _ _ kind fs refl h)
lease-ask-of (HasLease other first) asked p to sender kind fs h = absurd (no-lease-ask _ _ kind fs refl h)
lease-ask-of InAsk asked p to sender kind fs h = absurd (no-lease-ask _ _ kind fs refl h)
lease-ask-of (InRequest node) asked p to sender kind fs h = absurd (no-lease-ask _ _ kind fs refl h)
lease-ask-of (InNotOwner node) asked p to sender kind fs h = absurd (no-lease-ask _ _ kind fs refl h)
lease-ask-of (SentByPlace node) asked p to sender kind fs h = absurd (no-lease-ask _ _ kind fs refl h)
lease-ask-of (SentByRange node) asked p to sender kind fs h = absurd (no-lease-ask _ _ kind fs refl h)
lease-ask-of (InBounce node) asked p to sender kind fs h = absurd (no-lease-ask _ _ kind fs refl h)

-- ---- the call

-- its numbers are on their way
abbrev pub with-lease : CallSight → ℕ → Kind → ℕ → CallSight
with-lease x p kind first =
    record x {
      call = HasLease kind first;
      frames_about = λ to sender. only_if (nat_eq to p && nat_eq sender 1) (frames.Lease kind first);
    }

-- all holds of the call once its numbers are on their way
pub call-with-lease : (script : Script) (p : ℕ) (born : ℕ
    → Bool) (x : CallSight) (call : Call) (kind : Kind) (first : ℕ)
    → CallHolds script p born x → x.caller.under_way ≡ Some call → HasCall script p born x call
    → x.call ≡ AsksLease kind
    → CallHolds script p born (with-lease x p kind first)
call-with-lease script p born x call kind first holds is has place =
    record {
      call = subst (λ o. HasCallOrNone script p born (with-lease x p kind first) o) (sym is)
          (record {
            just_there = record {
              in_streams = λ to sender. refl;
              held_for_names = λ name. there.held_for_names name
                  ∙ ap (λ y. only_if (is_held_at y name) (Request (asked_of x call))) place;
              in_hand = there.in_hand
                  ∙ ap (λ y. only_if (is_in_hand y) (Request (asked_of x call))) place;
              waiting = λ name. there.waiting name
                  ∙ ap (λ y. only_if (is_waiting_at y name) (waiting_as (asked_of x call))) place;
            };
            home = sym (ap (λ y. may_be_in y (home_of x.pid call) call) place) ∙ has.home;
            used_up = subst (λ y. lease_is_over y x.leases) place has.used_up;
            between = subst (λ y. IsBetween p born y) place has.between;
            so_far = so-far;
            at_work = has.at_work;
            started = has.started;
            tickets = has.tickets;
            try_left = has.try_left;
          });
      ends = sym (ap is_end_place place) ∙ holds.ends;
    }
  where
    there : IsJustThere p x (asked_of x call)
    there = has.just_there

    made : IsToBeMade script p x call
    made = subst (λ y. IsSoFar script p x call y) place has.so_far

    so-far : IsToBeMade script p (with-lease x p kind first) call
    so-far =
        record { there = made.there; due = made.due; alive = made.alive; lives = made.lives; may = made.may }

-- ---- a name whose number is in the range

-- its maker is the node now, and a lease that has its number is on its way there
abbrev pub given-out : NameSight → ℕ → NameSight
given-out x node =
    record x { maker = Some node; ranges = λ h. x.ranges h ++ range_steps_if (nat_eq h node) IsLeased }

abbrev is_leased : RangeStep → Bool
is_leased IsLeased = true
is_leased IsSentThere = false

module _ (script : Script) (pids : ℕ → ℕ) (born : ℕ → Bool) (name : Name) (x : NameSight)
    (h : NameHolds script pids born name x) (node : ℕ) (unused : x.used ≡ false) (unmade : x.maker ≡ None) where
  not-used : x.used ≡ true → ⊥
  not-used e = false≢true (sym unused ∙ e)

  none-tells : (sender v : ℕ) → Contains (x.placed sender) v → ⊥
  none-tells sender v there =
      let told : IsTold pids name x.used x.maker sender v = h.told sender v there
      in not-used told.used

  empty : (xs : List ℕ) → ((v : ℕ) → Contains xs v → ⊥) → xs ≡ []
  empty [] none = refl
  empty (v ∷ xs) none =
      absurd (none v (Contains-append_left (v ∷ []) xs v
      (Contains-push [] v)))

  belief-same : belief_of (given-out x node) ≡ belief_of x
  belief-same =
      ap (believed x.place) (empty (x.placed node) (none-tells node))
      ∙ sym (ap (λ m. believed x.place (maker_tells x m)) unmade)

  none-sent : (q : ℕ) → Contains (x.ranges q) IsSentThere → ⊥
  none-sent q there = no-maker (sym unmade ∙ h.ranged q there)
    where
      no-maker : None ≡ Some q → ⊥
      no-maker e = cc

  leased-first : (steps : List RangeStep) → (Contains steps IsSentThere → ⊥) → (t : Bool)
      → leases_first (steps ++ range_steps_if t IsLeased) ≡ true
  leased-first [] none true = refl
  leased-first [] none false = refl
  leased-first (IsLeased ∷ steps) none t =
      leased-first steps
      (λ there. none (Contains-append_right (IsLeased ∷ []) steps IsSentThere there))
      t
  leased-first (IsSentThere ∷ steps) none t =
      absurd
      (none
      (Contains-append_left (IsSentThere ∷ []) steps IsSentThere
      (Contains-push [] IsSentThere)))

  only-leased : (q : ℕ) (t : Bool) → Contains (x.ranges q ++ range_steps_if t IsLeased) IsSentThere → ⊥
  only-leased q true there =
      elim (Contains-push_cases (x.ranges q) IsLeased IsSentThere there) [
        | inl old ↦ none-sent q old
        | inr e ↦ differ e
      ]
    where
      differ : IsLeased ≡ IsSentThere → ⊥
      differ e = false≢true (sym (ap is_leased e))
  only-leased q false there = none-sent q (subst (λ ss. Contains ss IsSentThere) (append-nil (x.ranges q)) there)

  -- all holds of an unused name whose number is given out
  pub name-given-out : NameHolds script pids born name (given-out x node)
  name-given-out =
      record {
        parts = h.parts;
        callers = h.callers;
        made = h.made;
        place_fits = h.place_fits;
        tables = h.tables;
        streams = h.streams;
        kept = h.kept;
        in_hand = h.in_hand;
        known = h.known;
        believed = λ used. absurd (not-used used);
        plays = λ q low. subst (λ v. PlaysTo (x.begins q) (x.steps q) (is_there q v)) (sym belief-same)
            (h.plays q low);
        leader = subst (λ v. is_some (x.held 1) ≡ is_there 1 v) (sym belief-same) h.leader;
        told = λ sender v there. absurd (none-tells sender v there);
        found = h.found;
        unplaced = λ used e. absurd (not-used used);
        ranged = λ q there. absurd (only-leased q (nat_eq q node) there);
        leased = λ q low. leased-first (x.ranges q) (none-sent q) (nat_eq q node);
        bound = h.bound;
        items = h.items;
      }

-- ---- the event

kind-itself : (a : Kind) → is_same_kind a a ≡ true
kind-itself kinds.Proc = refl
kind-itself kinds.Msg = refl
kind-itself kinds.Sem = refl

kind-is : (a c : Kind) → is_same_kind a c ≡ true → a ≡ c
kind-is kinds.Proc kinds.Proc h = refl
kind-is kinds.Msg kinds.Msg h = refl
kind-is kinds.Sem kinds.Sem h = refl
kind-is kinds.Proc kinds.Msg h = absurd (false≢true h)
kind-is kinds.Proc kinds.Sem h = absurd (false≢true h)
kind-is kinds.Msg kinds.Proc h = absurd (false≢true h)
kind-is kinds.Msg kinds.Sem h = absurd (false≢true h)
kind-is kinds.Sem kinds.Proc h = absurd (false≢true h)
kind-is kinds.Sem kinds.Msg h = absurd (false≢true h)

range-now : (d : Directory) (kind : Kind) (node : ℕ)
    → for_kind (with_range d kind node).ranges kind ≡ for_kind d.ranges kind ++ node ∷ []
range-now d kinds.Proc node = refl
range-now d kinds.Msg node = refl
range-now d kinds.Sem node = refl

range-still : (d : Directory) (kind other : Kind) (node : ℕ) → is_same_kind other kind ≡ false
    → for_kind (with_range d kind node).ranges other ≡ for_kind d.ranges other
range-still d kinds.Proc kinds.Msg node h = refl
range-still d kinds.Proc kinds.Sem node h = refl
range-still d kinds.Msg kinds.Proc node h = refl
range-still d kinds.Msg kinds.Sem node h = refl
range-still d kinds.Sem kinds.Proc node h = refl
range-still d kinds.Sem kinds.Msg node h = refl
range-still d kinds.Proc kinds.Proc node h = absurd (false≢true (sym h))
range-still d kinds.Msg kinds.Msg node h = absurd (false≢true (sym h))
range-still d kinds.Sem kinds.Sem node h = absurd (false≢true (sym h))

at-work-born : (stage : Stage) → is_at_work stage ≡ true → is_born_stage stage ≡ true
at-work-born Living h = refl
at-work-born Leaving h = refl
at-work-born Left h = refl
at-work-born Unborn h = absurd (false≢true h)
at-work-born Over h = absurd (false≢true h)

leading-with-range : (d : Directory) (kind : Kind) (node : ℕ) → IsLeading d → IsLeading (with_range d kind node)
leading-with-range d kind node l =
    record { stays = l.stays; processes = l.processes; queues = l.queues; sets = l.sets }

-- the ranges that there are are few enough
module _ (script : Script) (w : World) (b : Beside) (holds : Holds script w [] b) (q : ℕ) (kind : Kind)
    (enough : has_more (directory_of w) kind ≡ true)
    (rest : List Frame) (h : Heads script w 1 q (frames.LeaseAsk kind) rest) where
  abbrev frame : Frame
  frame = frames.LeaseAsk kind

  abbrev x : CallSight
  x = call_sight w [] b q

  abbrev n : Node
  n = node_of w 1

  abbrev d : Directory
  d = directory_of w

  abbrev ranges-were : List ℕ
  ranges-were = for_kind d.ranges kind

  abbrev up : ℕ
  up = upcoming d kind

  abbrev lease : Frame
  lease = frames.Lease kind up

  call-holds : CallHolds script q (is_born_in w) x
  call-holds = holds.calls q h.low_from h.high_from

  node-holds : NodeHolds script b.pids (is_born_in w) 1 n
  node-holds = holds.nodes 1 h.low h.high

  other : q ≢ 1
  other = head-from-another script w 1 q frame rest h (is_born_in w) holds.frames_fit

  about-first : x.frames_about 1 q ≡ frame ∷ filter (is_about q 1 q) rest
  about-first =
      ap (filter (is_about q 1 q)) (head-is script w 1 q frame rest h)
      ∙ ap (λ t. cond t (frame ∷ filter (is_about q 1 q) rest) (filter (is_about q 1 q) rest)) (eq-eqb q q refl)

  found : Found script q (is_born_in w) x
  found =
      find script q (is_born_in w) x 1 q frame (filter (is_about q 1 q) rest) about-first
      (node_of w q).caller.under_way refl call-holds.call

  abbrev call : Call
  call = found.call

  has : HasCall script q (is_born_in w) x call
  has = found.has

  there : IsJustThere q x (asked_of x call)
  there = has.just_there

  is-ask : IsLeaseAskOf x.call kind (filter (is_about q 1 q) rest)
  is-ask =
      lease-ask-of x.call (asked_of x call) q 1 q kind (filter (is_about q 1 q) rest)
      (sym (there.in_streams 1 q) ∙ about-first)

  born-asker : is_born_in w q ≡ true
  born-asker = at-work-born (stage_of w q) has.at_work

  abbrev after : Step
  after = send (step_to (with_directory n (with_range n.leader.directory kind q))) q lease

  all-true : (leads from enough : Bool) → leads ≡ true → from ≡ false → enough ≡ true
      → ((leads && not from) && enough) ≡ true
  all-true leads from enough a c e = rw (a, c, e) refl

  rule : take_lease_ask n q kind ≡ Some after
  rule =
      ap (λ t. if t then Some after else None)
      (all-true (is_leader n) (nat_eq q 1) (has_more n.leader.directory kind) (eq-eqb n.number 1 node-holds.number)
      (ne_eqb q 1 other) enough)

  -- what it changes

  abbrev next : World
  next = world_after (world_without w 1 q rest) 1 after

  abbrev calls-now : ℕ → CallPlace
  calls-now = call_in b.call q (HasLease kind up)

  abbrev moved : Beside
  moved = record b { call = calls-now }

  abbrev takes : List (ℕ × Frame)
  takes = (q, frame) ∷ []

  changes : Changes script 1 w next after.node takes after.sends []
  changes =
      changes-by-take script w holds.shape 1 q frame rest after h (record { low = h.low_from; high = h.high_from }, tt)

  directory-now : directory_of next ≡ with_range d kind q
  directory-now = ap (λ (m : Node). m.leader.directory) changes.here

  -- the call was in this frame alone
  left-alone : (to sender : ℕ) → filter (is_about q to sender) (changes.left to sender) ≡ []
  left-alone to sender =
      elim (cases_eq to 1) [
        | inr e ↦ away (inl e) (ap (λ t. t && nat_eq sender q) (ne_eqb to 1 e))
        | inl e ↦
            elim (cases_eq sender q) [
              | inr g ↦
                  away (inr g) (ap (λ t. nat_eq to 1 && t) (ne_eqb sender q g) ∙ and-false (nat_eq to 1))
              | inl g ↦
                  subst (λ y. filter (is_about q y sender) (changes.left y sender) ≡ []) (sym e)
                  (subst (λ z. filter (is_about q 1 z) (changes.left 1 z) ≡ []) (sym g) at-head)
            ]
      ]
    where
      and-false : (t : Bool) → (t && false) ≡ false
      and-false true = refl
      and-false false = refl

      tail-same : (y z : Frame) (ys zs : List Frame) → y ∷ ys ≡ z ∷ zs → ys ≡ zs
      tail-same y z ys zs e = cc

      away : (to ≢ 1) ⊎ (sender ≢ q) → (nat_eq to 1 && nat_eq sender q) ≡ false
          → filter (is_about q to sender) (changes.left to sender) ≡ []
      away e none =
          others-stay script 1 q w next after.node frame after.sends [] changes
          (λ t s fs. filter (is_about q t s) fs) (λ t s. filter-is-list-map (is_about q t s)) to sender e
          ∙ there.in_streams to sender
          ∙ ap (λ y. only_if (is_in_stream y q to sender) (frame_at y (asked_of x call))) is-ask.place_is
          ∙ ap (λ t. only_if t frame) none

      at-head : filter (is_about q 1 q) (changes.left 1 q) ≡ []
      at-head =
          tail-same frame frame (filter (is_about q 1 q) (changes.left 1 q)) (filter (is_about q 1 q) rest)
          (sym (ap (λ t. cond t (frame ∷ []) [] ++ filter (is_about q 1 q) (changes.left 1 q)) (eq-eqb q q refl))
          ∙ sym (rest-stays script 1 q w next after.node frame after.sends [] changes
          (λ t s fs. filter (is_about q t s) fs) (λ t s. filter-is-list-map (is_about q t s)))
          ∙ about-first)
          ∙ is-ask.alone

  directory-moves : SameButCall q d (directory_of next)
  directory-moves =
      subst (λ (y : Directory). SameButCall q d y) (sym directory-now)
      (record {
        partings_are = λ y. refl;
        known_still = λ name e. e;
        held_of_others = λ y e name. refl;
        parcels_were = λ pid parcel e. e;
        leads = leading-with-range d kind q holds.leading;
      })

  under-way-same : (y : ℕ) → under_way_at next y ≡ under_way_at w y
  under-way-same y =
      read-same script 1 w next after.node takes after.sends [] changes (λ (m : Node). m.caller.under_way) refl y

  own-marks : (a : Alive) → HasMarks (b.call q) (under_way_at w q) a → HasMarks (calls-now q) (under_way_at next q) a
  own-marks a marks =
      subst (λ place. HasMarks place (under_way_at next q) a)
      (sym (ap (λ t. if t then HasLease kind up else b.call q) (eq-eqb q q refl)))
      (subst (λ o. HasMarks (HasLease kind up) o a) (sym (under-way-same q))
      (marks-go-on (AsksLease kind) (HasLease kind up) (under_way_at w q) a refl refl
      (subst (λ place. HasMarks place (under_way_at w q) a) is-ask.place_is marks)))

  leaves-whole : LeavesWhole w next b moved
  leaves-whole =
      record {
        journal_is = changes.journal ∙ append-nil w.journal;
        lines_are = refl;
        kernel_is = refl;
        whole_is = refl;
        pids_are = λ y. refl;
        bodies_are = λ name. refl;
        marks_still = λ y a lives. marks-of-others w next b.call calls-now q
            (λ y e. ap (λ t. if t then HasLease kind up else b.call y) (ne_eqb q y (λ g. e (sym g))))
            (λ y e. under-way-same y) y a (λ e. own-marks a);
      }

  move : IsCallMove script w next [] [] Nothing Nothing b moved 1 after.node takes after.sends q
  move =
      record {
        stage = refl;
        under_way = λ left. refl;
        own = λ e. record { number = refl; pid = refl; stage = refl; caller = refl; leases = refl };
        queue_keys = refl;
        set_keys = refl;
        directory = directory-moves;
        node = node-with-directory script b.pids (is_born_in w) 1 n (with_range n.leader.directory kind q) refl
            node-holds;
        deeds = λ pid. refl;
        calls = λ y e. ap (λ t. if t then HasLease kind up else b.call y) (ne_eqb q y (λ g. e (sym g)));
        hand_of_others = λ y e. refl;
        parcels_at_hand = λ parcel e. e;
        whole = whole-left-alone w next b moved Nothing leaves-whole;
        waiters_of_others = λ y e name. refl;
        cancel_of_others = λ y e. refl;
        owed_of_others = λ y e same h. cancel-if-same y Nothing _ _ refl same h;
        plain_taken = (refl, tt);
        plain_sent = (refl, tt);
        no_birth_taken = (refl, tt);
        no_birth_sent = (refl, tt);
        of_no_other = λ y e. (ne_eqb q y (λ g. e (sym g)), tt);
        sent_of_no_other = λ y e. (ne_eqb q y (λ g. e (sym g)), tt);
        no_cancel_taken = λ y e. (refl, tt);
        no_cancel_sent = λ y e. (refl, tt);
        may_be_sent = (refl, tt);
        to_others = (other, tt);
      }

  more : IsMore (is_born_in w) (is_born_in next)
  more = move-born script w next [] [] Nothing Nothing b moved 1 after.node takes after.sends [] q h.low h.high holds
      changes
      move

  -- the call

  sent-lease : (to sender : ℕ) (t s : Bool) → nat_eq to q ≡ t
      → filter (is_about q to sender) (frames_if s (frame_if t lease ++ []))
      ≡ only_if (t && s) lease
  sent-lease to sender true true e = ap (λ u. cond u (lease ∷ []) []) e
  sent-lease to sender true false e = refl
  sent-lease to sender false true e = refl
  sent-lease to sender false false e = refl

  sight-now : SameCall (with-lease x q kind up) (call_sight next [] moved q)
  sight-now =
      record {
        number = sym (ap (λ (m : Node). m.number) (changes.others q other));
        pid = sym (ap (λ (m : Node). m.pid) (changes.others q other));
        stage = sym (ap (λ (m : Node). m.stage) (changes.others q other));
        caller = sym (ap (λ (m : Node). m.caller) (changes.others q other));
        leases = sym (ap (λ (m : Node). m.leases) (changes.others q other));
        place = refl;
        alive = refl;
        call = sym (ap (λ t. if t then HasLease kind up else b.call q) (eq-eqb q q refl));
        frames_about = λ to sender. sym (made-after script 1 w next after.node takes after.sends [] changes
            (λ t s fs. filter (is_about q t s) fs) (λ t s. filter-is-list-map (is_about q t s)) to sender
            ∙ ap (λ fs. fs ++ filter (is_about q to sender) (sent 1 after.sends to sender)) (left-alone to sender)
            ∙ sent-lease to sender (nat_eq to q) (nat_eq sender 1) refl);
        held = λ name. sym (ap (λ y. filter (is_item_about q) (held_for y name)) directory-now);
        hand = refl;
        waiters = λ name. refl;
      }

  call-now : CallHolds script q (is_born_in next) (call_sight next [] moved q)
  call-now =
      call-stays script q (is_born_in w) (is_born_in next) _ _ more sight-now
      (call-with-lease script q (is_born_in w) x call kind up call-holds found.is has is-ask.place_is)

  -- it may not wait, so it has no withdrawal
  cancel-now : CancelHolds q Nothing (cancel_sight next [] moved q)
  cancel-now =
      let h_cancel : CancelHolds q Nothing (cancel_sight w [] b q) = holds.cancels q h.low_from h.high_from
      in let asker : NodeHolds script b.pids (is_born_in w) q (node_of w q) = holds.nodes q h.low_from h.high_from
      in let same : node_of next q ≡ node_of w q = changes.others q other
      in cancel-goes-on script q (is_born_in w) (is_born_in next) Nothing Nothing w next [] [] b moved
      (record {
        number_is = asker.number;
        number = sym (ap (λ (m : Node). m.number) same);
        caller = sym (ap (λ (m : Node). m.caller) same);
        old = old-still script 1 w next after.node takes after.sends [] changes [] [] b moved q
            (sym (ap (λ (m : Node). m.pid) same))
            (same-later (let m : Node = node_of w q in m.caller) (let m : Node = node_of next q in m.caller)
            (ap (λ (m : Node). m.caller) (sym same)))
            (λ name. ap (λ (z : Directory). filter (is_held_cancel_of q) (held_for z name)) directory-now) refl
            (refl, tt) (refl, tt);
        cancel = refl;
        goes = ap (λ place. goes_on place (calls-now q)) is-ask.place_is
            ∙ ap (λ t. goes_on (AsksLease kind) (if t then HasLease kind up else b.call q)) (eq-eqb q q refl);
        somewhere = λ lands name l. not-sent l.node (sym is-ask.place_is ∙ l.is);
      })
      (still-owed q Nothing (cancel_sight w [] b q) (cancel_sight next [] moved q) refl (sym (under-way-same q))
      h_cancel) call-holds call-now h_cancel
    where
      not-sent : (node : ℕ) → AsksLease kind ≡ SentByRange node → ⊥
      not-sent node e = cc

  -- the names

  maker-other : (m : Name) → leases_name m kind up ≡ false → (t : Bool) → is_same_kind (kind_of m) kind ≡ t
      → maker (with_range d kind q) m ≡ maker d m
  maker-other m away true e =
      let same : kind_of m ≡ kind = kind-is (kind_of m) kind e
      in ap (λ k. maker_in (for_kind (with_range d kind q).ranges k) (number_of m)) same
      ∙ ap (λ rs. maker_in rs (number_of m)) (range-now d kind q)
      ∙ maker-elsewhere ranges-were q (number_of m)
      (sym (ap (λ u. u && list_any (nat_eq (number_of m)) (lease_of up)) e) ∙ away)
      ∙ ap (λ k. maker_in (for_kind d.ranges k) (number_of m)) (sym same)
  maker-other m away false e = ap (λ rs. maker_in rs (number_of m)) (range-still d kind (kind_of m) q e)

  directory-leaves-other : (m : Name) → leases_name m kind up ≡ false → DirectoryLeaves d (directory_of next) m
  directory-leaves-other m away =
      subst (λ (y : Directory). DirectoryLeaves d y m) (sym directory-now)
      (record {
        place_is = refl;
        maker_is = maker-other m away (is_same_kind (kind_of m) kind) refl;
        stays_is = λ y. refl;
        kept_is = λ pid. refl;
      })

  leaves : (m : Name) → leases_name m kind up ≡ false → LeavesName w next [] [] b moved 1 after.node changes.left m
  leaves m away =
      record {
        directory = directory-leaves-other m away;
        used_is = refl;
        part_is = refl;
        body_is = refl;
        deed_is = refl;
        held_is = refl;
        begins_is = λ holds_it comes. refl;
        hand_is = refl;
        steps_are = λ used y. steps-still script w next [] [] Nothing Nothing b moved 1 after.node takes after.sends []
            q h.low
            h.high
            holds changes move used y (left-alone y 1) m;
        ranges_are = λ used y. ranges-still script w next [] [] Nothing Nothing b moved 1 after.node takes after.sends
            [] q h.low
            h.high holds changes move used y (left-alone y 1) m;
      }

  abbrev y-of : Name → NameSight
  y-of m = name_sight script w [] b m

  in-kind : (m : Name) → leases_name m kind up ≡ true
      → (kind_of m ≡ kind) × (list_any (nat_eq (number_of m)) (lease_of up) ≡ true)
  in-kind m inside =
      let both = split (is_same_kind (kind_of m) kind) _ inside
      in (kind-is (kind_of m) kind both.0, both.1)
    where
      split : (a c : Bool) → (a && c) ≡ true → (a ≡ true) × (c ≡ true)
      split true c e = (refl, e)
      split false c e = absurd (false≢true e)

  unmade : (m : Name) → leases_name m kind up ≡ true → maker d m ≡ None
  unmade m inside =
      let both = in-kind m inside
      in ap (λ k. maker_in (for_kind d.ranges k) (number_of m)) both.0
      ∙ unmade-next ranges-were (number_of m) both.1

  unused : (m : Name) → leases_name m kind up ≡ true → is_used_name b.kernel m ≡ false
  unused m inside =
      let numbers_hold : KindHolds (is_born_in w) (kind_sight w b.kernel (kind_of m)) = holds.kinds (kind_of m)
      in numbers_hold.used (number_of m)
      ∙ ap (is_given (kind_sight w b.kernel (kind_of m)) (number_of m)) (unmade m inside)

  made-now : (m : Name) → leases_name m kind up ≡ true → Some q ≡ maker (directory_of next) m
  made-now m inside =
      let both = in-kind m inside
      in sym (ap (λ y. maker y m) directory-now
      ∙ ap (λ k. maker_in (for_kind (with_range d kind q).ranges k) (number_of m)) both.0
      ∙ ap (λ rs. maker_in rs (number_of m)) (range-now d kind q)
      ∙ maker-in-range (ranges-were ++ q ∷ []) up q (number_of m)
      (range-of-next ranges-were q) both.1)

  comes-now : (m : Name) (y : ℕ) → comes_to script next m y ≡ comes_to script w m y
  comes-now m y =
      ap (λ fs. not (nat_eq (forker script y) 1) && has_any fs)
      (made-same script 1 w next after.node takes after.sends [] changes
      (λ t s fs. filter (is_checkpoint_of m) fs) (λ t s. filter-is-list-map (is_checkpoint_of m)) (refl, tt)
      (refl, tt) y (forker script y))

  begins-now : (m : Name) (y : ℕ) → begin (stage_of w y) (is_some (held_at w m y)) (comes_to script w m y)
      ≡ begin (stage_of next y) (is_some (held_at next m y)) (comes_to script next m y)
  begins-now m y =
      ap (begin (stage_of w y) (is_some (held_at w m y))) (sym (comes-now m y))
      ∙ sym (read-same script 1 w next after.node takes after.sends [] changes
      (λ (z : Node). begin z.stage (is_some (get_named z.deeds m)) (comes_to script next m y)) refl y)

  leased-if : (m : Name) → leases_name m kind up ≡ true → (t : Bool)
      → flat_map (range_steps_of (is_used_name b.kernel m) calls-now m) (frame_if t lease ++ [])
      ≡ range_steps_if t IsLeased
  leased-if m inside true = ap (λ u. range_steps_if u IsLeased ++ []) inside
  leased-if m inside false = refl

  name-now : (m : Name) → leases_name m kind up ≡ true
      → SameName (given-out (y-of m) q) (name_sight script next [] moved m)
  name-now m inside =
      record {
        place = sym (ap (λ y. place_of y m) directory-now);
        maker = made-now m inside;
        stays = λ y. sym (ap (λ z. stays z y) directory-now);
        used = refl;
        part = refl;
        body = refl;
        deed = refl;
        held = λ y. sym (read-same script 1 w next after.node takes after.sends [] changes
            (λ (z : Node). get_named z.deeds m) refl y);
        brought = λ t s. sym (made-same script 1 w next after.node takes after.sends [] changes
            (λ t s fs. filter (brings m) fs) (λ t s. filter-is-list-map (brings m)) (refl, tt) (refl, tt) t s);
        kept = λ pid. sym (ap (λ y. filter (is_parcel_with m) (held_for y (Proc pid))) directory-now);
        hand = refl;
        begins = begins-now m;
        steps = λ y. sym (only-stayed script 1 w next after.node takes after.sends [] changes
            (λ t s fs. plays (is_used_name b.kernel m) calls-now m fs) (λ t s. flat_map-is-list-map _) (refl, tt) y 1
            ∙ steps-still script w next [] [] Nothing Nothing b moved 1 after.node takes after.sends [] q h.low h.high
            holds
            changes move (is_used_name b.kernel m) y (left-alone y 1) m
            ∙ stayed script 1 w next after.node takes after.sends [] changes
            (λ t s fs. plays (is_used_name b.kernel m) b.call m fs)
            (λ t s. flat_map-is-list-map _) (refl, tt) y 1);
        ranges = λ y. sym (made-after script 1 w next after.node takes after.sends [] changes
            (λ t s fs. flat_map (range_steps_of (is_used_name b.kernel m) calls-now m) fs)
            (λ t s. flat_map-is-list-map _) y 1
            ∙ ap (λ ss. ss ++ flat_map (range_steps_of (is_used_name b.kernel m) calls-now m) (sent 1 after.sends y 1))
            (ranges-still script w next [] [] Nothing Nothing b moved 1 after.node takes after.sends [] q h.low h.high
            holds
            changes move (is_used_name b.kernel m) y (left-alone y 1) m
            ∙ stayed script 1 w next after.node takes after.sends [] changes
            (λ t s fs. flat_map (range_steps_of (is_used_name b.kernel m) b.call m) fs)
            (λ t s. flat_map-is-list-map _) (refl, tt) y 1)
            ∙ ap (λ ss. flat_map (range_steps_of (is_used_name b.kernel m) b.call m) (frames_to w y 1)
            ++ ss) (leased-if m inside (nat_eq y q)));
        placed = λ y. sym (made-same script 1 w next after.node takes after.sends [] changes
            (λ t s fs. placed_in m fs) (λ t s. flat_map-is-list-map _) (refl, tt) (refl, tt) 1 y);
        news = λ y. ap (λ u. news m (u && is_maker (maker d m) y) (frames_to w 1 y)) (unused m inside)
            ∙ sym (ap (λ u. news m (u && is_maker (maker (directory_of next) m) y) (frames_to next 1 y))
            (unused m inside)
            ∙ made-same script 1 w next after.node takes after.sends [] changes
            (λ t s fs. news m false fs) (λ t s. flat_map-is-list-map _) (refl, tt) (refl, tt) 1 y);
      }

  names : (m : Name) → NameHolds script b.pids (is_born_in next) m (name_sight script next [] moved m)
  names m = by-test (leases_name m kind up) refl
    where
      by-test : (t : Bool) → leases_name m kind up ≡ t
          → NameHolds script b.pids (is_born_in next) m (name_sight script next [] moved m)
      by-test true inside =
          name-stays script b.pids (is_born_in w) (is_born_in next) m _ _ more (name-now m inside)
          (name-given-out script b.pids (is_born_in w) m (y-of m) (holds.names m) q (unused m inside)
          (unmade m inside))
      by-test false away =
          name-stays script b.pids (is_born_in w) (is_born_in next) m _ _ more
          (name-left-alone script 1 w next after.node takes after.sends [] changes [] [] b moved m (leaves m away)
          (refl, tt) (away, tt)) (holds.names m)

  -- the numbers

  none-coming : flat_map (lease_in kind) (frames_to w q 1) ≡ []
  none-coming =
      no-lease-about kind q (frames_to w q 1)
      (there.in_streams q 1
      ∙ ap (λ y. only_if (is_in_stream y q q 1) (frame_at y (asked_of x call))) is-ask.place_is
      ∙ ap (λ t. only_if (t && nat_eq 1 q) frame) (ne_eqb q 1 other))

  comes-if : (t : Bool) → flat_map (lease_in kind) (frame_if t lease ++ []) ≡ cond t (up ∷ []) []
  comes-if true = ap (λ u. first_if u up ++ []) (kind-itself kind)
  comes-if false = refl

  kind-now : SameKind (leased (kind_sight w b.kernel kind) q) (kind_sight next b.kernel kind)
  kind-now =
      record {
        used = λ number. refl;
        leases = λ y. sym (read-same script 1 w next after.node takes after.sends [] changes
            (λ (z : Node). for_kind z.leases kind) refl y);
        coming = λ y. sym (made-after script 1 w next after.node takes after.sends [] changes
            (λ t s fs. flat_map (lease_in kind) fs) (λ t s. flat_map-is-list-map (lease_in kind)) y 1
            ∙ ap (λ ns. ns ++ flat_map (lease_in kind) (sent 1 after.sends y 1))
            (stayed script 1 w next after.node takes after.sends [] changes
            (λ t s fs. flat_map (lease_in kind) fs) (λ t s. flat_map-is-list-map (lease_in kind)) (refl, tt) y 1)
            ∙ ap (λ ns. flat_map (lease_in kind) (frames_to w y 1) ++ ns) (comes-if (nat_eq y q)));
        ranges = sym (ap (λ (z : Directory). for_kind z.ranges kind) directory-now ∙ range-now d kind q);
      }

  numbers-now : (k : Kind) → KindHolds (is_born_in next) (kind_sight next b.kernel k)
  numbers-now k = by-test (is_same_kind k kind) refl
    where
      by-test : (t : Bool) → is_same_kind k kind ≡ t → KindHolds (is_born_in next) (kind_sight next b.kernel k)
      by-test true e =
          subst (λ z. KindHolds (is_born_in next) (kind_sight next b.kernel z)) (sym (kind-is k kind e))
          (kind-stays (is_born_in w) (is_born_in next) _ _ more kind-now
          (kind-leased (is_born_in w) (kind_sight w b.kernel kind) q (holds.kinds kind) born-asker none-coming))
      by-test false e =
          kind-stays (is_born_in w) (is_born_in next) _ _ more
          (kind-left-alone script 1 w next after.node takes after.sends [] changes b.kernel b.kernel k
          (λ number. refl) refl
          (ap (λ (z : Directory). for_kind z.ranges k) directory-now ∙ range-still d kind k q e)
          (refl, tt) (ap (λ u. first_if u up) e, tt)) (holds.kinds k)

  same-but : (k : Kind) → is_same_kind k kind ≡ false → (y : ℕ)
      → has_lease k (calls-now y) ≡ has_lease k (b.call y)
  same-but k e y =
      elim (cases_eq q y) [
        | inl g ↦
            ap (λ t. has_lease k (if t then HasLease kind up else b.call y)) (eq-eqb q y g) ∙ e
            ∙ sym (subst (λ z. has_lease k (b.call z) ≡ false) g (ap (has_lease k) is-ask.place_is))
        | inr g ↦ ap (λ t. has_lease k (if t then HasLease kind up else b.call y)) (ne_eqb q y g)
      ]

  one-there : one_for (has_lease kind (calls-now q)) ≡ 1
  one-there =
      ap (λ t. one_for (has_lease kind (if t then HasLease kind up else b.call q))) (eq-eqb q q refl)
      ∙ ap one_for (kind-itself kind)

  none-there : one_for (has_lease kind (b.call q)) ≡ 0
  none-there = ap (λ y. one_for (has_lease kind y)) is-ask.place_is

  no-less : (y : ℕ) → one_for (has_lease kind (b.call y)) ≤ one_for (has_lease kind (calls-now y))
  no-less y =
      elim (cases_eq q y) [
        | inl g ↦
            subst (λ z. one_for (has_lease kind (b.call z)) ≤ one_for (has_lease kind (calls-now z))) g
            (let some = one-there in let none = none-there in omega (arith, some, none))
        | inr g ↦
            let same : one_for (has_lease kind (calls-now y)) ≡ one_for (has_lease kind (b.call y)) =
            ap (λ t. one_for (has_lease kind (if t then HasLease kind up else b.call y))) (ne_eqb q y g)
            in omega (arith, same)
      ]

  more-leases : leases_on_way script b.call kind + 1 ≤ leases_on_way script calls-now kind
  more-leases =
      let low = h.low_from
      in let high = h.high_from
      in sum-more (λ y. one_for (has_lease kind (b.call y))) (λ y. one_for (has_lease kind (calls-now y))) 1
      (node_count script) q no-less (let some = one-there in let none = none-there in omega (arith, some, none)) low
      (omega (arith, high))

  journal-now : length next.journal ≡ length w.journal
  journal-now = ap length (changes.journal ∙ append-nil w.journal)

  few-now : (k : Kind) → FewRanges script next calls-now k
  few-now k = by-test (is_same_kind k kind) refl
    where
      by-test : (t : Bool) → is_same_kind k kind ≡ t → FewRanges script next calls-now k
      by-test true e =
          subst (λ z. FewRanges script next calls-now z) (sym (kind-is k kind e))
          (let old = holds.few kind
          in let more_on_way = more-leases
          in let journal = journal-now
          in let count : length (for_kind (directory_of next).ranges kind) ≡ length ranges-were + 1 =
          ap (λ (z : Directory). length (for_kind z.ranges kind)) directory-now ∙ ap length (range-now d kind q)
          ∙ length-append ranges-were (q ∷ [])
          in omega (arith, old, more_on_way, journal, count))
      by-test false e =
          few-still script 1 w next after.node takes after.sends [] changes b.call
          calls-now k refl
          (ap (λ (z : Directory). for_kind z.ranges k) directory-now ∙ range-still d kind k q e) (same-but k e)
          (holds.few k)

  -- The range is on its way to the node's call.
  pub lease-ask-keeps : KeepsAs script w (events.Take 1 q) moved
  lease-ask-keeps =
      record {
        next = next;
        is_step = take-steps script w 1 q frame rest after holds.shape h rule refl;
        holds = call-move-keeps script w next [] [] Nothing Nothing b moved 1 after.node takes after.sends [] q h.low
            h.high
            holds changes move call-now cancel-now names numbers-now few-now;
      }
