-- The leader takes the deed of a queue or set that comes back: in the middle of the event it has the deed, and what was
-- held for the name is in its hand.
use Rattle.std.proofs.Common.{◌≡◌, ◌≢◌, ◌⊎◌, ℕ, ◌≤◌, Bool, true, false, ◌&&◌, ◌||◌, not, cond, if◌then◌else◌, List, [], ◌∷◌, ◌++◌, filter, flat_map, nat_eq, Option, Some, None, is_none, is_some, Contains, refl, ap, sym, subst, ◌∙◌, inl, inr, append-nil}
use Rattle.std.specs.List.{AllByRecursion}
use Rattle.std.proofs.lemmas.Bool.{cases_eq, eq-eqb, ne_eqb, false≢true}
use Rattle.pico_base.specs.declared.numbers.Kind.{Kind}
use Rattle.pico_base.specs.declared.numbers.Name.{Name}
use Rattle.pico_base.specs.declared.numbers.Name.TheVariants.{Proc}
use Rattle.pico_base.specs.declared.script.Script.{Script}
use Rattle.rpc_frame.specs.declared.deed.PackedDeed.{PackedDeed}
use Rattle.rpc_frame.specs.declared.deed.Parcel.{Parcel}
use Rattle.rpc_frame.specs.declared.frame.Frame.{Frame}
use Rattle.rpc_frame.specs.declared.frame.Frame.TheVariants as frames
use Rattle.number_maps.specs.Maps.{get}
use Rattle.node_model.specs.declared.held.Held.{Held}
use Rattle.node_model.specs.declared.held.Held.TheVariants.{Ending}
use Rattle.node_model.specs.Kinds.{is_object, is_same_name, get_named, put_named, for_kind}
use Rattle.node_model.specs.Directory.{Directory, At, Coming, place_of, arrive, held_for, items_of, is_parcel_with, is_known, maker, stays}
use Rattle.world_model.specs.Node.{Node}
use Rattle.world_model.specs.Step.{Step}
use Rattle.world_model.specs.Moves.{pass_on}
use Rattle.world_model.specs.Census.{brings}
use Rattle.world_model.specs.World.{World, world_after, node_count}
use Rattle.world_laws.specs.Places.{CallPlace, DeedPlace, IsHeld, IsInHand, InTable, InGiveBack, Beside, deed_in}
use Rattle.world_laws.specs.Sights.{node_of, frames_to, directory_of, stage_of, is_born_in}
use Rattle.world_laws.specs.Plays.{Hold, plays, begin, has_any, is_checkpoint_of, needs_by, placed_in, news}
use Rattle.world_laws.specs.Names.{NameSight, name_sight, NameHolds, IsBringer, IsItemFor, OneIf, held_as, held_at, comes_to, may_be_at, is_stream_of, is_sent_by_range, range_steps_of, forker, is_maker}
use Rattle.world_laws.specs.Callers.{call_sight, is_about, is_item_about}
use Rattle.world_laws.specs.Cancels.{CancelHolds, Nothing, cancel_sight, is_cancel_of, is_held_cancel_of, is_held_of_call, is_of_call}
use Rattle.world_laws.specs.Wholes.{HasMarks, under_way_at}
use Rattle.world_laws.specs.Ways.{way_sight, knows_parent, IsParcelIn, left as left_in, sent as sent_in, kept as kept_in, at_hand}
use Rattle.world_laws.specs.Ranges.{KeysHold, has_lease}
use Rattle.world_laws.specs.Families.{NodeHolds}
use Rattle.world_laws.specs.Invariant.{Holds, IsLeading, process_deed}
use Rattle.world_laws.proofs.Named.{name-cases, same-name, other-name, get-put-same-name, get-put-other-name}
use Rattle.world_laws.proofs.Stays.{IsMore, SameName, SameCall, name-stays, node-born, call-stays, way-stays, kind-stays}
use Rattle.world_laws.proofs.Changes.{Changes, filter-is-list-map, flat_map-is-list-map, made-same, only-stayed, still-born, read-same}
use Rattle.world_laws.proofs.LeftAlone.{DirectoryLeaves, LeavesName, name-left-alone, way-left-alone, parcel-was-there, sender-stays, kind-left-alone, family-left-alone, other-node-stays, frames-still-fit, few-still}
use Rattle.world_laws.proofs.Steps.{Heads, world_without, changes-by-take}
use Rattle.world_laws.proofs.Heads.{head-is, rest-stays, others-stay}
use Rattle.world_laws.proofs.Cancels.{SameCancel}
use Rattle.world_laws.proofs.Wholes.{LeavesWhole, whole-left-alone}
use Rattle.rule_laws.proofs.CallMoves.{cancel-if-same}
use Rattle.rule_laws.proofs.Nodes.{leader-stage, node-with-directory, node-with-objects, object-is-no-process, processes-with}
use Rattle.rule_laws.proofs.Places.{place-with-same, place-with-other}
use Rattle.route_laws.proofs.hand.Holdings.{leading-with}
use Rattle.route_laws.proofs.exits.Arrivals.{is_one_of}
use Rattle.route_laws.proofs.exits.Cancelled.{cancel-comes-home, cancel_released, marks-released, released_cancel}
use Rattle.route_laws.proofs.exits.Released.{call_released}
use Rattle.route_laws.proofs.release.TakenUp.{taken_up, read-up, plays-alike, ranges-alike, up_sight, call-up}
use Rattle.route_laws.proofs.release.Home.{IsGivenBack, given-back, no-parcel-kept, no-parcel-there, home_sight, name-home}

rest-same : {A : Type 0} (x y : A) (xs ys : List A) → x ∷ xs ≡ y ∷ ys → xs ≡ ys
rest-same x y xs ys h = cc

-- what was held for one name is in hand
up-is-released : (name : Name) (place : CallPlace) → taken_up name place ≡ call_released (name ∷ []) place
up-is-released name (IsHeld other) = by (is_same_name other name)
  where
    by : (t : Bool) → (if t then IsInHand else IsHeld other) ≡ (if t || false then IsInHand else IsHeld other)
    by true = refl
    by false = refl
up-is-released name place = refl

and-false : (t : Bool) → (t && false) ≡ false
and-false true = refl
and-false false = refl

module _ (script : Script) (w : World) (b : Beside) (holds : Holds script w [] b) (q : ℕ) (packed : PackedDeed)
    (rest : List Frame) (h : Heads script w 1 q (frames.GiveBack packed) rest) where
  abbrev name : Name
  name = packed.name

  abbrev frame : Frame
  frame = frames.GiveBack packed

  abbrev n : Node
  n = node_of w 1

  abbrev d : Directory
  d = directory_of w

  abbrev x : NameSight
  x = name_sight script w [] b name

  known : NameHolds script b.pids (is_born_in w) name x
  known = holds.names name

  brought-first : x.brought 1 q ≡ frame ∷ filter (brings name) rest
  brought-first =
      ap (filter (brings name)) (head-is script w 1 q frame rest h)
      ∙ ap (λ t. cond t (frame ∷ filter (brings name) rest) (filter (brings name) rest)) (same-name name name refl)

  -- the deed is in this frame, with the kernel's body
  pub is-given-back : IsGivenBack x.deed q packed name x.body (filter (brings name) rest)
  is-given-back =
      given-back (forker script) b.pids name x.body x.deed 1 q packed (filter (brings name) rest) (x.brought 1 q)
      brought-first (known.streams 1 q)

  -- it is of a queue or set
  pub given-object : is_object name ≡ true
  given-object = sym (ap (may_be_at (is_object name)) is-given-back.deed_is) ∙ known.place_fits

  -- the leader keeps it, and releases what was held for it
  abbrev pub kept_step : Step
  kept_step = pass_on n name (b.body name) None

  abbrev after : Node
  after =
      let s : Step = pass_on n name (b.body name) None
      in s.node

  abbrev pub kept_world : World
  kept_world = world_after (world_without w 1 q rest) 1 (pass_on n name (b.body name) None)

  abbrev hand : List Held
  hand = held_for d name

  abbrev calls-now : ℕ → CallPlace
  calls-now y = taken_up name (b.call y)

  abbrev deeds-now : Name → DeedPlace
  deeds-now = deed_in b.deed name (InTable 1)

  abbrev pub kept_beside : Beside
  kept_beside =
      record b {
        deed = deed_in b.deed name (InTable 1);
        call = λ y. taken_up name (b.call y);
        cancel = λ y. cancel_released (name ∷ []) (b.cancel y);
      }

  abbrev takes : List (ℕ × Frame)
  takes = (q, frame) ∷ []

  -- what the event has changed so far
  pub kept-changes : Changes script 1 w kept_world after takes [] []
  kept-changes = changes-by-take script w holds.shape 1 q frame rest kept_step h tt

  directory-now : directory_of kept_world ≡ arrive d name 1
  directory-now = ap (λ (m : Node). m.leader.directory) kept-changes.here

  node-was : NodeHolds script b.pids (is_born_in w) 1 n
  node-was = holds.nodes 1 h.low h.high

  more : IsMore (is_born_in w) (is_born_in kept_world)
  more = still-born script 1 w kept_world after takes [] [] kept-changes (λ g. g)

  -- ---- what is held

  items-for : AllByRecursion (IsItemFor name) hand
  items-for = known.items

  held-elsewhere : (m : Name) → m ≢ name → held_for (directory_of kept_world) m ≡ held_for d m
  held-elsewhere m g =
      ap (λ z. held_for z m) directory-now ∙ ap items_of (place-with-other d name (At 1) m g)

  held-none-now : held_for (directory_of kept_world) name ≡ []
  held-none-now = ap (λ z. held_for z name) directory-now ∙ ap items_of (place-with-same d name (At 1))

  process-is-other : (pid : ℕ) → Proc pid ≢ name
  process-is-other pid e = false≢true (ap is_object e ∙ given-object)

  -- ---- the other names

  steps-alike : (used : Bool) (m : Name) (fs : List Frame) → plays used calls-now m fs ≡ plays used b.call m fs
  steps-alike used m fs =
      plays-alike used b.call calls-now
      (λ lasting y. read-up (needs_by lasting) name (λ other. refl) (b.call y)) m fs

  sent-alike : (used : Bool) (m : Name) (fs : List Frame)
      → flat_map (range_steps_of used calls-now m) fs ≡ flat_map (range_steps_of used b.call m) fs
  sent-alike used m fs =
      ranges-alike used b.call calls-now (λ y. read-up is_sent_by_range name (λ other. refl) (b.call y)) m fs

  leaves : (m : Name) → m ≢ name → DirectoryLeaves d (directory_of kept_world) m
  leaves m g =
      record {
        place_is = ap (λ z. place_of z m) directory-now ∙ place-with-other d name (At 1) m g;
        maker_is = ap (λ z. maker z m) directory-now;
        stays_is = λ y. ap (λ z. stays z y) directory-now;
        kept_is = λ pid. ap (filter (is_parcel_with m)) (held-elsewhere (Proc pid) (process-is-other pid));
      }

  others : (m : Name) → m ≢ name → LeavesName w kept_world [] hand b kept_beside 1 after kept-changes.left m
  others m g =
      record {
        directory = leaves m g;
        used_is = refl;
        part_is = refl;
        body_is = refl;
        deed_is = ap (λ t. if t then InTable 1 else b.deed m) (other-name name m (λ e. g (sym e)));
        held_is = get-put-other-name n.deeds name (b.body name) m g;
        begins_is = λ holds_it comes. refl;
        hand_is = no-parcel-kept name m hand given-object items-for;
        steps_are = λ used y. steps-alike used m (kept-changes.left y 1);
        ranges_are = λ used y. sent-alike used m (kept-changes.left y 1);
      }

  -- ---- the name

  held-now : (y : ℕ) → (if nat_eq 1 y then Some x.body else None) ≡ held_at kept_world name y
  held-now y =
      elim (cases_eq y 1) [
        | inl e ↦
            ap (λ t. if t then Some x.body else None) (eq-eqb 1 y (sym e))
            ∙ subst (λ z. Some x.body ≡ held_at kept_world name z) (sym e)
            (sym (ap (λ (m : Node). get_named m.deeds name) kept-changes.here
            ∙ get-put-same-name n.deeds name (b.body name)))
        | inr g ↦
            ap (λ t. if t then Some x.body else None) (ne_eqb 1 y (λ e. g (sym e)))
            ∙ sym (ap (λ (m : Node). get_named m.deeds name) (kept-changes.others y g)
            ∙ known.tables y ∙ ap (λ z. held_as z x.body y) is-given-back.deed_is)
      ]

  comes-now : (y : ℕ) → comes_to script kept_world name y ≡ comes_to script w name y
  comes-now y =
      ap (λ fs. not (nat_eq (forker script y) 1) && has_any fs)
      (made-same script 1 w kept_world after takes [] [] kept-changes (λ t s fs. filter (is_checkpoint_of name) fs)
      (λ t s. filter-is-list-map (is_checkpoint_of name)) (refl, tt) tt y (forker script y))

  abbrev first : Hold
  first = begin (stage_of kept_world 1) (is_some (held_at kept_world name 1)) (comes_to script kept_world name 1)

  begins-now : (y : ℕ) → (if nat_eq y 1 then first else x.begins y)
      ≡ begin (stage_of kept_world y) (is_some (held_at kept_world name y)) (comes_to script kept_world name y)
  begins-now y =
      elim (cases_eq y 1) [
        | inl e ↦
            ap (λ t. if t then first else x.begins y) (eq-eqb y 1 e)
            ∙ subst (λ z. first
            ≡ begin (stage_of kept_world z) (is_some (held_at kept_world name z)) (comes_to script kept_world name z))
            (sym e) refl
        | inr g ↦
            ap (λ t. if t then first else x.begins y) (ne_eqb y 1 g)
            ∙ ap (begin (stage_of w y) (is_some (held_at w name y))) (sym (comes-now y))
            ∙ sym (ap
            (λ (m : Node). begin m.stage (is_some (get_named m.deeds name)) (comes_to script kept_world name y))
            (kept-changes.others y g))
      ]

  -- the deed was in this frame alone
  left-alone : (to sender : ℕ) → filter (brings name) (kept-changes.left to sender) ≡ []
  left-alone to sender =
      elim (cases_eq to 1) [
        | inr g ↦ away (inl g) (ap (λ t. t && nat_eq sender q) (ne_eqb to 1 g))
        | inl e ↦
            elim (cases_eq sender q) [
              | inr g ↦
                  away (inr g) (ap (λ t. nat_eq to 1 && t) (ne_eqb sender q g) ∙ and-false (nat_eq to 1))
              | inl k ↦
                  subst (λ y. filter (brings name) (kept-changes.left y sender) ≡ []) (sym e)
                  (subst (λ z. filter (brings name) (kept-changes.left 1 z) ≡ []) (sym k) at-head)
            ]
      ]
    where
      away : (to ≢ 1) ⊎ (sender ≢ q) → (nat_eq to 1 && nat_eq sender q) ≡ false
          → filter (brings name) (kept-changes.left to sender) ≡ []
      away g none =
          others-stay script 1 q w kept_world after frame [] [] kept-changes
          (λ t s fs. filter (brings name) fs) (λ t s. filter-is-list-map (brings name)) to sender g
          ∙ subst (λ t. OneIf t (IsBringer b.pids name x.body (InGiveBack q)) (x.brought to sender)) none
          (subst (λ y. OneIf (is_stream_of (forker script) y to sender) (IsBringer b.pids name x.body y)
          (x.brought to sender)) is-given-back.deed_is (known.streams to sender))

      at-head : filter (brings name) (kept-changes.left 1 q) ≡ []
      at-head =
          rest-same frame frame (filter (brings name) (kept-changes.left 1 q)) (filter (brings name) rest)
          (sym (ap (λ t. cond t (frame ∷ []) [] ++ filter (brings name) (kept-changes.left 1 q))
          (same-name name name refl))
          ∙ sym (rest-stays script 1 q w kept_world after frame [] [] kept-changes
          (λ t s fs. filter (brings name) fs) (λ t s. filter-is-list-map (brings name)))
          ∙ brought-first)
          ∙ is-given-back.alone

  sight-now : SameName (home_sight x first) (name_sight script kept_world hand kept_beside name)
  sight-now =
      record {
        place = sym (ap (λ z. place_of z name) directory-now ∙ place-with-same d name (At 1));
        maker = ap (λ z. maker z name) (sym directory-now);
        stays = λ y. ap (λ z. stays z y) (sym directory-now);
        used = refl;
        part = refl;
        body = refl;
        deed = sym (ap (λ t. if t then InTable 1 else b.deed name) (same-name name name refl));
        held = held-now;
        brought = λ to sender. sym (only-stayed script 1 w kept_world after takes [] [] kept-changes
            (λ t s fs. filter (brings name) fs) (λ t s. filter-is-list-map (brings name)) tt to sender
            ∙ left-alone to sender);
        kept = λ pid. ap (filter (is_parcel_with name)) (sym (held-elsewhere (Proc pid) (process-is-other pid)));
        hand = sym (no-parcel-kept name name hand given-object items-for);
        begins = begins-now;
        steps = λ y. sym (steps-alike x.used name (frames_to kept_world y 1)
            ∙ made-same script 1 w kept_world after takes [] [] kept-changes (λ t s fs. plays x.used b.call name fs)
            (λ t s. flat_map-is-list-map _) (refl, tt) tt y 1);
        ranges = λ y. sym (sent-alike x.used name (frames_to kept_world y 1)
            ∙ made-same script 1 w kept_world after takes [] [] kept-changes
            (λ t s fs. flat_map (range_steps_of x.used b.call name) fs) (λ t s. flat_map-is-list-map _) (refl, tt) tt y
            1);
        placed = λ y. sym (made-same script 1 w kept_world after takes [] [] kept-changes
            (λ t s fs. placed_in name fs) (λ t s. flat_map-is-list-map _) (refl, tt) tt 1 y);
        news = λ y. ap (λ z. news name (x.used && is_maker (maker z name) y) (frames_to w 1 y)) (sym directory-now)
            ∙ sym (made-same script 1 w kept_world after takes [] [] kept-changes
            (λ t s fs. news name (x.used && is_maker (maker (directory_of kept_world) name) s) fs)
            (λ t s. flat_map-is-list-map _) (refl, tt) tt 1 y);
      }

  names : (to : Option ℕ) (items : List Held) → place_of d name ≡ Some (Coming to items) → (m : Name)
      → NameHolds script b.pids (is_born_in kept_world) m (name_sight script kept_world hand kept_beside m)
  names to items place m =
      elim (name-cases m name) [
        | inl e ↦
            subst (λ y. NameHolds script b.pids (is_born_in kept_world) y
            (name_sight script kept_world hand kept_beside y)) (sym e)
            (name-stays script b.pids (is_born_in w) (is_born_in kept_world) name _ _ more sight-now
            (name-home script b.pids (is_born_in w) name x to items q first known place is-given-back.deed_is))
        | inr g ↦
            name-stays script b.pids (is_born_in w) (is_born_in kept_world) m _ _ more
            (name-left-alone script 1 w kept_world after takes [] [] kept-changes [] hand b kept_beside m (others m g)
            (other-name m name g, tt) tt) (holds.names m)
      ]

  -- ---- the calls

  held-for-now : (y : ℕ) (m : Name)
      → (if is_same_name name m then [] else filter (is_item_about y) (held_for d m))
      ≡ filter (is_item_about y) (held_for (directory_of kept_world) m)
  held-for-now y m =
      elim (name-cases m name) [
        | inl e ↦
            subst (λ z. (if is_same_name name z then [] else filter (is_item_about y) (held_for d z))
            ≡ filter (is_item_about y) (held_for (directory_of kept_world) z)) (sym e)
            (ap (λ t. if t then [] else filter (is_item_about y) (held_for d name)) (same-name name name refl)
            ∙ ap (filter (is_item_about y)) (sym held-none-now))
        | inr g ↦
            ap (λ t. if t then [] else filter (is_item_about y) (held_for d m)) (other-name name m (λ e. g (sym e)))
            ∙ ap (filter (is_item_about y)) (sym (held-elsewhere m g))
      ]

  read : {A : Type 0} (f : Node → A) → f after ≡ f n → (y : ℕ) → f (node_of w y) ≡ f (node_of kept_world y)
  read f e y = sym (read-same script 1 w kept_world after takes [] [] kept-changes f e y)

  call-now : (y : ℕ) → SameCall (up_sight (call_sight w [] b y) name) (call_sight kept_world hand kept_beside y)
  call-now y =
      record {
        number = read (λ (m : Node). m.number) refl y;
        pid = read (λ (m : Node). m.pid) refl y;
        stage = read (λ (m : Node). m.stage) refl y;
        caller = read (λ (m : Node). m.caller) refl y;
        leases = read (λ (m : Node). m.leases) refl y;
        place = refl;
        alive = refl;
        call = refl;
        frames_about = λ to sender. sym (made-same script 1 w kept_world after takes [] [] kept-changes
            (λ t s fs. filter (is_about y t s) fs) (λ t s. filter-is-list-map (is_about y t s)) (refl, tt) tt to
            sender);
        held = held-for-now y;
        hand = refl;
        waiters = λ m. refl;
      }

  -- ---- withdrawals

  -- what is held for the name, by any test
  kept-for-now : (test : Held → Bool) (m : Name)
      → (if is_one_of m (name ∷ []) then [] else filter test (held_for d m))
      ≡ filter test (held_for (directory_of kept_world) m)
  kept-for-now test m =
      elim (name-cases m name) [
        | inl e ↦
            subst (λ z. (if is_one_of z (name ∷ []) then [] else filter test (held_for d z))
            ≡ filter test (held_for (directory_of kept_world) z)) (sym e)
            (ap (λ t. if t || false then [] else filter test (held_for d name)) (same-name name name refl)
            ∙ ap (filter test) (sym held-none-now))
        | inr g ↦
            ap (λ t. if t || false then [] else filter test (held_for d m)) (other-name m name g)
            ∙ ap (filter test) (sym (held-elsewhere m g))
      ]

  in-hand-so : (test : Held → Bool) → flat_map (λ m. filter test (held_for d m)) (name ∷ []) ++ [] ≡ filter test hand
  in-hand-so test = append-nil (filter test hand ++ []) ∙ append-nil (filter test hand)

  module _ (known_here : is_known d name ≡ true) where
    still-known : (m : Name) → is_known (directory_of kept_world) m ≡ is_known d m
    still-known m =
        elim (name-cases m name) [
          | inl e ↦
              subst (λ y. is_known (directory_of kept_world) y ≡ is_known d y) (sym e)
              (ap (λ z. is_known z name) directory-now ∙ ap (λ o. not (is_none o)) (place-with-same d name (At 1))
              ∙ sym known_here)
          | inr g ↦
              ap (λ z. is_known z m) directory-now
              ∙ ap (λ o. not (is_none o)) (place-with-other d name (At 1) m g)
        ]

    cancel-now : (y : ℕ)
        → SameCancel (released_cancel (name ∷ []) (cancel_sight w [] b y)) (cancel_sight kept_world hand kept_beside y)
    cancel-now y =
        record {
          number = read (λ (m : Node). m.number) refl y;
          pid = read (λ (m : Node). m.pid) refl y;
          caller = read (λ (m : Node). m.caller) refl y;
          call = sym (up-is-released name (b.call y));
          cancel = refl;
          cancels = λ to sender. same-frames (λ t s. is_cancel_of y) (refl, tt) to sender;
          held_cancels = kept-for-now (is_held_cancel_of y);
          hand_cancels = in-hand-so (is_held_cancel_of y);
          of_call = λ to sender. same-frames (is_of_call y ticket) (refl, tt) to sender
              ∙ ap (λ k. filter (is_of_call y k to sender) (frames_to kept_world to sender)) ticket-same;
          held_of_call = λ m. kept-for-now (is_held_of_call y ticket) m
              ∙ ap (λ k. filter (is_held_of_call y k) (held_for (directory_of kept_world) m)) ticket-same;
          hand_of_call = in-hand-so (is_held_of_call y ticket)
              ∙ ap (λ k. filter (is_held_of_call y k) hand) ticket-same;
          nowhere = λ call is may l. record {
            node = l.node;
            is = up-is-released name (b.call y) ∙ l.is;
            leaves = ap (λ z. stays z l.node) directory-now ∙ l.leaves;
            unknown = still-known _ ∙ l.unknown;
          };
        }
      where
        ticket : ℕ
        ticket = let m : Node = node_of w y in m.caller.ticket

        ticket-same : ticket ≡ (let m : Node = node_of kept_world y in m.caller.ticket)
        ticket-same = read (λ (m : Node). m.caller.ticket) refl y

        same-frames : (test : ℕ → ℕ → Frame → Bool)
            → AllByRecursion (λ s. filter (test 1 s.0) (s.1 ∷ []) ≡ []) takes
            → (to sender : ℕ)
            → filter (test to sender) (frames_to w to sender) ≡ filter (test to sender) (frames_to kept_world to sender)
        same-frames test none to sender =
            sym (made-same script 1 w kept_world after takes [] [] kept-changes (λ t s fs. filter (test t s) fs)
            (λ t s. filter-is-list-map (test t s)) none tt to sender)

    -- All holds of withdrawals.
    cancels-now : (y : ℕ) → 1 ≤ y → y ≤ node_count script
        → CancelHolds y Nothing (cancel_sight kept_world hand kept_beside y)
    cancels-now y low high =
        cancel-if-same y Nothing (released_cancel (name ∷ []) (cancel_sight w [] b y))
        (cancel_sight kept_world hand kept_beside y) refl (cancel-now y)
        (cancel-comes-home (name ∷ []) y Nothing (cancel_sight w [] b y) (refl, tt) (holds.cancels y low high))

  -- and of the kernel in which callers wait

  leaves-whole : LeavesWhole w kept_world b kept_beside
  leaves-whole =
      record {
        journal_is = kept-changes.journal ∙ append-nil w.journal;
        lines_are = refl;
        kernel_is = refl;
        whole_is = refl;
        pids_are = λ y. refl;
        bodies_are = λ m. refl;
        marks_still = λ y a lives marks.
            subst (λ o. HasMarks (taken_up name (b.call y)) o a) (read (λ (m : Node). m.caller.under_way) refl y)
            (subst (λ c. HasMarks c (under_way_at w y) a) (sym (up-is-released name (b.call y)))
            (marks-released (name ∷ []) (b.call y) (under_way_at w y) a marks));
      }

  -- ---- all else

  known-still : (m : Name) → is_known d m ≡ true → is_known (directory_of kept_world) m ≡ true
  known-still m k =
      elim (name-cases m name) [
        | inl e ↦
            subst (λ y. is_known (directory_of kept_world) y ≡ true) (sym e)
            (ap (λ z. is_known z name) directory-now ∙ ap (λ o. not (is_none o)) (place-with-same d name (At 1)))
        | inr g ↦
            ap (λ z. is_known z m) directory-now
            ∙ ap (λ o. not (is_none o)) (place-with-other d name (At 1) m g) ∙ k
      ]

  parcel-was : (parcel : Parcel) → IsParcelIn kept_world hand parcel → IsParcelIn kept_world [] parcel
  parcel-was parcel (left_in y there) = left_in y there
  parcel-was parcel (sent_in y there) = sent_in y there
  parcel-was parcel (kept_in pid there) = kept_in pid there
  parcel-was parcel (at_hand there) = absurd (no-parcel-there name hand parcel given-object items-for there)

  nodes-now : (y : ℕ) → 1 ≤ y → y ≤ node_count script
      → NodeHolds script b.pids (is_born_in kept_world) y (node_of kept_world y)
  nodes-now y low high =
      elim (cases_eq y 1) [
        | inr g ↦
            other-node-stays script 1 w kept_world after takes [] [] kept-changes b.pids (is_born_in w)
            (is_born_in kept_world) y g more (holds.nodes y low high)
        | inl e ↦
            subst (λ z. NodeHolds script b.pids (is_born_in kept_world) z (node_of kept_world z)) (sym e)
            (subst (λ (m : Node). NodeHolds script b.pids (is_born_in kept_world) 1 m) (sym kept-changes.here)
            (node-born script b.pids (is_born_in w) (is_born_in kept_world) 1 after more
            (node-with-directory script b.pids (is_born_in w) 1 _ (arrive d name 1) refl
            (let stage = leader-stage script b.pids (is_born_in w) 1 n refl node-was
            in node-with-objects script b.pids (is_born_in w) 1 n (put_named n.deeds name (b.body name))
            n.watches stage.0 stage.1 (processes-with n.deeds name (b.body name) given-object) node-was))))
      ]

  leading-now : IsLeading (directory_of kept_world)
  leading-now =
      subst (λ (z : Directory). IsLeading z) (sym directory-now) (leading-with d name (At 1) holds.leading)

  keys-now : KeysHold (node_of kept_world 1).leader b.kernel
  keys-now =
      let keys : KeysHold (node_of w 1).leader b.kernel = holds.keys
      in record {
        queues = λ key. ap (λ (m : Node). get m.leader.queue_keys key) kept-changes.here ∙ keys.queues key;
        sets = λ key. ap (λ (m : Node). get m.leader.set_keys key) kept-changes.here ∙ keys.sets key;
      }

  ranges-same : (kind : Kind) → for_kind (directory_of kept_world).ranges kind ≡ for_kind d.ranges kind
  ranges-same kind = ap (λ (z : Directory). for_kind z.ranges kind) directory-now

  -- The deed is the leader's, and what was held for the name is in hand.
  pub kept-in-hand : (to : Option ℕ) (items : List Held) → place_of d name ≡ Some (Coming to items)
      → Holds script kept_world hand kept_beside
  kept-in-hand to items place =
      record {
        shape = kept-changes.shape;
        history = holds.history;
        whole = whole-left-alone w kept_world b kept_beside Nothing leaves-whole holds.whole;
        leading = leading-now;
        pids = holds.pids;
        nodes = nodes-now;
        frames_fit = frames-still-fit script 1 w kept_world after takes [] [] kept-changes more holds.frames_fit tt tt;
        names = names to items place;
        calls = λ y low high. call-stays script y (is_born_in w) (is_born_in kept_world)
            (up_sight (call_sight w [] b y) name) (call_sight kept_world hand kept_beside y) more (call-now y)
            (call-up script y (is_born_in w) (call_sight w [] b y) name refl (holds.calls y low high));
        cancels = cancels-now (ap (λ o. not (is_none o)) place);
        ways = λ y low high. way-stays script b.pids y (knows_parent script w b.pids y)
            (knows_parent script kept_world b.pids y) (way_sight w y) (way_sight kept_world y)
            (known-still (Proc (b.pids (forker script y))))
            (way-left-alone script 1 w kept_world after takes [] [] kept-changes y (λ e. refl)
            (ap (λ (z : Directory). get z.partings y) directory-now) (refl, tt) tt) (holds.ways y low high);
        parcels = λ parcel there. sender-stays script 1 w kept_world after takes [] [] kept-changes b.pids parcel
            (λ left. (left, refl))
            (holds.parcels parcel
            (parcel-was-there script 1 w kept_world after takes [] [] kept-changes [] parcel tt
            (λ pid. subst (λ is. Contains is (Ending parcel)) (held-elsewhere (Proc pid) (process-is-other pid)))
            (parcel-was parcel there)));
        kinds = λ kind. kind-stays (is_born_in w) (is_born_in kept_world) _ _ more
            (kind-left-alone script 1 w kept_world after takes [] [] kept-changes b.kernel b.kernel kind
            (λ number. refl) refl (ranges-same kind) (refl, tt) tt) (holds.kinds kind);
        few = λ kind. few-still script 1 w kept_world after takes [] [] kept-changes b.call calls-now kind refl
            (ranges-same kind) (λ y. read-up (has_lease kind) name (λ other. refl) (b.call y)) (holds.few kind);
        keys = keys-now;
        families = λ y forked. family-left-alone script 1 w kept_world after takes [] [] kept-changes b.pids b.places
            b.kernel (process_deed b.deed) (process_deed deeds-now) y
            (λ pid. ap (λ t. if t then InTable 1 else b.deed (Proc pid)) (object-is-no-process name pid given-object))
            (λ e. refl) (refl, tt) tt (holds.families y forked);
      }
