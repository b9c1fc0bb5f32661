-- The first call of the leader's hand goes to another place, and none is carried out. What is left to show is where it
-- is now, and the names.
use Rattle.std.proofs.Common.{◌≡◌, ◌≢◌, ℕ, ◌≤◌, Bool, true, false, ◌&&◌, not, cond, if◌then◌else◌, List, [], ◌∷◌, ◌++◌, filter, flat_map, nat_eq, Option, Some, None, is_some, is_none, refl, ap, sym, subst, ◌∙◌, inl, inr, arith}
use Rattle.std.specs.List.{AllByRecursion}
use Rattle.std.proofs.lemmas.Bool.{cases_eq, eq-eqb, ne_eqb, false≢true}
use Rattle.std.proofs.lemmas.List.Elements.{Contains-append_right}
use Rattle.pico_base.specs.declared.call.Call.{Call}
use Rattle.pico_base.specs.declared.numbers.Kind.{Kind}
use Rattle.pico_base.specs.declared.numbers.Name.{Name}
use Rattle.pico_base.specs.declared.numbers.Name.TheVariants.{Proc}
use Rattle.pico_base.specs.declared.script.Script.{Script}
use Rattle.pico_base.specs.Home.{home_of}
use Rattle.rpc_frame.specs.declared.asked.Asked.{Asked}
use Rattle.rpc_frame.specs.declared.frame.Frame.{Frame}
use Rattle.node_model.specs.declared.held.Held.{Held}
use Rattle.node_model.specs.declared.held.Held.TheVariants.{Request, Ending}
use Rattle.node_model.specs.Kinds.{for_kind, kind_of, number_of, get_named}
use Rattle.node_model.specs.Caller.{Caller}
use Rattle.node_model.specs.Leases.{Leases}
use Rattle.node_model.specs.Directory.{Directory, Place, place_of, held_for, maker, maker_in, stays, is_parcel_with}
use Rattle.world_model.specs.Node.{Node}
use Rattle.world_model.specs.Calls.{is_for_others}
use Rattle.world_model.specs.Census.{brings}
use Rattle.world_model.specs.World.{World, node_count}
use Rattle.world_laws.specs.Places.{CallPlace, AsksLease, HasLease, SentByPlace, SentByRange, IsHeld, IsInHand, InAnswer, Ends, Beside, call_in, Waits}
use Rattle.world_laws.specs.Sights.{node_of, frames_to, directory_of, stage_of, is_born_in}
use Rattle.world_laws.specs.Plays.{PlayStep, plays, begin, has_any, is_checkpoint_of, placed_in, news}
use Rattle.world_laws.specs.Names.{NameSight, name_sight, NameHolds, RangeStep, range_steps_of, held_at, comes_to, forker, is_maker}
use Rattle.world_laws.specs.Callers.{CallSight, call_sight, CallHolds, HasCall, HasCallOrNone, IsToBeMade, IsJustThere, IsNowhere, IsBetween, asked_of, only_if, is_in_stream, frame_at, is_held_at, is_in_hand, is_about, is_item_about, is_end_place, may_be_in, IsSoFar, lease_is_over, is_waiter_of, is_waiting_at}
use Rattle.world_laws.specs.Ranges.{has_lease}
use Rattle.world_laws.specs.Families.{NodeHolds}
use Rattle.world_laws.specs.Invariant.{MayBe, HoldsOwing}
use Rattle.world_laws.proofs.Stays.{IsMore, SameCall, SameName, call-stays, name-stays, kind-stays}
use Rattle.world_laws.proofs.Changes.{Changes, sent, filter-is-list-map, flat_map-is-list-map, stayed, made-after, made-same, read-same}
use Rattle.world_laws.proofs.Frames.{ArePlain, BringNoBirth, BringNoLease}
use Rattle.world_laws.proofs.LeftAlone.{SameCaller, DirectoryLeaves, AreNotAbout, name-left-alone, kind-left-alone, few-still}
use Rattle.rule_laws.proofs.CallMoves.{IsCallMove, SameButCall, call-move-keeps, move-born, steps-still, ranges-still, cancel-if-same}
use Rattle.waiting_model.specs.Calls.{is_withdrawal}
use Rattle.entry_laws.specs.Entering.{is_used_name}
use Rattle.node_model.specs.Bodies.{waiters_of}
use Rattle.node_model.specs.Serving.{waiting_as}
use Rattle.world_laws.specs.Cancels.{CancelIf, Owing, cancel_sight, is_cancel_of, is_held_cancel_of}
use Rattle.world_laws.proofs.Cancels.{is_item_of}
use Rattle.world_laws.proofs.Pairs.{goes_on}
use Rattle.world_laws.proofs.Wholes.{is_to_be_made}
use Rattle.route_laws.proofs.Onwards.{cancel-goes-behind, is_wait_place, whole-goes-on}

-- ---- the call that is first in hand

pub record IsFirst (script : Script) (p : ℕ) (born : ℕ → Bool) (x : CallSight) (asked : Asked) (items : List Held)
    : Type 0
  where
    pub call : Call
    pub is : x.caller.under_way ≡ Some call
    pub has : HasCall script p born x call
    pub place_is : x.call ≡ IsInHand
    pub asked_is : asked ≡ asked_of x call
    -- and it is in hand once
    pub alone : items ≡ []

not-none : (x : Held) (xs : List Held) → [] ≡ x ∷ xs → ⊥
not-none x xs h = cc

same-asked : (a c : Asked) (xs ys : List Held) → Request a ∷ xs ≡ Request c ∷ ys → c ≡ a
same-asked a c xs ys h = cc

same-rest : (a c : Held) (xs ys : List Held) → a ∷ xs ≡ c ∷ ys → ys ≡ xs
same-rest a c xs ys h = cc

record SaysHand (place : CallPlace) (asked it : Asked) (items : List Held) : Type 0 where
  place_is : place ≡ IsInHand
  it_is : it ≡ asked
  alone : items ≡ []

says-hand : (place : CallPlace) (asked it : Asked) (items : List Held)
    → only_if (is_in_hand place) (Request asked) ≡ Request it ∷ items → SaysHand place asked it items
says-hand IsInHand asked it items h =
    record {
      place_is = refl;
      it_is = same-asked asked it [] items h;
      alone = same-rest (Request asked) (Request it) [] items h;
    }
says-hand place asked it items h = absurd (not-none (Request it) items h)

-- a call in hand is under way at its caller, and in no other place
pub first-of-hand : (script : Script) (p : ℕ) (born : ℕ → Bool) (x : CallSight) (asked : Asked) (items : List Held)
    → x.hand ≡ Request asked ∷ items → (u : Option Call) → x.caller.under_way ≡ u → HasCallOrNone script p born x u
    → IsFirst script p born x asked items
first-of-hand script p born x asked items e None is h =
    let nowhere : IsNowhere x = h.nowhere
    in absurd (not-none (Request asked) items (sym nowhere.in_hand ∙ e))
first-of-hand script p born x asked items e (Some call) is h =
    let there : IsJustThere p x (asked_of x call) = h.just_there
    in let says : SaysHand x.call (asked_of x call) asked items =
    says-hand x.call (asked_of x call) asked items (sym there.in_hand ∙ e)
    in record {
      call = call;
      is = is;
      has = h;
      place_is = says.place_is;
      asked_is = says.it_is;
      alone = says.alone;
    }

-- ---- where it may go without being carried out

-- to a node, or to what is held for a name
abbrev pub is_routed : CallPlace → Bool
is_routed (SentByPlace to) = true
is_routed (SentByRange to) = true
is_routed (IsHeld name) = true
is_routed place = false

not-in-hand : (place : CallPlace) → is_routed place ≡ true → is_in_hand place ≡ false
not-in-hand IsInHand h = absurd (false≢true h)
not-in-hand place h = refl

no-end-place : (place : CallPlace) → is_routed place ≡ true → is_end_place place ≡ false
no-end-place Ends h = absurd (false≢true h)
no-end-place place h = refl

no-lease-place : (kind : Kind) (place : CallPlace) → is_routed place ≡ true → has_lease kind place ≡ false
no-lease-place kind (HasLease other first) h = absurd (false≢true h)
no-lease-place kind place h = refl

no-lease-due : (place : CallPlace) (leases : Leases) → is_routed place ≡ true → lease_is_over place leases
no-lease-due (HasLease kind first) leases h = absurd (false≢true h)
no-lease-due (AsksLease kind) leases h = absurd (false≢true h)
no-lease-due place leases h = tt

no-wait-place : (place : CallPlace) (name : Name) → is_routed place ≡ true → is_waiting_at place name ≡ false
no-wait-place (Waits other) name h = absurd (false≢true h)
no-wait-place place name h = refl

-- it goes on from the hand
goes-from-hand : (place : CallPlace) → is_routed place ≡ true → goes_on IsInHand place ≡ true
goes-from-hand (SentByPlace to) h = refl
goes-from-hand (SentByRange to) h = refl
goes-from-hand (IsHeld name) h = refl
goes-from-hand place h = absurd (false≢true h)

waits-not : (place : CallPlace) → is_routed place ≡ true → is_wait_place place ≡ false
waits-not (SentByPlace to) h = refl
waits-not (SentByRange to) h = refl
waits-not (IsHeld name) h = refl
waits-not place h = absurd (false≢true h)

to-be-made-there : (place : CallPlace) → is_routed place ≡ true → is_to_be_made place ≡ true
to-be-made-there (SentByPlace to) h = refl
to-be-made-there (SentByRange to) h = refl
to-be-made-there (IsHeld name) h = refl
to-be-made-there place h = absurd (false≢true h)

not-made-there : (script : Script) (p : ℕ) (x : CallSight) (call : Call) (place : CallPlace) → is_routed place ≡ true
    → IsToBeMade script p x call → IsSoFar script p x call place
not-made-there script p x call (InAnswer node reply) h m = absurd (false≢true h)
not-made-there script p x call Ends h m = absurd (false≢true h)
not-made-there script p x call place h m = m

-- it is there, and nowhere else
abbrev pub placed_at : CallSight → ℕ → CallPlace → Asked → CallSight
placed_at x p place asked =
    record x {
      call = place;
      frames_about = λ to sender. only_if (is_in_stream place p to sender) (frame_at place asked);
      held = λ name. only_if (is_held_at place name) (Request asked);
      hand = only_if (is_in_hand place) (Request asked);
      waiters = λ name. only_if (is_waiting_at place name) (waiting_as asked);
    }

module _ (script : Script) (p : ℕ) (born : ℕ → Bool) (x : CallSight) (asked : Asked) (items : List Held)
    (place : CallPlace) (holds : CallHolds script p born x) (f : IsFirst script p born x asked items)
    (routed : is_routed place ≡ true) where
  abbrev placed : CallSight
  placed = placed_at x p place (asked_of x f.call)

  has : HasCall script p born x f.call
  has = f.has

  to-be-made : IsToBeMade script p x f.call
  to-be-made = subst (λ z. IsSoFar script p x f.call z) f.place_is has.so_far

  still-to-be-made : IsToBeMade script p placed f.call
  still-to-be-made =
      let m = to-be-made
      in record { there = m.there; due = m.due; alive = m.alive; lives = m.lives; may = m.may }

  -- all holds of a call that has gone from the hand to such a place
  pub call-placed : may_be_in place (home_of asked.pid asked.call) asked.call ≡ true
      → IsBetween p born place → CallHolds script p born (placed_at x p place (asked_of x f.call))
  call-placed home between =
      record {
        call = subst (λ o. HasCallOrNone script p born placed o) (sym f.is)
            (record {
              just_there = record {
                in_streams = λ to sender. refl;
                held_for_names = λ name. refl;
                in_hand = refl;
                waiting = λ name. refl;
              };
              home = subst (λ (a : Asked). may_be_in place (home_of a.pid a.call) a.call ≡ true) f.asked_is home;
              used_up = no-lease-due place x.leases routed;
              between = between;
              so_far = not-made-there script p placed f.call place routed still-to-be-made;
              at_work = has.at_work;
              started = has.started;
              tickets = has.tickets;
              try_left = has.try_left;
            });
        ends = no-end-place place routed ∙ sym (ap is_end_place f.place_is) ∙ holds.ends;
      }

-- ---- the directory

-- it says the same of all but the call, and of where names are
pub record DirectoryRoutes (x : ℕ) (d d' : Directory) : Type 0 where
  pub same : SameButCall x d d'
  pub ranges_are : (kind : Kind) → for_kind d'.ranges kind ≡ for_kind d.ranges kind
  pub kept_is : (name : Name) (pid : ℕ)
      → filter (is_parcel_with name) (held_for d' (Proc pid)) ≡ filter (is_parcel_with name) (held_for d (Proc pid))

-- a name whose place is the same is left alone
pub route-leaves : (x : ℕ) (d d' : Directory) (name : Name) → DirectoryRoutes x d d'
    → place_of d' name ≡ place_of d name
    → DirectoryLeaves d d' name
route-leaves x d d' name r e =
    let same : SameButCall x d d' = r.same
    in record {
      place_is = e;
      maker_is = ap (λ ranges. maker_in ranges (number_of name)) (r.ranges_are (kind_of name));
      stays_is = λ y. ap is_none (same.partings_are y);
      kept_is = λ pid. r.kept_is name pid;
    }

-- ---- the move

-- the leader's node is n now, and it sent these
pub record IsRouted (script : Script) (w w' : World) (b : Beside) (asked : Asked) (place : CallPlace) (n : Node)
    (sends : List (ℕ × Frame)) : Type 0 where
  -- where the call is
  pub routed : is_routed place ≡ true
  pub home : may_be_in place (home_of asked.pid asked.call) asked.call ≡ true
  pub between : IsBetween asked.caller (is_born_in w) place
  pub frames : (to sender : ℕ)
      → filter (is_about asked.caller to sender) (sent 1 sends to sender)
      ≡ only_if (is_in_stream place asked.caller to sender) (frame_at place asked)
  pub held : (name : Name)
      → filter (is_item_about asked.caller) (held_for (directory_of w') name)
      ≡ only_if (is_held_at place name) (Request asked)
  pub held_cancels : (name : Name)
      → filter (is_held_cancel_of asked.caller) (held_for (directory_of w') name)
      ≡ filter (is_held_cancel_of asked.caller) (held_for (directory_of w) name)
  -- the leader
  pub caller : SameCaller (node_of w 1) n
  pub deeds : n.deeds ≡ (node_of w 1).deeds
  pub queue_keys : n.leader.queue_keys ≡ (node_of w 1).leader.queue_keys
  pub set_keys : n.leader.set_keys ≡ (node_of w 1).leader.set_keys
  pub node : NodeHolds script b.pids (is_born_in w) 1 n
  pub directory : DirectoryRoutes asked.caller (directory_of w) (directory_of w')
  -- the frames
  pub plain : ArePlain sends
  pub no_birth : BringNoBirth sends
  pub no_lease : BringNoLease sends
  pub of_no_other : (y : ℕ) → y ≢ asked.caller → AllByRecursion (λ s. is_about y s.0 1 s.1 ≡ false) sends
  pub no_cancel : (y : ℕ) → AllByRecursion (λ s. is_cancel_of y s.1 ≡ false) sends
  pub may_be : AllByRecursion (λ s. MayBe script (is_born_in w) s.0 1 s.1) sends
  pub to_others : AllByRecursion (λ s. s.0 ≢ 1) sends

-- what a frame sent is not, for a name: it brings no deed and no place of it
pub record BringsNothing (name : Name) (sends : List (ℕ × Frame)) : Type 0 where
  pub no_deed : AllByRecursion (λ s. filter (brings name) (s.1 ∷ []) ≡ []) sends
  pub no_checkpoint : AllByRecursion (λ s. filter (is_checkpoint_of name) (s.1 ∷ []) ≡ []) sends
  pub no_place : AllByRecursion (λ s. placed_in name (s.1 ∷ []) ≡ []) sends
  pub no_news : (made : Bool) → AllByRecursion (λ s. news name made (s.1 ∷ []) ≡ []) sends

-- the name has this place, and these come behind what was on its way
abbrev pub routed_sight : NameSight → Option Place → (ℕ → List PlayStep) → (ℕ → List RangeStep) → NameSight
routed_sight x place steps ranges =
    record x {
      place = place;
      steps = λ h. x.steps h ++ steps h;
      ranges = λ h. x.ranges h ++ ranges h;
    }

-- the first item in hand is a call of a node of the script, and no withdrawal
pub record IsCallOf (script : Script) (asked : Asked) : Type 0 where
  pub low : 1 ≤ asked.caller
  pub high : asked.caller ≤ node_count script
  pub is_call : is_withdrawal asked.call ≡ false

none-both : (t : Bool) → (t && false) ≡ false
none-both true = refl
none-both false = refl

-- such an item is about its caller
pub about-caller : (asked : Asked) → is_withdrawal asked.call ≡ false → is_item_about asked.caller (Request asked)
    ≡ true
about-caller asked is_call =
    ap (λ t. t && not (is_withdrawal asked.call)) (eq-eqb asked.caller asked.caller refl) ∙ ap not is_call

-- and no withdrawal of anyone's
pub no-held-cancel : (asked : Asked) (y : ℕ) → is_withdrawal asked.call ≡ false
    → is_held_cancel_of y (Request asked) ≡ false
no-held-cancel asked y is_call = ap (λ t. nat_eq asked.caller y && t) is_call ∙ none-both (nat_eq asked.caller y)

module _ (script : Script) (w : World) (asked : Asked) (rest : List Held) (b : Beside) {owes : Owing}
    (holds : HoldsOwing script w (Request asked ∷ rest) owes b) (asks : IsCallOf script asked) where
  abbrev hand : List Held
  hand = Request asked ∷ rest

  abbrev x : CallSight
  x = call_sight w hand b asked.caller

  call-holds : CallHolds script asked.caller (is_born_in w) x
  call-holds = holds.calls asked.caller asks.low asks.high

  -- what is known of the call
  pub first : IsFirst script asked.caller (is_born_in w) x asked (filter (is_item_about asked.caller) rest)
  first =
      first-of-hand script asked.caller (is_born_in w) x asked (filter (is_item_about asked.caller) rest)
      (ap (λ t. cond t (Request asked ∷ filter (is_item_about asked.caller) rest)
      (filter (is_item_about asked.caller) rest)) (about-caller asked asks.is_call))
      x.caller.under_way refl call-holds.call

  under-way : HasCall script asked.caller (is_born_in w) x first.call
  under-way = first.has

  there : IsJustThere asked.caller x (asked_of x first.call)
  there = under-way.just_there

  -- it is in no stream
  pub in-no-stream : (to sender : ℕ) → filter (is_about asked.caller to sender) (frames_to w to sender) ≡ []
  in-no-stream to sender =
      there.in_streams to sender
      ∙ ap (λ y. only_if (is_in_stream y asked.caller to sender) (frame_at y (asked_of x first.call))) first.place_is

  -- and held for no name
  pub held-for-none : (name : Name) → filter (is_item_about asked.caller) (held_for (directory_of w) name) ≡ []
  held-for-none name =
      there.held_for_names name
      ∙ ap (λ y. only_if (is_held_at y name) (Request (asked_of x first.call))) first.place_is

  -- nor is it among those who wait
  pub waits-nowhere : (name : Name) → filter (is_waiter_of asked.caller) (waiters_of (b.body name)) ≡ []
  waits-nowhere name =
      there.waiting name
      ∙ ap (λ y. only_if (is_waiting_at y name) (waiting_as (asked_of x first.call))) first.place_is

  -- it is for others to carry out
  pub in-hand-for-others : is_for_others (home_of asked.pid asked.call) ≡ true
  in-hand-for-others =
      subst (λ (a : Asked). is_for_others (home_of a.pid a.call) ≡ true) (sym first.asked_is)
      (sym (ap (λ y. may_be_in y (home_of x.pid first.call) first.call) first.place_is) ∙ under-way.home)

  module _ (place : CallPlace) (w' : World) (n : Node) (sends : List (ℕ × Frame))
      (c : Changes script 1 w w' n [] sends []) (r : IsRouted script w w' b asked place n sends) where
    abbrev calls-now : ℕ → CallPlace
    calls-now = call_in b.call asked.caller place

    abbrev moved : Beside
    moved = record b { call = calls-now }

    same-caller : SameCaller (node_of w 1) n
    same-caller = r.caller

    routes : DirectoryRoutes asked.caller (directory_of w) (directory_of w')
    routes = r.directory

    high-one : 1 ≤ node_count script
    high-one = let low = asks.low in let high = asks.high in omega (arith, low, high)

    others-still : (y : ℕ) → y ≢ asked.caller → calls-now y ≡ b.call y
    others-still y d = ap (λ t. if t then place else b.call y) (ne_eqb asked.caller y (λ e. d (sym e)))

    read : {A : Type 0} (f : Node → A) → f n ≡ f (node_of w 1) → (y : ℕ) → f (node_of w y) ≡ f (node_of w' y)
    read f same y = sym (read-same script 1 w w' n [] sends [] c f same y)

    move : IsCallMove script w w' hand rest owes owes b moved 1 n [] sends asked.caller
    move =
        record {
          stage = same-caller.stage;
          under_way = λ left. ap (λ (k : Caller). k.under_way) same-caller.caller;
          own = λ d. same-caller;
          queue_keys = r.queue_keys;
          set_keys = r.set_keys;
          directory = routes.same;
          node = r.node;
          deeds = λ pid. refl;
          calls = others-still;
          hand_of_others = λ y d. sym (ap (λ t. cond t (Request asked ∷ filter (is_item_of y) rest)
              (filter (is_item_of y) rest)) (ne_eqb asked.caller y (λ e. d (sym e))));
          parcels_at_hand = λ parcel at. Contains-append_right (Request asked ∷ []) rest (Ending parcel) at;
          whole = whole-goes-on script 1 w w' n [] sends c b asked.caller IsInHand place first.place_is same-caller refl
              (to-be-made-there place r.routed) owes;
          waiters_of_others = λ y d name. refl;
          cancel_of_others = λ y d. refl;
          owed_of_others = λ y d same h. cancel-if-same y owes _ _ refl same h;
          plain_taken = tt;
          plain_sent = r.plain;
          no_birth_taken = tt;
          no_birth_sent = r.no_birth;
          of_no_other = λ y d. tt;
          sent_of_no_other = r.of_no_other;
          no_cancel_taken = λ y d. tt;
          no_cancel_sent = λ y d. r.no_cancel y;
          may_be_sent = r.may_be;
          to_others = r.to_others;
        }

    -- the same nodes are born
    pub routed-born : IsMore (is_born_in w) (is_born_in w')
    routed-born =
        move-born script w w' hand rest owes owes b moved 1 n [] sends [] asked.caller (omega arith) high-one holds c
        move

    left-alone : (to sender : ℕ) → filter (is_about asked.caller to sender) (c.left to sender) ≡ []
    left-alone to sender =
        stayed script 1 w w' n [] sends [] c (λ t s fs. filter (is_about asked.caller t s) fs)
        (λ t s. filter-is-list-map (is_about asked.caller t s)) tt to sender
        ∙ in-no-stream to sender

    sight-now : SameCall (placed_at x asked.caller place (asked_of x first.call))
        (call_sight w' rest moved asked.caller)
    sight-now =
        record {
          number = read (λ (m : Node). m.number) same-caller.number asked.caller;
          pid = read (λ (m : Node). m.pid) same-caller.pid asked.caller;
          stage = read (λ (m : Node). m.stage) same-caller.stage asked.caller;
          caller = read (λ (m : Node). m.caller) same-caller.caller asked.caller;
          leases = read (λ (m : Node). m.leases) same-caller.leases asked.caller;
          place = refl;
          alive = refl;
          call = sym (ap (λ t. if t then place else b.call asked.caller) (eq-eqb asked.caller asked.caller refl));
          frames_about = λ to sender. ap (λ a. only_if (is_in_stream place asked.caller to sender) (frame_at place a))
              (sym first.asked_is)
              ∙ sym (made-after script 1 w w' n [] sends [] c (λ t s fs. filter (is_about asked.caller t s) fs)
              (λ t s. filter-is-list-map (is_about asked.caller t s)) to sender
              ∙ ap (λ fs. fs ++ filter (is_about asked.caller to sender) (sent 1 sends to sender))
              (left-alone to sender)
              ∙ r.frames to sender);
          held = λ name. ap (λ a. only_if (is_held_at place name) (Request a)) (sym first.asked_is)
              ∙ sym (r.held name);
          hand = ap (λ t. only_if t (Request (asked_of x first.call))) (not-in-hand place r.routed) ∙ sym first.alone;
          waiters = λ name. ap (λ t. only_if t (waiting_as (asked_of x first.call))) (no-wait-place place name r.routed)
              ∙ sym (waits-nowhere name);
        }

    call-now : CallHolds script asked.caller (is_born_in w') (call_sight w' rest moved asked.caller)
    call-now =
        call-stays script asked.caller (is_born_in w) (is_born_in w') _ _ routed-born sight-now
        (call-placed script asked.caller (is_born_in w) x asked (filter (is_item_about asked.caller) rest) place
        call-holds first r.routed r.home r.between)

    -- ---- its withdrawal

    cancel-now : CallHolds script asked.caller (is_born_in w') (call_sight w' rest moved asked.caller)
        → CancelIf asked.caller owes (cancel_sight w' rest moved asked.caller)
    cancel-now after =
        let node : NodeHolds script b.pids (is_born_in w) asked.caller (node_of w asked.caller) =
        holds.nodes asked.caller asks.low asks.high
        in cancel-goes-behind script 1 w w' n [] sends c b asked.caller IsInHand place first.place_is same-caller hand
        rest node.number (goes-from-hand place r.routed) (waits-not place r.routed) r.held_cancels
        (sym (ap (λ t. cond t (Request asked ∷ filter (is_held_cancel_of asked.caller) rest)
        (filter (is_held_cancel_of asked.caller) rest)) (no-held-cancel asked asked.caller asks.is_call)))
        tt (r.no_cancel asked.caller) owes call-holds after (holds.cancels asked.caller asks.low asks.high)

    lease-same : (kind : Kind) (y : ℕ) → has_lease kind (calls-now y) ≡ has_lease kind (b.call y)
    lease-same kind y =
        elim (cases_eq asked.caller y) [
          | inl e ↦
              ap (λ t. has_lease kind (if t then place else b.call y)) (eq-eqb asked.caller y e)
              ∙ no-lease-place kind place r.routed
              ∙ sym (subst (λ z. has_lease kind (b.call z) ≡ false) e (ap (has_lease kind) first.place_is))
          | inr d ↦ ap (λ t. has_lease kind (if t then place else b.call y)) (ne_eqb asked.caller y d)
        ]

    -- All holds after it, where it holds for the names.
    pub routed-keeps : ((name : Name)
        → NameHolds script b.pids (is_born_in w') name (name_sight script w' rest moved name))
        → HoldsOwing script w' rest owes moved
    routed-keeps names =
        call-move-keeps script w w' hand rest owes owes b moved 1 n [] sends [] asked.caller (omega arith) high-one
        holds c move call-now (cancel-now call-now) names
        (λ kind. kind-stays (is_born_in w) (is_born_in w') _ _ routed-born
        (kind-left-alone script 1 w w' n [] sends [] c b.kernel b.kernel kind (λ number. refl)
        (ap (λ m. for_kind m kind) same-caller.leases) (routes.ranges_are kind) tt (r.no_lease kind))
        (holds.kinds kind))
        (λ kind. few-still script 1 w w' n [] sends [] c b.call calls-now kind refl (routes.ranges_are kind)
        (lease-same kind) (holds.few kind))

    -- ---- names

    -- what was on its way plays as before
    plays-still : (used : Bool) (name : Name) (y : ℕ)
        → plays used calls-now name (c.left y 1) ≡ plays used b.call name (c.left y 1)
    plays-still used name y =
        steps-still script w w' hand rest owes owes b moved 1 n [] sends [] asked.caller (omega arith) high-one holds c
        move used y (left-alone y 1) name

    goes-still : (used : Bool) (name : Name) (y : ℕ)
        → flat_map (range_steps_of used calls-now name) (c.left y 1)
        ≡ flat_map (range_steps_of used b.call name) (c.left y 1)
    goes-still used name y =
        ranges-still script w w' hand rest owes owes b moved 1 n [] sends [] asked.caller (omega arith) high-one holds c
        move used y (left-alone y 1) name

    -- A name that no frame is about, and whose place is the same, keeps all that holds of it.
    pub name-not-routed : (name : Name) → place_of (directory_of w') name ≡ place_of (directory_of w) name
        → AreNotAbout name sends
        → NameHolds script b.pids (is_born_in w') name (name_sight script w' rest moved name)
    name-not-routed name same away =
        name-stays script b.pids (is_born_in w) (is_born_in w') name _ _ routed-born
        (name-left-alone script 1 w w' n [] sends [] c hand rest b moved name
        (record {
          directory = route-leaves asked.caller (directory_of w) (directory_of w') name routes same;
          used_is = refl;
          part_is = refl;
          body_is = refl;
          deed_is = refl;
          held_is = ap (λ deeds. get_named deeds name) r.deeds;
          begins_is = λ holds_it comes. ap (λ stage. begin stage holds_it comes) same-caller.stage;
          hand_is = refl;
          steps_are = λ used. plays-still used name;
          ranges_are = λ used. goes-still used name;
        }) tt away) (holds.names name)

    module _ (name : Name) (place_now : Option Place) (steps : ℕ → List PlayStep) (ranges : ℕ → List RangeStep)
        (is_place : place_of (directory_of w') name ≡ place_now) (none : BringsNothing name sends)
        (is_steps : (y : ℕ) → plays (is_used_name b.kernel name) calls-now name (sent 1 sends y 1) ≡ steps y)
        (is_ranges : (y : ℕ)
        → flat_map (range_steps_of (is_used_name b.kernel name) calls-now name) (sent 1 sends y 1) ≡ ranges y) where
      abbrev s : NameSight
      s = name_sight script w hand b name

      comes-same : (y : ℕ) → comes_to script w' name y ≡ comes_to script w name y
      comes-same y =
          ap (λ fs. not (nat_eq (forker script y) 1) && has_any fs)
          (made-same script 1 w w' n [] sends [] c (λ t q fs. filter (is_checkpoint_of name) fs)
          (λ t q. filter-is-list-map (is_checkpoint_of name)) tt none.no_checkpoint y (forker script y))

      begins-same : (y : ℕ)
          → s.begins y ≡ begin (stage_of w' y) (is_some (held_at w' name y)) (comes_to script w' name y)
      begins-same y =
          ap (begin (stage_of w y) (is_some (held_at w name y))) (sym (comes-same y))
          ∙ sym (read-same script 1 w w' n [] sends [] c
          (λ (m : Node). begin m.stage (is_some (get_named m.deeds name)) (comes_to script w' name y))
          (ap (λ stage. begin stage (is_some (get_named n.deeds name)) (comes_to script w' name y)) same-caller.stage
          ∙ ap (λ deeds. begin (stage_of w 1) (is_some (get_named deeds name)) (comes_to script w' name y)) r.deeds) y)

      abbrev used : Bool
      used = is_used_name b.kernel name

      steps-same : (y : ℕ) → s.steps y ++ steps y ≡ plays used calls-now name (frames_to w' y 1)
      steps-same y =
          sym (made-after script 1 w w' n [] sends [] c (λ t q fs. plays used calls-now name fs)
          (λ t q. flat_map-is-list-map _) y 1
          ∙ ap (λ ss. ss ++ plays used calls-now name (sent 1 sends y 1))
          (plays-still used name y
          ∙ stayed script 1 w w' n [] sends [] c (λ t q fs. plays used b.call name fs)
          (λ t q. flat_map-is-list-map _) tt y 1)
          ∙ ap (λ ss. s.steps y ++ ss) (is_steps y))

      ranges-same : (y : ℕ)
          → s.ranges y ++ ranges y ≡ flat_map (range_steps_of used calls-now name) (frames_to w' y 1)
      ranges-same y =
          sym (made-after script 1 w w' n [] sends [] c (λ t q fs. flat_map (range_steps_of used calls-now name) fs)
          (λ t q. flat_map-is-list-map _) y 1
          ∙ ap (λ ss. ss ++ flat_map (range_steps_of used calls-now name) (sent 1 sends y 1))
          (goes-still used name y
          ∙ stayed script 1 w w' n [] sends [] c (λ t q fs. flat_map (range_steps_of used b.call name) fs)
          (λ t q. flat_map-is-list-map _) tt y 1)
          ∙ ap (λ ss. s.ranges y ++ ss) (is_ranges y))

      maker-same : maker (directory_of w') name ≡ maker (directory_of w) name
      maker-same = ap (λ ns. maker_in ns (number_of name)) (routes.ranges_are (kind_of name))

      stays-same : (y : ℕ) → stays (directory_of w) y ≡ stays (directory_of w') y
      stays-same y =
          let same : SameButCall asked.caller (directory_of w) (directory_of w') = routes.same
          in sym (ap is_none (same.partings_are y))

      news-same : (y : ℕ)
          → s.news y ≡ news name (s.used && is_maker (maker (directory_of w') name) y) (frames_to w' 1 y)
      news-same y =
          ap (λ m. news name (s.used && is_maker m y) (frames_to w 1 y)) (sym maker-same)
          ∙ sym (made-same script 1 w w' n [] sends [] c
          (λ t q fs. news name (s.used && is_maker (maker (directory_of w') name) q) fs)
          (λ t q. flat_map-is-list-map _) tt (none.no_news _) 1 y)

      -- The name that the call is on is seen so.
      pub name-routed : SameName (routed_sight s place_now steps ranges) (name_sight script w' rest moved name)
      name-routed =
          record {
            place = sym is_place;
            maker = sym maker-same;
            stays = stays-same;
            used = refl;
            part = refl;
            body = refl;
            deed = refl;
            held = λ y. sym (read-same script 1 w w' n [] sends [] c (λ (m : Node). get_named m.deeds name)
                (ap (λ deeds. get_named deeds name) r.deeds) y);
            brought = λ t q. sym (made-same script 1 w w' n [] sends [] c (λ t q fs. filter (brings name) fs)
                (λ t q. filter-is-list-map (brings name)) tt none.no_deed t q);
            kept = λ pid. sym (routes.kept_is name pid);
            hand = refl;
            begins = begins-same;
            steps = steps-same;
            ranges = ranges-same;
            placed = λ y. sym (made-same script 1 w w' n [] sends [] c (λ t q fs. placed_in name fs)
                (λ t q. flat_map-is-list-map _) tt none.no_place 1 y);
            news = news-same;
          }
