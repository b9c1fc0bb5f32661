-- The leader takes a frame with a call, and the call is in its hand now.
use Rattle.std.proofs.Common.{◌≡◌, ◌≢◌, ◌⊎◌, ℕ, ◌≤◌, Bool, true, false, ◌&&◌, not, cond, if◌then◌else◌, List, [], ◌∷◌, ◌++◌, filter, flat_map, nat_eq, is_some, Some, refl, ap, sym, subst, ◌∙◌, inl, inr}
use Rattle.std.proofs.lemmas.Bool.{cases_eq, eq-eqb, ne_eqb, false≢true}
use Rattle.std.proofs.lemmas.List.Elements.{Contains-push_cases}
use Rattle.pico_base.specs.declared.call.Call.{Call}
use Rattle.pico_base.specs.declared.numbers.Kind.{Kind}
use Rattle.pico_base.specs.declared.numbers.Name.{Name}
use Rattle.pico_base.specs.declared.script.Script.{Script}
use Rattle.pico_base.specs.Home.{home_of}
use Rattle.rpc_frame.specs.declared.asked.Asked.{Asked}
use Rattle.rpc_frame.specs.declared.deed.Parcel.{Parcel}
use Rattle.rpc_frame.specs.declared.frame.Frame.{Frame}
use Rattle.node_model.specs.declared.held.Held.{Held}
use Rattle.node_model.specs.declared.held.Held.TheVariants.{Request, Ending}
use Rattle.node_model.specs.Kinds.{for_kind, get_named}
use Rattle.node_model.specs.Caller.{Caller}
use Rattle.pico_base.specs.declared.numbers.Name.TheVariants.{Proc}
use Rattle.node_model.specs.Directory.{Directory, held_for, is_parcel, is_parcel_with, maker, place_of, stays}
use Rattle.world_model.specs.Census.{brings}
use Rattle.world_model.specs.Node.{Node}
use Rattle.world_model.specs.Step.{step_to}
use Rattle.world_model.specs.Calls.{is_for_others}
use Rattle.world_model.specs.World.{World, node_count, world_after, is_checkpoint}
use Rattle.world_laws.specs.Places.{CallPlace, IsInHand, Beside, call_in}
use Rattle.world_laws.specs.Sights.{node_of, frames_to, directory_of, stage_of, is_born_in}
use Rattle.world_laws.specs.Plays.{begin, finds_place, has_any, is_checkpoint_of, placed_in, plays}
use Rattle.world_laws.specs.Names.{NameHolds, comes_to, forker, held_at, name_sight, range_steps_of}
use Rattle.world_laws.specs.Callers.{CallSight, call_sight, CallHolds, HasCall, HasCallOrNone, IsToBeMade, IsJustThere, asked_of, only_if, is_in_stream, frame_at, is_held_at, is_about, is_item_about, is_end_place, is_waiter_of, is_waiting_at}
use Rattle.world_laws.specs.Ranges.{lease_in, has_lease}
use Rattle.world_laws.specs.Families.{NodeHolds}
use Rattle.world_laws.specs.Invariant.{Holds}
use Rattle.world_laws.proofs.Stays.{IsMore, SameCall, call-stays, name-stays, kind-stays}
use Rattle.world_laws.proofs.Changes.{Changes, filter-is-list-map, flat_map-is-list-map, made-same, only-stayed, read-same, stayed}
use Rattle.world_laws.proofs.Frames.{concerns, is_plain}
use Rattle.world_laws.proofs.LeftAlone.{SameCaller, same-directory, name-left-alone, kind-left-alone, few-still}
use Rattle.world_laws.proofs.Steps.{Heads, world_without, changes-by-take}
use Rattle.world_laws.proofs.Heads.{rest-stays, others-stay}
use Rattle.rule_laws.proofs.CallMoves.{IsCallMove, same-but-call, call-move-keeps, move-born, steps-still, ranges-still, cancel-if-same}
use Rattle.route_laws.proofs.hand.HandMoves.{placed_at, about-caller, no-held-cancel}
use Rattle.waiting_model.specs.Calls.{is_withdrawal}
use Rattle.entry_laws.specs.Entering.{is_used_name}
use Rattle.node_model.specs.Bodies.{waiters_of}
use Rattle.node_model.specs.Serving.{waiting_as}
use Rattle.world_laws.specs.Cancels.{CancelIf, Nothing, cancel_sight, is_cancel_of, is_held_cancel_of}
use Rattle.world_laws.proofs.Pairs.{goes_on}
use Rattle.world_laws.proofs.Wholes.{is_to_be_made}
use Rattle.route_laws.proofs.Onwards.{cancel-goes-behind, whole-goes-on}

-- the call that a frame brings back to the leader: it was in this frame alone, and it is still to be made
pub record IsTakenUp (script : Script) (w : World) (b : Beside) (q : ℕ) (frame : Frame) (asked : Asked) : Type 0 where
  pub low : 1 ≤ asked.caller
  pub high : asked.caller ≤ node_count script
  pub call : Call
  pub is : (call_sight w [] b asked.caller).caller.under_way ≡ Some call
  pub has : HasCall script asked.caller (is_born_in w) (call_sight w [] b asked.caller) call
  pub asked_is : asked ≡ asked_of (call_sight w [] b asked.caller) call
  pub for_others : is_for_others (home_of asked.pid asked.call) ≡ true
  pub to_be_made : IsToBeMade script asked.caller (call_sight w [] b asked.caller) call
  -- where it is
  pub is_call : is_withdrawal asked.call ≡ false
  pub goes : goes_on (b.call asked.caller) IsInHand ≡ true
  pub is_made_yet : is_to_be_made (b.call asked.caller) ≡ true
  pub no_waiter : (name : Name) → is_waiting_at (b.call asked.caller) name ≡ false
  pub not_end : is_end_place (b.call asked.caller) ≡ false
  pub no_lease : (kind : Kind) → has_lease kind (b.call asked.caller) ≡ false
  pub no_item : (name : Name) → is_held_at (b.call asked.caller) name ≡ false
  pub there : (to sender : ℕ)
      → only_if (is_in_stream (b.call asked.caller) asked.caller to sender) (frame_at (b.call asked.caller) asked)
      ≡ only_if (nat_eq to 1 && nat_eq sender q) frame
  -- what the frame is
  pub about : is_about asked.caller 1 q frame ≡ true
  pub of_no_other : (y : ℕ) → y ≢ asked.caller → is_about y 1 q frame ≡ false
  pub plain : is_plain frame ≡ true
  pub no_birth : is_checkpoint frame ≡ false
  pub no_cancel : (y : ℕ) → is_cancel_of y frame ≡ false
  pub brings_no_lease : (kind : Kind) → lease_in kind frame ≡ []

-- a frame that is nothing for the name but news
pub record BringsNews (used : Bool) (call : ℕ → CallPlace) (name : Name) (frame : Frame) : Type 0 where
  pub no_deed : filter (brings name) (frame ∷ []) ≡ []
  pub no_checkpoint : filter (is_checkpoint_of name) (frame ∷ []) ≡ []
  pub no_steps : plays used call name (frame ∷ []) ≡ []
  pub no_ranges : flat_map (range_steps_of used call name) (frame ∷ []) ≡ []
  pub no_place : placed_in name (frame ∷ []) ≡ []

-- the leader is as it was but for its cache
pub record IsSameLeader (script : Script) (w : World) (b : Beside) (n : Node) : Type 0 where
  pub caller : SameCaller (node_of w 1) n
  pub deeds : n.deeds ≡ (node_of w 1).deeds
  pub leader : n.leader ≡ (node_of w 1).leader
  pub node : NodeHolds script b.pids (is_born_in w) 1 n

rest-same : (x y : Frame) (xs ys : List Frame) → x ∷ xs ≡ y ∷ ys → xs ≡ ys
rest-same x y xs ys h = cc

request-no-parcel : (asked : Asked) (parcel : Parcel) → Request asked ≡ Ending parcel → ⊥
request-no-parcel asked parcel e = false≢true (ap is_parcel e)

and-false : (t : Bool) → (t && false) ≡ false
and-false true = refl
and-false false = refl

module _ (script : Script) (w : World) (b : Beside) (holds : Holds script w [] b) (q : ℕ) (frame : Frame)
    (rest : List Frame) (h : Heads script w 1 q frame rest) (asked : Asked) (u : IsTakenUp script w b q frame asked)
    (n : Node) (same : IsSameLeader script w b n) where
  abbrev p : ℕ
  p = asked.caller

  abbrev x : CallSight
  x = call_sight w [] b p

  abbrev takes : List (ℕ × Frame)
  takes = (q, frame) ∷ []

  abbrev next : World
  next = world_after (world_without w 1 q rest) 1 (step_to n)

  abbrev calls-now : ℕ → CallPlace
  calls-now = call_in b.call p IsInHand

  abbrev moved : Beside
  moved = record b { call = calls-now }

  abbrev hand : List Held
  hand = Request asked ∷ []

  changes : Changes script 1 w next n takes [] []
  changes = changes-by-take script w holds.shape 1 q frame rest (step_to n) h tt

  has : HasCall script p (is_born_in w) x u.call
  has = u.has

  just-there : IsJustThere p x (asked_of x u.call)
  just-there = has.just_there

  call-holds : CallHolds script p (is_born_in w) x
  call-holds = holds.calls p u.low u.high

  same-caller : SameCaller (node_of w 1) n
  same-caller = same.caller

  same-directory-now : directory_of next ≡ directory_of w
  same-directory-now =
      read-same script 1 w next n takes [] [] changes (λ (m : Node). m.leader.directory)
      (ap (λ l. l.directory) same.leader) 1

  about-was : (to sender : ℕ) → filter (is_about p to sender) (frames_to w to sender)
      ≡ only_if (nat_eq to 1 && nat_eq sender q) frame
  about-was to sender =
      just-there.in_streams to sender
      ∙ ap (λ a. only_if (is_in_stream (b.call p) p to sender) (frame_at (b.call p) a)) (sym u.asked_is)
      ∙ u.there to sender

  -- the call was in this frame alone
  left-alone : (to sender : ℕ) → filter (is_about p to sender) (changes.left to sender) ≡ []
  left-alone to sender =
      elim (cases_eq to 1) [
        | inr d ↦ away (inl d) (ap (λ t. t && nat_eq sender q) (ne_eqb to 1 d))
        | inl e ↦
            elim (cases_eq sender q) [
              | inr d ↦
                  away (inr d) (ap (λ t. nat_eq to 1 && t) (ne_eqb sender q d) ∙ and-false (nat_eq to 1))
              | inl g ↦
                  subst (λ y. filter (is_about p y sender) (changes.left y sender) ≡ []) (sym e)
                  (subst (λ z. filter (is_about p 1 z) (changes.left 1 z) ≡ []) (sym g) at-head)
            ]
      ]
    where
      away : (to ≢ 1) ⊎ (sender ≢ q) → (nat_eq to 1 && nat_eq sender q) ≡ false
          → filter (is_about p to sender) (changes.left to sender) ≡ []
      away d none =
          others-stay script 1 q w next n frame [] [] changes (λ t s fs. filter (is_about p t s) fs)
          (λ t s. filter-is-list-map (is_about p t s)) to sender d
          ∙ about-was to sender
          ∙ ap (λ t. only_if t frame) none

      at-head : filter (is_about p 1 q) (changes.left 1 q) ≡ []
      at-head =
          rest-same frame frame (filter (is_about p 1 q) (changes.left 1 q)) []
          (sym (ap (λ t. cond t (frame ∷ []) [] ++ filter (is_about p 1 q) (changes.left 1 q)) u.about)
          ∙ sym (rest-stays script 1 q w next n frame [] [] changes (λ t s fs. filter (is_about p t s) fs)
          (λ t s. filter-is-list-map (is_about p t s)))
          ∙ about-was 1 q
          ∙ ap (λ t. only_if t frame) (eq-eqb q q refl))

  held-nowhere : (name : Name) → filter (is_item_about p) (held_for (directory_of w) name) ≡ []
  held-nowhere name =
      just-there.held_for_names name ∙ ap (λ t. only_if t (Request (asked_of x u.call))) (u.no_item name)

  waits-nowhere : (name : Name) → filter (is_waiter_of p) (waiters_of (b.body name)) ≡ []
  waits-nowhere name =
      just-there.waiting name ∙ ap (λ t. only_if t (waiting_as (asked_of x u.call))) (u.no_waiter name)

  move : IsCallMove script w next [] hand Nothing Nothing b moved 1 n takes [] p
  move =
      record {
        stage = same-caller.stage;
        under_way = λ left. ap (λ (k : Caller). k.under_way) same-caller.caller;
        own = λ d. same-caller;
        queue_keys = ap (λ l. l.queue_keys) same.leader;
        set_keys = ap (λ l. l.set_keys) same.leader;
        directory = same-but-call p (directory_of w) (directory_of next) same-directory-now holds.leading;
        node = same.node;
        deeds = λ pid. refl;
        calls = λ y d. ap (λ t. if t then IsInHand else b.call y) (ne_eqb p y (λ e. d (sym e)));
        hand_of_others = λ y d. ap (λ t. cond t (Request asked ∷ []) []) (ne_eqb p y (λ e. d (sym e)));
        parcels_at_hand = λ parcel at. elim (Contains-push_cases [] (Request asked) (Ending parcel) at) [
          | inl none ↦ none
          | inr new ↦ absurd (request-no-parcel asked parcel new)
        ];
        whole = whole-goes-on script 1 w next n takes [] changes b p (b.call p) IsInHand refl same-caller u.is_made_yet
            refl Nothing;
        waiters_of_others = λ y d name. refl;
        cancel_of_others = λ y d. refl;
        owed_of_others = λ y d same h. cancel-if-same y Nothing _ _ refl same h;
        plain_taken = (u.plain, tt);
        plain_sent = tt;
        no_birth_taken = (u.no_birth, tt);
        no_birth_sent = tt;
        of_no_other = λ y d. (u.of_no_other y d, tt);
        sent_of_no_other = λ y d. tt;
        no_cancel_taken = λ y d. (u.no_cancel y, tt);
        no_cancel_sent = λ y d. tt;
        may_be_sent = tt;
        to_others = tt;
      }

  more : IsMore (is_born_in w) (is_born_in next)
  more = move-born script w next [] hand Nothing Nothing b moved 1 n takes [] [] p h.low h.high holds changes move

  read : {A : Type 0} (f : Node → A) → f n ≡ f (node_of w 1) → f (node_of w p) ≡ f (node_of next p)
  read f e = sym (read-same script 1 w next n takes [] [] changes f e p)

  sight-now : SameCall (placed_at x p IsInHand (asked_of x u.call)) (call_sight next hand moved p)
  sight-now =
      record {
        number = read (λ (m : Node). m.number) same-caller.number;
        pid = read (λ (m : Node). m.pid) same-caller.pid;
        stage = read (λ (m : Node). m.stage) same-caller.stage;
        caller = read (λ (m : Node). m.caller) same-caller.caller;
        leases = read (λ (m : Node). m.leases) same-caller.leases;
        place = refl;
        alive = refl;
        call = sym (ap (λ t. if t then IsInHand else b.call p) (eq-eqb p p refl));
        frames_about = λ to sender. sym (only-stayed script 1 w next n takes [] [] changes
            (λ t s fs. filter (is_about p t s) fs) (λ t s. filter-is-list-map (is_about p t s)) tt to sender
            ∙ left-alone to sender);
        held = λ name. sym (ap (λ d. filter (is_item_about p) (held_for d name)) same-directory-now
            ∙ held-nowhere name);
        hand = ap (λ a. Request a ∷ []) (sym u.asked_is)
            ∙ sym (ap (λ t. cond t (Request asked ∷ []) []) (about-caller asked u.is_call));
        waiters = λ name. sym (waits-nowhere name);
      }

  abbrev in-hand : CallSight
  in-hand = placed_at x p IsInHand (asked_of x u.call)

  still-to-be-made : IsToBeMade script p in-hand u.call
  still-to-be-made =
      let m : IsToBeMade script p x u.call = u.to_be_made
      in record { there = m.there; due = m.due; alive = m.alive; lives = m.lives; may = m.may }

  call-in-hand : CallHolds script p (is_born_in w) in-hand
  call-in-hand =
      record {
        call = subst (λ o. HasCallOrNone script p (is_born_in w) in-hand o) (sym u.is)
            (record {
              just_there = record {
                in_streams = λ to sender. refl;
                held_for_names = λ name. refl;
                in_hand = refl;
                waiting = λ name. refl;
              };
              home = subst (λ (a : Asked). is_for_others (home_of a.pid a.call) ≡ true) u.asked_is u.for_others;
              used_up = tt;
              between = tt;
              so_far = still-to-be-made;
              at_work = has.at_work;
              started = has.started;
              tickets = has.tickets;
              try_left = has.try_left;
            });
        ends = sym u.not_end ∙ call-holds.ends;
      }

  call-now : CallHolds script p (is_born_in next) (call_sight next hand moved p)
  call-now = call-stays script p (is_born_in w) (is_born_in next) _ _ more sight-now call-in-hand

  cancel-now : CancelIf p Nothing (cancel_sight next hand moved p)
  cancel-now =
      let node : NodeHolds script b.pids (is_born_in w) p (node_of w p) = holds.nodes p u.low u.high
      in cancel-goes-behind script 1 w next n takes [] changes b p (b.call p) IsInHand refl same-caller [] hand
      node.number
      u.goes refl (λ name. ap (λ d. filter (is_held_cancel_of p) (held_for d name)) same-directory-now)
      (ap (λ t. cond t (Request asked ∷ []) []) (no-held-cancel asked p u.is_call)) (u.no_cancel p, tt) tt Nothing
      call-holds call-now (holds.cancels p u.low u.high)

  lease-same : (kind : Kind) (y : ℕ) → has_lease kind (calls-now y) ≡ has_lease kind (b.call y)
  lease-same kind y =
      elim (cases_eq p y) [
        | inl e ↦
            ap (λ t. has_lease kind (if t then IsInHand else b.call y)) (eq-eqb p y e)
            ∙ sym (subst (λ z. has_lease kind (b.call z) ≡ false) e (u.no_lease kind))
        | inr d ↦ ap (λ t. has_lease kind (if t then IsInHand else b.call y)) (ne_eqb p y d)
      ]

  -- A name that the frame isn't about keeps all that holds of it.
  pub name-not-taken : (m : Name) → concerns m frame ≡ false
      → NameHolds script b.pids (is_born_in next) m (name_sight script next hand moved m)
  name-not-taken m away =
      name-stays script b.pids (is_born_in w) (is_born_in next) m _ _ more
      (name-left-alone script 1 w next n takes [] [] changes [] hand b moved m
      (record {
        directory = same-directory (directory_of w) (directory_of next) same-directory-now m;
        used_is = refl;
        part_is = refl;
        body_is = refl;
        deed_is = refl;
        held_is = ap (λ deeds. get_named deeds m) same.deeds;
        begins_is = λ holds_it comes. ap (λ stage. begin stage holds_it comes) same-caller.stage;
        hand_is = refl;
        steps_are = λ used y. steps-still script w next [] hand Nothing Nothing b moved 1 n takes [] [] p h.low h.high
            holds changes move used y (left-alone y 1) m;
        ranges_are = λ used y. ranges-still script w next [] hand Nothing Nothing b moved 1 n takes [] [] p h.low h.high
            holds changes move used y (left-alone y 1) m;
      }) (away, tt) tt) (holds.names m)

  -- A name that the frame brings news of and nothing else, and that is known, keeps all that holds of it.
  pub name-news-taken : (m : Name) → is_some (place_of (directory_of w) m) ≡ true → BringsNews
      (is_used_name b.kernel m) b.call m frame
      → NameHolds script b.pids (is_born_in next) m (name_sight script next hand moved m)
  name-news-taken m known k =
      name-stays script b.pids (is_born_in w) (is_born_in next) m
      (record (name_sight script w [] b m) { news = (name_sight script next hand moved m).news })
      (name_sight script next hand moved m) more
      (record {
        place = sym (ap (λ d. place_of d m) same-directory-now);
        maker = sym (ap (λ d. maker d m) same-directory-now);
        stays = λ y. sym (ap (λ d. stays d y) same-directory-now);
        used = refl;
        part = refl;
        body = refl;
        deed = refl;
        held = λ y. sym (read-same script 1 w next n takes [] [] changes (λ (z : Node). get_named z.deeds m)
            (ap (λ deeds. get_named deeds m) same.deeds) y);
        brought = λ t s. sym (made-same script 1 w next n takes [] [] changes (λ t s fs. filter (brings m) fs)
            (λ t s. filter-is-list-map (brings m)) (k.no_deed, tt) tt t s);
        kept = λ pid. sym (ap (λ d. filter (is_parcel_with m) (held_for d (Proc pid))) same-directory-now);
        hand = refl;
        begins = begins-same;
        steps = λ y. sym (only-stayed script 1 w next n takes [] [] changes (λ t s fs. plays used calls-now m fs)
            (λ t s. flat_map-is-list-map _) tt y 1
            ∙ steps-still script w next [] hand Nothing Nothing b moved 1 n takes [] [] p h.low h.high holds changes
            move used y (left-alone y 1) m
            ∙ stayed script 1 w next n takes [] [] changes (λ t s fs. plays used b.call m fs)
            (λ t s. flat_map-is-list-map _) (k.no_steps, tt) y 1);
        ranges = λ y. sym (only-stayed script 1 w next n takes [] [] changes
            (λ t s fs. flat_map (range_steps_of used calls-now m) fs) (λ t s. flat_map-is-list-map _) tt y 1
            ∙ ranges-still script w next [] hand Nothing Nothing b moved 1 n takes [] [] p h.low h.high holds changes
            move used y (left-alone y 1) m
            ∙ stayed script 1 w next n takes [] [] changes (λ t s fs. flat_map (range_steps_of used b.call m) fs)
            (λ t s. flat_map-is-list-map _) (k.no_ranges, tt) y 1);
        placed = λ y. sym (made-same script 1 w next n takes [] [] changes (λ t s fs. placed_in m fs)
            (λ t s. flat_map-is-list-map _) (k.no_place, tt) tt 1 y);
        news = λ y. refl;
      })
      (record {
        parts = old.parts;
        callers = old.callers;
        made = old.made;
        place_fits = old.place_fits;
        tables = old.tables;
        streams = old.streams;
        kept = old.kept;
        in_hand = old.in_hand;
        known = old.known;
        believed = old.believed;
        plays = old.plays;
        leader = old.leader;
        told = old.told;
        found = λ y low_y. ap (λ t. finds_place t ((name_sight script next hand moved m).news y)) known;
        unplaced = old.unplaced;
        ranged = old.ranged;
        leased = old.leased;
        bound = old.bound;
        items = old.items;
      })
    where
      used : Bool
      used = is_used_name b.kernel m

      old : NameHolds script b.pids (is_born_in w) m (name_sight script w [] b m)
      old = holds.names m

      comes-same : (y : ℕ) → comes_to script next m y ≡ comes_to script w m y
      comes-same y =
          ap (λ fs. not (nat_eq (forker script y) 1) && has_any fs)
          (made-same script 1 w next n takes [] [] changes (λ t s fs. filter (is_checkpoint_of m) fs)
          (λ t s. filter-is-list-map (is_checkpoint_of m)) (k.no_checkpoint, tt) tt y (forker script y))

      begins-same : (y : ℕ) → begin (stage_of w y) (is_some (held_at w m y)) (comes_to script w m y)
          ≡ begin (stage_of next y) (is_some (held_at next m y)) (comes_to script next m y)
      begins-same y =
          ap (begin (stage_of w y) (is_some (held_at w m y))) (sym (comes-same y))
          ∙ sym (read-same script 1 w next n takes [] [] changes
          (λ (z : Node). begin z.stage (is_some (get_named z.deeds m)) (comes_to script next m y))
          (ap (λ stage. begin stage (is_some (get_named n.deeds m)) (comes_to script next m y)) same-caller.stage
          ∙ ap (λ deeds. begin (stage_of w 1) (is_some (get_named deeds m)) (comes_to script next m y)) same.deeds) y)

  -- All holds with the call in hand, where it holds for the names.
  pub taken-keeps : ((m : Name) → NameHolds script b.pids (is_born_in next) m (name_sight script next hand moved m))
      → Holds script next hand moved
  taken-keeps names =
      call-move-keeps script w next [] hand Nothing Nothing b moved 1 n takes [] [] p h.low h.high holds changes move
      call-now cancel-now names
      (λ kind. kind-stays (is_born_in w) (is_born_in next) _ _ more
      (kind-left-alone script 1 w next n takes [] [] changes b.kernel b.kernel kind (λ number. refl)
      (ap (λ m. for_kind m kind) same-caller.leases)
      (ap (λ (d : Directory). for_kind d.ranges kind) same-directory-now) (u.brings_no_lease kind, tt) tt)
      (holds.kinds kind))
      (λ kind. few-still script 1 w next n takes [] [] changes b.call calls-now kind refl
      (ap (λ (d : Directory). for_kind d.ranges kind) same-directory-now) (lease-same kind) (holds.few kind))
