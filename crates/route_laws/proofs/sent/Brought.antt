-- A node takes a frame with a call, of another node or of its own: in the middle of the event the call is in hand.
use Rattle.std.proofs.Common.{◌≡◌, ◌≢◌, ◌⊎◌, ℕ, ◌≤◌, Bool, true, false, ◌&&◌, not, cond, if◌then◌else◌, List, [], ◌∷◌, ◌++◌, filter, flat_map, nat_eq, is_some, Some, refl, ap, sym, subst, ◌∙◌, inl, inr}
use Rattle.std.proofs.lemmas.Bool.{cases_eq, eq-eqb, ne_eqb, false≢true}
use Rattle.std.proofs.lemmas.List.Elements.{Contains-push_cases}
use Rattle.pico_base.specs.declared.call.Call.{Call}
use Rattle.pico_base.specs.declared.numbers.Kind.{Kind}
use Rattle.pico_base.specs.declared.numbers.Name.{Name}
use Rattle.pico_base.specs.declared.numbers.Name.TheVariants.{Proc}
use Rattle.pico_base.specs.declared.script.Script.{Script}
use Rattle.pico_base.specs.Home.{home_of}
use Rattle.rpc_frame.specs.declared.asked.Asked.{Asked}
use Rattle.rpc_frame.specs.declared.deed.Parcel.{Parcel}
use Rattle.rpc_frame.specs.declared.frame.Frame.{Frame}
use Rattle.node_model.specs.declared.held.Held.{Held}
use Rattle.node_model.specs.declared.held.Held.TheVariants.{Request, Ending}
use Rattle.waiting_model.specs.Calls.{is_withdrawal}
use Rattle.node_model.specs.Bodies.{waiters_of}
use Rattle.node_model.specs.Kinds.{for_kind, get_named}
use Rattle.node_model.specs.Directory.{Directory, held_for, is_parcel, is_parcel_with, maker, place_of, stays}
use Rattle.node_model.specs.Serving.{waiting_as}
use Rattle.world_model.specs.Census.{brings}
use Rattle.world_model.specs.Node.{Node}
use Rattle.world_model.specs.Step.{step_to}
use Rattle.world_model.specs.Calls.{is_for_others}
use Rattle.world_model.specs.World.{World, node_count, world_after, is_checkpoint}
use Rattle.world_laws.specs.Places.{CallPlace, IsInHand, Beside, call_in}
use Rattle.entry_laws.specs.Entering.{is_used_name}
use Rattle.world_laws.specs.Sights.{node_of, frames_to, directory_of, stage_of, is_born_in}
use Rattle.world_laws.specs.Plays.{begin, has_any, is_checkpoint_of, news, placed_in, plays}
use Rattle.world_laws.specs.Names.{NameHolds, NameSight, comes_to, forker, held_at, is_maker, name_sight, range_steps_of}
use Rattle.world_laws.specs.Callers.{CallSight, call_sight, CallHolds, HasCall, HasCallOrNone, IsToBeMade, IsJustThere, asked_of, only_if, is_in_stream, frame_at, is_held_at, is_about, is_item_about, is_end_place, is_waiter_of, is_waiting_at}
use Rattle.world_laws.specs.Cancels.{CancelIf, Nothing, Owing, Wakes, cancel_sight, is_cancel_of, is_held_cancel_of}
use Rattle.world_laws.specs.Ranges.{lease_in, has_lease}
use Rattle.world_laws.specs.Invariant.{Holds, HoldsOwing}
use Rattle.world_laws.specs.Wholes.{HasWhole, WholeIf}
use Rattle.world_laws.proofs.Cancels.{SameCancel, may_be_withdrawn, same-later}
use Rattle.world_laws.proofs.Following.{SameOld}
use Rattle.rule_laws.proofs.Withdrawals.{old-still}
use Rattle.route_laws.proofs.sent.Uncancelled.{is_parked_place, uncancelled-goes}
use Rattle.world_laws.proofs.Stays.{IsMore, SameCall, SameName, call-stays, name-stays, kind-stays}
use Rattle.world_laws.proofs.Changes.{Changes, filter-is-list-map, flat_map-is-list-map, made-same, only-stayed, read-same}
use Rattle.world_laws.proofs.Frames.{concerns, is_plain}
use Rattle.world_laws.proofs.LeftAlone.{SameCaller, same-directory, name-left-alone, kind-left-alone, few-still}
use Rattle.world_laws.proofs.Steps.{Heads, world_without, changes-by-take}
use Rattle.world_laws.proofs.Heads.{rest-stays, others-stay}
use Rattle.rule_laws.proofs.CallMoves.{IsCallMove, cancel-if-same, same-but-call, call-move-keeps, move-born, steps-still, ranges-still}
use Rattle.route_laws.proofs.hand.HandMoves.{about-caller, no-held-cancel, placed_at}
use Rattle.route_laws.proofs.Onwards.{whole-goes-on}
use Rattle.world_laws.proofs.Wholes.{is_to_be_made}

-- the call that a frame from node q brings to node p: it was in this frame alone, and it is still to be made
pub record IsBrought (script : Script) (w : World) (b : Beside) (p q : ℕ) (frame : Frame) (asked : Asked) : Type 0
  where
    pub low : 1 ≤ asked.caller
    pub high : asked.caller ≤ node_count script
    pub call : Call
    pub is : (call_sight w [] b asked.caller).caller.under_way ≡ Some call
    pub has : HasCall script asked.caller (is_born_in w) (call_sight w [] b asked.caller) call
    pub asked_is : asked ≡ asked_of (call_sight w [] b asked.caller) call
    pub for_others : is_for_others (home_of asked.pid asked.call) ≡ true
    pub to_be_made : IsToBeMade script asked.caller (call_sight w [] b asked.caller) call
    -- where it is
    pub is_call : is_withdrawal asked.call ≡ false
    pub is_made_yet : is_to_be_made (b.call asked.caller) ≡ true
    pub no_waiter : (name : Name) → is_waiting_at (b.call asked.caller) name ≡ false
    pub not_end : is_end_place (b.call asked.caller) ≡ false
    pub no_lease : (kind : Kind) → has_lease kind (b.call asked.caller) ≡ false
    pub no_item : (name : Name) → is_held_at (b.call asked.caller) name ≡ false
    pub there : (to sender : ℕ)
        → only_if (is_in_stream (b.call asked.caller) asked.caller to sender) (frame_at (b.call asked.caller) asked)
        ≡ only_if (nat_eq to p && nat_eq sender q) frame
    -- what the frame is
    pub about : is_about asked.caller p q frame ≡ true
    pub of_no_other : (y : ℕ) → y ≢ asked.caller → is_about y p q frame ≡ false
    pub plain : is_plain frame ≡ true
    pub no_birth : is_checkpoint frame ≡ false
    pub no_cancel : (y : ℕ) → is_cancel_of y frame ≡ false
    pub brings_no_lease : (kind : Kind) → lease_in kind frame ≡ []

-- a frame that is nothing for the name but what it is in the play, and for the range of its number
pub record IsOnlyPlayed (name : Name) (frame : Frame) : Type 0 where
  pub no_deed : filter (brings name) (frame ∷ []) ≡ []
  pub no_checkpoint : filter (is_checkpoint_of name) (frame ∷ []) ≡ []
  pub no_place : placed_in name (frame ∷ []) ≡ []
  pub no_news : (made : Bool) → news name made (frame ∷ []) ≡ []

-- what is owed then: nothing, or the withdrawals come last
abbrev pub waking_if : Bool → Owing
waking_if true = Wakes
waking_if false = Nothing

-- the world with the call in hand
abbrev pub brought_world : World → ℕ → ℕ → List Frame → World
brought_world w p q rest = world_after (world_without w p q rest) p (step_to (node_of w p))

rest-same : (x y : Frame) (xs ys : List Frame) → x ∷ xs ≡ y ∷ ys → xs ≡ ys
rest-same x y xs ys h = cc

request-no-parcel : (asked : Asked) (parcel : Parcel) → Request asked ≡ Ending parcel → ⊥
request-no-parcel asked parcel e = false≢true (ap is_parcel e)

and-false : (t : Bool) → (t && false) ≡ false
and-false true = refl
and-false false = refl

module _ (script : Script) (w : World) (b : Beside) (holds : Holds script w [] b) (p q : ℕ) (frame : Frame)
    (rest : List Frame) (h : Heads script w p q frame rest) (asked : Asked)
    (u : IsBrought script w b p q frame asked) (waking : Bool) where
  abbrev caller : ℕ
  caller = asked.caller

  abbrev x : CallSight
  x = call_sight w [] b caller

  abbrev n : Node
  n = node_of w p

  abbrev takes : List (ℕ × Frame)
  takes = (q, frame) ∷ []

  abbrev next : World
  next = brought_world w p q rest

  abbrev calls-now : ℕ → CallPlace
  calls-now = call_in b.call caller IsInHand

  abbrev moved : Beside
  moved = record b { call = calls-now }

  abbrev hand : List Held
  hand = Request asked ∷ []

  -- what taking the frame changes
  abbrev pub brought-changes : Changes script p w next n takes [] []
  brought-changes = changes-by-take script w holds.shape p q frame rest (step_to n) h tt

  -- no node changes
  pub brought-nodes : (y : ℕ) → node_of next y ≡ node_of w y
  brought-nodes y = read-same script p w next n takes [] [] brought-changes (λ (m : Node). m) refl y

  -- nor does the directory
  pub brought-directory : directory_of next ≡ directory_of w
  brought-directory = ap (λ (m : Node). m.leader.directory) (brought-nodes 1)

  has : HasCall script caller (is_born_in w) x u.call
  has = u.has

  just-there : IsJustThere caller x (asked_of x u.call)
  just-there = has.just_there

  call-holds : CallHolds script caller (is_born_in w) x
  call-holds = holds.calls caller u.low u.high

  about-was : (to sender : ℕ) → filter (is_about caller to sender) (frames_to w to sender)
      ≡ only_if (nat_eq to p && nat_eq sender q) frame
  about-was to sender =
      just-there.in_streams to sender
      ∙ ap (λ a. only_if (is_in_stream (b.call caller) caller to sender) (frame_at (b.call caller) a)) (sym u.asked_is)
      ∙ u.there to sender

  -- the call was in this frame alone
  left-alone : (to sender : ℕ) → filter (is_about caller to sender) (brought-changes.left to sender) ≡ []
  left-alone to sender =
      elim (cases_eq to p) [
        | inr d ↦ away (inl d) (ap (λ t. t && nat_eq sender q) (ne_eqb to p d))
        | inl e ↦
            elim (cases_eq sender q) [
              | inr d ↦
                  away (inr d) (ap (λ t. nat_eq to p && t) (ne_eqb sender q d) ∙ and-false (nat_eq to p))
              | inl g ↦
                  subst (λ y. filter (is_about caller y sender) (brought-changes.left y sender) ≡ []) (sym e)
                  (subst (λ z. filter (is_about caller p z) (brought-changes.left p z) ≡ []) (sym g) at-head)
            ]
      ]
    where
      away : (to ≢ p) ⊎ (sender ≢ q) → (nat_eq to p && nat_eq sender q) ≡ false
          → filter (is_about caller to sender) (brought-changes.left to sender) ≡ []
      away d none =
          others-stay script p q w next n frame [] [] brought-changes (λ t s fs. filter (is_about caller t s) fs)
          (λ t s. filter-is-list-map (is_about caller t s)) to sender d
          ∙ about-was to sender
          ∙ ap (λ t. only_if t frame) none

      at-head : filter (is_about caller p q) (brought-changes.left p q) ≡ []
      at-head =
          rest-same frame frame (filter (is_about caller p q) (brought-changes.left p q)) []
          (sym (ap (λ t. cond t (frame ∷ []) [] ++ filter (is_about caller p q) (brought-changes.left p q)) u.about)
          ∙ sym (rest-stays script p q w next n frame [] [] brought-changes (λ t s fs. filter (is_about caller t s) fs)
          (λ t s. filter-is-list-map (is_about caller t s)))
          ∙ about-was p q
          ∙ ap (λ t. only_if (t && nat_eq q q) frame) (eq-eqb p p refl)
          ∙ ap (λ t. only_if t frame) (eq-eqb q q refl))

  held-nowhere : (name : Name) → filter (is_item_about caller) (held_for (directory_of w) name) ≡ []
  held-nowhere name =
      just-there.held_for_names name ∙ ap (λ t. only_if t (Request (asked_of x u.call))) (u.no_item name)

  waits-nowhere : (name : Name) → filter (is_waiter_of caller) (waiters_of (b.body name)) ≡ []
  waits-nowhere name =
      just-there.waiting name ∙ ap (λ t. only_if t (waiting_as (asked_of x u.call))) (u.no_waiter name)

  same-caller : SameCaller n n
  same-caller = record { number = refl; pid = refl; stage = refl; caller = refl; leases = refl }

  abbrev then_owed : Owing
  then_owed = waking_if waking

  whole-then : (t : Bool) → WholeIf Nothing w b → WholeIf (waking_if t) next moved
  whole-then true h = tt
  whole-then false h =
      whole-goes-on script p w next n takes [] brought-changes b caller (b.call caller) IsInHand refl same-caller
      u.is_made_yet refl Nothing h

  owed-then : (t : Bool) (y : ℕ)
      → SameCancel (cancel_sight w [] b y) (cancel_sight next hand moved y)
      → CancelIf y Nothing (cancel_sight w [] b y) → CancelIf y (waking_if t) (cancel_sight next hand moved y)
  owed-then true y same h = tt
  owed-then false y same h = cancel-if-same y Nothing _ _ refl same h

  move : IsCallMove script w next [] hand Nothing then_owed b moved p n takes [] caller
  move =
      record {
        stage = refl;
        under_way = λ left. refl;
        own = λ d. same-caller;
        queue_keys = refl;
        set_keys = refl;
        directory = same-but-call caller (directory_of w) (directory_of next) brought-directory holds.leading;
        node = holds.nodes p h.low h.high;
        deeds = λ pid. refl;
        calls = λ y d. ap (λ t. if t then IsInHand else b.call y) (ne_eqb caller y (λ e. d (sym e)));
        hand_of_others = λ y d. ap (λ t. cond t (Request asked ∷ []) []) (ne_eqb caller y (λ e. d (sym e)));
        parcels_at_hand = λ parcel at. elim (Contains-push_cases [] (Request asked) (Ending parcel) at) [
          | inl none ↦ none
          | inr new ↦ absurd (request-no-parcel asked parcel new)
        ];
        whole = whole-then waking;
        waiters_of_others = λ y d name. refl;
        cancel_of_others = λ y d. refl;
        owed_of_others = λ y d. owed-then waking y;
        plain_taken = (u.plain, tt);
        plain_sent = tt;
        no_birth_taken = (u.no_birth, tt);
        no_birth_sent = tt;
        of_no_other = λ y d. (u.of_no_other y d, tt);
        sent_of_no_other = λ y d. tt;
        no_cancel_taken = λ y d. (u.no_cancel y, tt);
        no_cancel_sent = λ y d. tt;
        may_be_sent = tt;
        to_others = tt;
      }

  more : IsMore (is_born_in w) (is_born_in next)
  more = move-born script w next [] hand Nothing then_owed b moved p n takes [] [] caller h.low h.high holds
      brought-changes move

  read : {A : Type 0} (f : Node → A) → f (node_of w caller) ≡ f (node_of next caller)
  read f = sym (ap f (brought-nodes caller))

  -- ---- the call

  abbrev in-hand : CallSight
  in-hand = placed_at x caller IsInHand (asked_of x u.call)

  sight-now : SameCall in-hand (call_sight next hand moved caller)
  sight-now =
      record {
        number = read (λ (m : Node). m.number);
        pid = read (λ (m : Node). m.pid);
        stage = read (λ (m : Node). m.stage);
        caller = read (λ (m : Node). m.caller);
        leases = read (λ (m : Node). m.leases);
        place = refl;
        alive = refl;
        call = sym (ap (λ t. if t then IsInHand else b.call caller) (eq-eqb caller caller refl));
        frames_about = λ to sender. sym (only-stayed script p w next n takes [] [] brought-changes
            (λ t s fs. filter (is_about caller t s) fs) (λ t s. filter-is-list-map (is_about caller t s)) tt to sender
            ∙ left-alone to sender);
        held = λ name. sym (ap (λ d. filter (is_item_about caller) (held_for d name)) brought-directory
            ∙ held-nowhere name);
        hand = ap (λ a. Request a ∷ []) (sym u.asked_is)
            ∙ sym (ap (λ t. cond t (Request asked ∷ []) []) (about-caller asked u.is_call));
        waiters = λ name. sym (waits-nowhere name);
      }

  still-to-be-made : IsToBeMade script caller in-hand u.call
  still-to-be-made =
      let m : IsToBeMade script caller x u.call = u.to_be_made
      in record { there = m.there; due = m.due; alive = m.alive; lives = m.lives; may = m.may }

  call-in-hand : CallHolds script caller (is_born_in w) in-hand
  call-in-hand =
      record {
        call = subst (λ o. HasCallOrNone script caller (is_born_in w) in-hand o) (sym u.is)
            (record {
              just_there = record {
                in_streams = λ to sender. refl;
                held_for_names = λ name. refl;
                in_hand = refl;
                waiting = λ name. refl;
              };
              home = subst (λ (a : Asked). is_for_others (home_of a.pid a.call) ≡ true) u.asked_is u.for_others;
              used_up = tt;
              between = tt;
              so_far = still-to-be-made;
              at_work = has.at_work;
              started = has.started;
              tickets = has.tickets;
              try_left = has.try_left;
            });
        ends = sym u.not_end ∙ call-holds.ends;
      }

  call-now : CallHolds script caller (is_born_in next) (call_sight next hand moved caller)
  call-now = call-stays script caller (is_born_in w) (is_born_in next) _ _ more sight-now call-in-hand

  -- its old withdrawals are where they were
  old-there : SameOld (cancel_sight w [] b caller) (cancel_sight next hand moved caller)
  old-there =
      old-still script p w next n takes [] [] brought-changes [] hand b moved caller (read (λ (m : Node). m.pid))
      (same-later (let m : Node = node_of w caller in m.caller) (let m : Node = node_of next caller in m.caller)
      (read (λ (m : Node). m.caller)))
      (λ name. ap (λ d. filter (is_held_cancel_of caller) (held_for d name)) brought-directory)
      (ap (λ t. cond t (Request asked ∷ []) []) (no-held-cancel asked caller u.is_call)) (u.no_cancel caller, tt) tt

  pub cancel-brought : may_be_withdrawn x.pid u.call ≡ false → (t : Bool)
      → CancelIf caller (waking_if t) (cancel_sight next hand moved caller)
  cancel-brought cannot true = tt
  cancel-brought cannot false =
      uncancelled-goes caller (cancel_sight w [] b caller) (cancel_sight next hand moved caller) u.call old-there
      (read (λ (m : Node). m.caller)) refl u.is cannot
      (ap (λ t. is_parked_place (if t then IsInHand else b.call caller)) (eq-eqb caller caller refl))
      (holds.cancels caller u.low u.high)

  lease-same : (kind : Kind) (y : ℕ) → has_lease kind (calls-now y) ≡ has_lease kind (b.call y)
  lease-same kind y =
      elim (cases_eq caller y) [
        | inl e ↦
            ap (λ t. has_lease kind (if t then IsInHand else b.call y)) (eq-eqb caller y e)
            ∙ sym (subst (λ z. has_lease kind (b.call z) ≡ false) e (u.no_lease kind))
        | inr d ↦ ap (λ t. has_lease kind (if t then IsInHand else b.call y)) (ne_eqb caller y d)
      ]

  -- ---- names

  steps-left : (used : Bool) (m : Name) (y : ℕ)
      → plays used calls-now m (brought-changes.left y 1) ≡ plays used b.call m (brought-changes.left y 1)
  steps-left used m y =
      steps-still script w next [] hand Nothing then_owed b moved p n takes [] [] caller h.low h.high holds
      brought-changes
      move used y (left-alone y 1) m

  ranges-left : (used : Bool) (m : Name) (y : ℕ)
      → flat_map (range_steps_of used calls-now m) (brought-changes.left y 1)
      ≡ flat_map (range_steps_of used b.call m) (brought-changes.left y 1)
  ranges-left used m y =
      ranges-still script w next [] hand Nothing then_owed b moved p n takes [] [] caller h.low h.high holds
      brought-changes move used y (left-alone y 1) m

  -- A name that the frame isn't about keeps all that holds of it.
  pub name-not-brought : (m : Name) → concerns m frame ≡ false
      → NameHolds script b.pids (is_born_in next) m (name_sight script next hand moved m)
  name-not-brought m away =
      name-stays script b.pids (is_born_in w) (is_born_in next) m _ _ more
      (name-left-alone script p w next n takes [] [] brought-changes [] hand b moved m
      (record {
        directory = same-directory (directory_of w) (directory_of next) brought-directory m;
        used_is = refl;
        part_is = refl;
        body_is = refl;
        deed_is = refl;
        held_is = refl;
        begins_is = λ holds_it comes. refl;
        hand_is = refl;
        steps_are = λ used. steps-left used m;
        ranges_are = λ used. ranges-left used m;
      }) (away, tt) tt) (holds.names m)

  -- what is left in the streams from the leader, for a name
  abbrev pub left_sight : Name → NameSight
  left_sight m =
      record (name_sight script w [] b m) {
        steps = λ y. plays (is_used_name b.kernel m) b.call m (brought-changes.left y 1);
        ranges = λ y. flat_map (range_steps_of (is_used_name b.kernel m) b.call m) (brought-changes.left y 1);
      }

  -- A name that the frame is only played for is seen with the rest of the play.
  pub name-seen-left : (m : Name) → IsOnlyPlayed m frame
      → SameName (left_sight m) (name_sight script next hand moved m)
  name-seen-left m none =
      record {
        place = sym (ap (λ d. place_of d m) brought-directory);
        maker = sym (ap (λ d. maker d m) brought-directory);
        stays = λ y. sym (ap (λ d. stays d y) brought-directory);
        used = refl;
        part = refl;
        body = refl;
        deed = refl;
        held = λ y. sym (ap (λ (z : Node). get_named z.deeds m) (brought-nodes y));
        brought = λ t s. sym (made-same script p w next n takes [] [] brought-changes (λ t s fs. filter (brings m) fs)
            (λ t s. filter-is-list-map (brings m)) (none.no_deed, tt) tt t s);
        kept = λ pid. sym (ap (λ d. filter (is_parcel_with m) (held_for d (Proc pid))) brought-directory);
        hand = refl;
        begins = begins-same;
        steps = λ y. sym (only-stayed script p w next n takes [] [] brought-changes
            (λ t s fs. plays used calls-now m fs)
            (λ t s. flat_map-is-list-map _) tt y 1 ∙ steps-left used m y);
        ranges = λ y. sym (only-stayed script p w next n takes [] [] brought-changes
            (λ t s fs. flat_map (range_steps_of used calls-now m) fs) (λ t s. flat_map-is-list-map _) tt y 1
            ∙ ranges-left used m y);
        placed = λ y. sym (made-same script p w next n takes [] [] brought-changes (λ t s fs. placed_in m fs)
            (λ t s. flat_map-is-list-map _) (none.no_place, tt) tt 1 y);
        news = λ y. sym (ap (λ d. news m (is_used_name b.kernel m && is_maker (maker d m) y) (frames_to next 1 y))
            brought-directory
            ∙ made-same script p w next n takes [] [] brought-changes
            (λ t s fs. news m (is_used_name b.kernel m && is_maker (maker (directory_of w) m) s) fs)
            (λ t s. flat_map-is-list-map _) (none.no_news _, tt) tt 1 y);
      }
    where
      used : Bool
      used = is_used_name b.kernel m

      comes-same : (y : ℕ) → comes_to script next m y ≡ comes_to script w m y
      comes-same y =
          ap (λ fs. not (nat_eq (forker script y) 1) && has_any fs)
          (made-same script p w next n takes [] [] brought-changes (λ t s fs. filter (is_checkpoint_of m) fs)
          (λ t s. filter-is-list-map (is_checkpoint_of m)) (none.no_checkpoint, tt) tt y (forker script y))

      begins-same : (y : ℕ) → begin (stage_of w y) (is_some (held_at w m y)) (comes_to script w m y)
          ≡ begin (stage_of next y) (is_some (held_at next m y)) (comes_to script next m y)
      begins-same y =
          ap (begin (stage_of w y) (is_some (held_at w m y))) (sym (comes-same y))
          ∙ sym (ap (λ (z : Node). begin z.stage (is_some (get_named z.deeds m)) (comes_to script next m y))
          (brought-nodes y))

  -- All holds of such a name where it holds of what is left.
  pub name-brought : (m : Name) → IsOnlyPlayed m frame → NameHolds script b.pids (is_born_in w) m (left_sight m)
      → NameHolds script b.pids (is_born_in next) m (name_sight script next hand moved m)
  name-brought m none old =
      name-stays script b.pids (is_born_in w) (is_born_in next) m _ _ more (name-seen-left m none) old

  -- All holds with the call in hand, where it holds for the names: with its withdrawal, where it has none, or before
  -- those are looked at.
  pub brought-keeps : CancelIf caller (waking_if waking) (cancel_sight next hand moved caller)
      → ((m : Name) → NameHolds script b.pids (is_born_in next) m (name_sight script next hand moved m))
      → HoldsOwing script next hand (waking_if waking) moved
  brought-keeps cancel names =
      call-move-keeps script w next [] hand Nothing then_owed b moved p n takes [] [] caller h.low h.high holds
      brought-changes move call-now cancel names
      (λ kind. kind-stays (is_born_in w) (is_born_in next) _ _ more
      (kind-left-alone script p w next n takes [] [] brought-changes b.kernel b.kernel kind (λ number. refl) refl
      (ap (λ (d : Directory). for_kind d.ranges kind) brought-directory) (u.brings_no_lease kind, tt) tt)
      (holds.kinds kind))
      (λ kind. few-still script p w next n takes [] [] brought-changes b.call calls-now kind refl
      (ap (λ (d : Directory). for_kind d.ranges kind) brought-directory) (lease-same kind) (holds.few kind))

  -- The kernel in which callers wait stands beside the world then.
  pub brought-whole : HasWhole next moved
  brought-whole = whole-then false holds.whole
