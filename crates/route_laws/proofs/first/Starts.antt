-- A node starts a call of its process that others may carry out: in the middle of the event the call is in hand.
use Rattle.std.proofs.Common.{◌≡◌, ◌≢◌, ℕ, ◌+◌, ◌≤◌, true, false, cond, if◌then◌else◌, List, [], ◌∷◌, filter, Contains, refl, ap, sym, subst, Some, ◌∙◌, inl, inr, append-nil, arith}
use Rattle.std.proofs.lemmas.Bool.{cases_eq, eq-eqb, ne_eqb, false≢true}
use Rattle.std.proofs.lemmas.List.Elements.{Contains-push_cases}
use Rattle.pico_base.specs.declared.numbers.Kind.{Kind}
use Rattle.pico_base.specs.declared.numbers.Name.{Name}
use Rattle.pico_base.specs.declared.script.Script.{Script}
use Rattle.pico_base.specs.Home.{home_of}
use Rattle.rpc_frame.specs.declared.asked.Asked.{Asked}
use Rattle.rpc_frame.specs.declared.deed.Parcel.{Parcel}
use Rattle.waiting_model.specs.Kernel.{living_at}
use Rattle.waiting_model.specs.Marks.{Alive}
use Rattle.node_model.specs.declared.held.Held.{Held}
use Rattle.node_model.specs.declared.held.Held.TheVariants.{Request, Ending}
use Rattle.node_model.specs.Cache.{Cache}
use Rattle.node_model.specs.Caller.{Caller, start_call}
use Rattle.node_model.specs.Directory.{Directory, held_for, is_parcel}
use Rattle.node_model.specs.Kinds.{for_kind}
use Rattle.world_model.specs.Calls.{is_for_others}
use Rattle.world_model.specs.Node.{Node, Stage, Living, Left, asked_here}
use Rattle.world_model.specs.Step.{Step, step_to}
use Rattle.world_model.specs.World.{World, node_count, world_after}
use Rattle.world_laws.specs.Places.{Beside, CallPlace, IsInHand, call_in}
use Rattle.world_laws.specs.Sights.{node_of, directory_of, is_born_in}
use Rattle.world_laws.specs.Names.{NameHolds, name_sight}
use Rattle.world_laws.specs.Callers.{CallHolds, CallSight, HasCall, call_sight, is_about, is_at_work, is_end_place, is_item_about}
use Rattle.world_laws.specs.Cancels.{CancelHolds, Nothing, cancel_sight, is_held_cancel_of, owing_of}
use Rattle.world_laws.specs.Families.{HoldsIn, NodeHolds}
use Rattle.world_laws.specs.Invariant.{Holds, HoldsOwing}
use Rattle.world_laws.specs.Wholes.{HasMarks, under_way_at}
use Rattle.world_laws.specs.Ranges.{KindHolds, has_lease, kind_sight}
use Rattle.world_laws.proofs.Changes.{Changes, filter-is-list-map, only-stayed, read-same, stayed}
use Rattle.world_laws.proofs.LeftAlone.{few-still, kind-left-alone, name-left-alone, same-directory}
use Rattle.world_laws.proofs.Stays.{IsMore, SameCall, call-stays, kind-stays, name-stays}
use Rattle.world_laws.proofs.Steps.{changes-by-run}
use Rattle.world_laws.proofs.Wholes.{LeavesWhole, marks-of-others, whole-left-alone}
use Rattle.rule_laws.proofs.CallMoves.{IsCallMove, call-move-keeps, cancel-if-same, move-born, ranges-still, same-but-call, steps-still}
use Rattle.rule_laws.proofs.own.Moved.{IsMoved}
use Rattle.rule_laws.proofs.own.Runs.{Starts}
use Rattle.rule_laws.proofs.own.Starting.{cancel-started, marks-started}
use Rattle.route_laws.proofs.Owed.{HoldsAt}
use Rattle.route_laws.proofs.hand.HandMoves.{IsCallOf, about-caller, no-held-cancel}

request-no-parcel : (asked : Asked) (parcel : Parcel) → Request asked ≡ Ending parcel → ⊥
request-no-parcel asked parcel e = false≢true (ap is_parcel e)

-- ---- once a call has started

-- where the step owes no strike, all holds
pub calm-keeps : (script : Script) (w : World) (p : ℕ) (next : Step) (after : Beside)
    → HoldsAt script w p next [] after → next.strikes ≡ false → Holds script (world_after w p next) [] after
calm-keeps script w p next after holds calm =
    subst (λ k. HoldsOwing script (world_after w p next) [] (owing_of p k) after) calm holds

-- it is somewhere then
pub somewhere : (before after : ℕ → CallPlace) (p : ℕ) {P : CallPlace → Type 0} → IsMoved before after p P
    → IsMoved before after p (λ place. Unit {0})
somewhere before after p m = record { place = m.place; calls = m.calls; fits = tt }

-- ---- it starts

-- the cache's owners are born, and other nodes
abbrev pub HasOwners : World → ℕ → Cache → Type 0
HasOwners w p cache =
    (name : Name) (owner : ℕ) → Contains cache (name, owner) → (is_born_in w owner ≡ true) × (owner ≢ p)

module _ (script : Script) (w : World) (b : Beside) (holds : Holds script w [] b) (p : ℕ) (low : 1 ≤ p)
    (high : p ≤ node_count script) (s : Starts script w b p) (cache : Cache) (owners : HasOwners w p cache)
    (others : is_for_others (home_of (node_of w p).pid s.call) ≡ true) where
  abbrev n : Node
  n = node_of w p

  abbrev x : CallSight
  x = call_sight w [] b p

  -- the call as it is asked for
  abbrev pub started_asked : Asked
  started_asked = record { caller = p; ticket = n.caller.ticket + 1; pid = n.pid; call = s.call }

  abbrev started : Caller
  started = start_call n.caller s.call

  -- the node that has started it
  abbrev pub started_node : Node
  started_node = record n { caller = started; cache = cache }

  abbrev next : World
  next = world_after w p (step_to started_node)

  abbrev hand : List Held
  hand = Request started_asked ∷ []

  abbrev calls-now : ℕ → CallPlace
  calls-now = call_in b.call p IsInHand

  -- it is a call of the node
  pub started-asks : IsCallOf script started_asked
  started-asks = record { low = low; high = high; is_call = s.due_now.not_withdrawal }

  -- what stands beside the world then
  abbrev pub started_beside : Beside
  started_beside = record b { call = calls-now }

  changes : Changes script p w next started_node [] [] []
  changes = changes-by-run script w holds.shape p (step_to started_node) low high tt

  -- it is the node now
  pub started-here : node_of next p ≡ started_node
  started-here = changes.here

  same-there : directory_of next ≡ directory_of w
  same-there = read-same script p w next started_node [] [] [] changes (λ (m : Node). m.leader.directory) refl 1

  node-was : NodeHolds script b.pids (is_born_in w) p n
  node-was = holds.nodes p low high

  -- others are asked by these words
  pub started-asked-here : asked_here started_node s.call ≡ started_asked
  started-asked-here = λ i. record {
    caller = node-was.number i;
    ticket = n.caller.ticket + 1;
    pid = n.pid;
    call = s.call;
  }

  node-now : NodeHolds script b.pids (is_born_in w) p started_node
  node-now =
      record {
        number = node-was.number;
        holds = subst (λ (stage : Stage). HoldsIn p started_node stage) (sym s.stage)
            (record { row = s.row; here = s.has_row });
        birth = node-was.birth;
        first = node-was.first;
        others = node-was.others;
        rows = node-was.rows;
        owners = owners;
      }

  left-alone : (to sender : ℕ) → filter (is_about p to sender) (changes.left to sender) ≡ []
  left-alone to sender =
      stayed script p w next started_node [] [] [] changes (λ t q fs. filter (is_about p t q) fs)
      (λ t q. filter-is-list-map (is_about p t q)) tt to sender
      ∙ s.nowhere.in_streams to sender

  own-marks : (a : Alive) → living_at b.whole (b.pids p) ≡ Some a → HasMarks (calls-now p) (under_way_at next p) a
  own-marks a lives =
      subst (λ o. HasMarks (calls-now p) o a) (sym (ap (λ (m : Node). m.caller.under_way) changes.here))
      (subst (λ c. HasMarks c (Some s.call) a) (sym (ap (λ t. if t then IsInHand else b.call p) (eq-eqb p p refl)))
      (marks-started script w b holds p low high s IsInHand a refl lives))

  leaves-whole : LeavesWhole w next b started_beside
  leaves-whole =
      record {
        journal_is = changes.journal ∙ append-nil w.journal;
        lines_are = refl;
        kernel_is = refl;
        whole_is = refl;
        pids_are = λ y. refl;
        bodies_are = λ name. refl;
        marks_still = λ y a lives. marks-of-others w next b.call calls-now p
            (λ y d. ap (λ t. if t then IsInHand else b.call y) (ne_eqb p y (λ e. d (sym e))))
            (λ y d. ap (λ (m : Node). m.caller.under_way) (changes.others y d)) y a
            (λ e marks. own-marks a (subst (λ z. living_at b.whole (b.pids z) ≡ Some a) e lives));
      }

  move : IsCallMove script w next [] hand Nothing Nothing b started_beside p started_node [] [] p
  move =
      record {
        stage = refl;
        under_way = λ left. absurd (left-not (sym s.stage ∙ left));
        own = λ d. absurd (d refl);
        queue_keys = refl;
        set_keys = refl;
        directory = same-but-call p (directory_of w) (directory_of next) same-there holds.leading;
        node = node-now;
        deeds = λ q. refl;
        calls = λ y d. ap (λ t. if t then IsInHand else b.call y) (ne_eqb p y (λ e. d (sym e)));
        hand_of_others = λ y d. ap (λ t. cond t (Request started_asked ∷ []) []) (ne_eqb p y (λ e. d (sym e)));
        parcels_at_hand = λ parcel at. elim (Contains-push_cases [] (Request started_asked) (Ending parcel) at) [
          | inl none ↦ none
          | inr new ↦ absurd (request-no-parcel started_asked parcel new)
        ];
        whole = whole-left-alone w next b started_beside Nothing leaves-whole;
        waiters_of_others = λ y d name. refl;
        cancel_of_others = λ y d. refl;
        owed_of_others = λ y d same h. cancel-if-same y Nothing _ _ refl same h;
        plain_taken = tt;
        plain_sent = tt;
        no_birth_taken = tt;
        no_birth_sent = tt;
        of_no_other = λ y d. tt;
        sent_of_no_other = λ y d. tt;
        no_cancel_taken = λ y d. tt;
        no_cancel_sent = λ y d. tt;
        may_be_sent = tt;
        to_others = tt;
      }
    where
      left-not : Living ≡ Left → ⊥
      left-not h = cc

  more : IsMore (is_born_in w) (is_born_in next)
  more =
      move-born script w next [] hand Nothing Nothing b started_beside p started_node [] [] [] p low high holds changes
      move

  -- ---- the call

  abbrev in-hand : CallSight
  in-hand =
      record x {
        caller = started;
        call = IsInHand;
        frames_about = λ to sender. [];
        held = λ name. [];
        hand = Request (asked_here started_node s.call) ∷ [];
        waiters = λ name. [];
      }

  has-call : HasCall script p (is_born_in w) in-hand s.call
  has-call =
      record {
        just_there = record {
          in_streams = λ to sender. refl;
          held_for_names = λ name. refl;
          in_hand = refl;
          waiting = λ name. refl;
        };
        home = others;
        used_up = tt;
        between = tt;
        so_far = record {
          there = s.free.there;
          due = s.due_now.due;
          alive = s.alive;
          lives = s.lives;
          may = s.due_now.may;
        };
        at_work = ap is_at_work s.stage;
        started = omega arith;
        tickets = let few = s.free.tickets in omega (arith, few);
        try_left = s.free.try_left;
      }

  call-in-hand : CallHolds script p (is_born_in w) in-hand
  call-in-hand =
      let old : CallHolds script p (is_born_in w) x = holds.calls p low high
      in record {
        call = has-call;
        ends = sym (ap is_end_place s.idle) ∙ old.ends;
      }

  sight-now : SameCall in-hand (call_sight next hand started_beside p)
  sight-now =
      record {
        number = sym (ap (λ (m : Node). m.number) changes.here);
        pid = sym (ap (λ (m : Node). m.pid) changes.here);
        stage = sym (ap (λ (m : Node). m.stage) changes.here);
        caller = sym (ap (λ (m : Node). m.caller) changes.here);
        leases = sym (ap (λ (m : Node). m.leases) changes.here);
        place = refl;
        alive = refl;
        call = sym (ap (λ t. if t then IsInHand else b.call p) (eq-eqb p p refl));
        frames_about = λ to sender. sym (only-stayed script p w next started_node [] [] [] changes
            (λ t q fs. filter (is_about p t q) fs) (λ t q. filter-is-list-map (is_about p t q)) tt to sender
            ∙ left-alone to sender);
        held = λ m. sym (ap (λ (d : Directory). filter (is_item_about p) (held_for d m)) same-there
            ∙ s.nowhere.held_for_names m);
        hand = ap (λ a. Request a ∷ []) started-asked-here
            ∙ sym (ap (λ t. cond t (Request started_asked ∷ []) [])
            (about-caller started_asked s.due_now.not_withdrawal));
        waiters = λ m. sym (s.nowhere.waiting m);
      }

  call-now : CallHolds script p (is_born_in next) (call_sight next hand started_beside p)
  call-now = call-stays script p (is_born_in w) (is_born_in next) _ _ more sight-now call-in-hand

  cancel-now : CancelHolds p Nothing (cancel_sight next hand started_beside p)
  cancel-now =
      cancel-started script w b holds p low high s next hand started_node [] [] [] changes started_beside refl refl refl
      refl refl refl
      (λ m. ap (λ (d : Directory). filter (is_held_cancel_of p) (held_for d m)) same-there)
      (ap (λ t. cond t (Request started_asked ∷ []) [])
      (no-held-cancel started_asked p s.due_now.not_withdrawal)) tt tt (is_born_in next) call-now

  -- ---- the whole

  names-now : (m : Name) → NameHolds script b.pids (is_born_in next) m (name_sight script next hand started_beside m)
  names-now m =
      name-stays script b.pids (is_born_in w) (is_born_in next) m _ _ more
      (name-left-alone script p w next started_node [] [] [] changes [] hand b started_beside m
      (record {
        directory = same-directory (directory_of w) (directory_of next) same-there m;
        used_is = refl;
        part_is = refl;
        body_is = refl;
        deed_is = refl;
        held_is = refl;
        begins_is = λ holds_it comes. refl;
        hand_is = refl;
        steps_are = λ used y. steps-still script w next [] hand Nothing Nothing b started_beside p started_node [] [] []
            p low high holds changes move used y (left-alone y 1) m;
        ranges_are = λ used y. ranges-still script w next [] hand Nothing Nothing b started_beside p started_node [] []
            [] p low high holds changes move used y (left-alone y 1) m;
      }) tt tt) (holds.names m)

  numbers-now : (kind : Kind) → KindHolds (is_born_in next) (kind_sight next b.kernel kind)
  numbers-now kind =
      kind-stays (is_born_in w) (is_born_in next) _ _ more
      (kind-left-alone script p w next started_node [] [] [] changes b.kernel b.kernel kind (λ number. refl) refl
      (ap (λ (d : Directory). for_kind d.ranges kind) same-there) tt tt) (holds.kinds kind)

  lease-same : (kind : Kind) (y : ℕ) → has_lease kind (calls-now y) ≡ has_lease kind (b.call y)
  lease-same kind y =
      elim (cases_eq p y) [
        | inl e ↦
            ap (λ t. has_lease kind (if t then IsInHand else b.call y)) (eq-eqb p y e)
            ∙ sym (subst (λ z. has_lease kind (b.call z) ≡ false) e (ap (has_lease kind) s.idle))
        | inr d ↦ ap (λ t. has_lease kind (if t then IsInHand else b.call y)) (ne_eqb p y d)
      ]

  -- All holds with the call in hand.
  pub start-in-hand : Holds script next hand started_beside
  start-in-hand =
      call-move-keeps script w next [] hand Nothing Nothing b started_beside p started_node [] [] [] p low high holds
      changes move call-now cancel-now names-now numbers-now
      (λ kind. few-still script p w next started_node [] [] [] changes b.call calls-now kind refl
      (ap (λ (d : Directory). for_kind d.ranges kind) same-there) (lease-same kind) (holds.few kind))
