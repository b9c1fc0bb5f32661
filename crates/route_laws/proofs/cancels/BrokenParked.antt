-- A call that waits for a child, parked at its own node, is broken off by a signal: it is over, and the kernel stays.
use Rattle.std.proofs.Common.{◌≡◌, ◌≢◌, ℕ, ◌≤◌, true, false, if◌then◌else◌, List, [], ◌∷◌, ◌++◌, filter, Option, Some, refl, ap, sym, subst, ◌∙◌, inl, inr, arith}
use Rattle.std.proofs.lemmas.Bool.{cases_eq, eq-eqb, false≢true, ne_eqb}
use Rattle.pico_base.specs.declared.call.Call.{Call}
use Rattle.pico_base.specs.declared.call.Call.TheVariants as calls
use Rattle.pico_base.specs.declared.numbers.Kind.{Kind}
use Rattle.pico_base.specs.declared.numbers.Name.{Name}
use Rattle.pico_base.specs.declared.reply.Entry.{Entry}
use Rattle.pico_base.specs.declared.reply.Errno.TheVariants.{Eintr}
use Rattle.pico_base.specs.declared.reply.Reply.{Reply}
use Rattle.pico_base.specs.declared.reply.Reply.TheVariants as replies
use Rattle.pico_base.specs.declared.script.Script.{Script}
use Rattle.kernel_model.specs.Fitting.{Place, Places, place_after, places_after}
use Rattle.kernel_model.specs.Kernel.{Kernel}
use Rattle.waiting_model.specs.Linear.{line_of}
use Rattle.entry_laws.specs.Entering.{HasHistory, MayMake}
use Rattle.entry_laws.proofs.History.{history-goes-on, may-make-from}
use Rattle.node_model.specs.declared.held.Held.{Held}
use Rattle.node_model.specs.declared.held.Held.TheVariants.{Request}
use Rattle.node_model.specs.Caller.{Caller, answer_call, caller_place}
use Rattle.node_model.specs.Directory.{Directory, held_for}
use Rattle.node_model.specs.Kinds.{for_kind}
use Rattle.node_model.specs.Serving.{waiting_as}
use Rattle.world_model.specs.Node.{Leader, Left, Living, Node, Stage}
use Rattle.world_model.specs.World.{World, node_count}
use Rattle.world_laws.specs.Places.{Beside, CallPlace, Idle, Parked, call_in}
use Rattle.world_laws.specs.Sights.{directory_of, is_born_in, is_born_stage, node_of}
use Rattle.world_laws.specs.Callers.{CallHolds, CallSight, FreeIn, HasCall, HasCallOrNone, IsFree, IsNowhere, IsSoFar, IsToBeMade, asked_of, call_sight, frame_at, is_about, is_end_place, is_end_stage, is_held_at, is_in_hand, is_in_stream, is_item_about, is_waiting_at, only_if, tries_made}
use Rattle.world_laws.specs.Cancels.{Owing, Wakes}
use Rattle.world_laws.specs.Families.{BornIn, HoldsIn, IsBorn, NodeHolds}
use Rattle.world_laws.specs.Invariant.{HoldsOwing, IsShaped}
use Rattle.world_laws.specs.Names.{NameHolds, name_sight}
use Rattle.world_laws.specs.Ranges.{FewRanges, KeysHold, KindHolds, has_lease, kind_sight}
use Rattle.world_laws.specs.Wholes.{under_way_at}
use Rattle.world_laws.proofs.Changes.{Changes, filter-is-list-map, made-same, read-same, stayed}
use Rattle.world_laws.proofs.LeftAlone.{kind-left-alone, name-left-alone, same-directory}
use Rattle.world_laws.proofs.Lines.{IsAnswered, answered, due-at-line}
use Rattle.world_laws.proofs.Stays.{IsMore, SameCall, call-stays, kind-stays, name-stays}
use Rattle.rule_laws.proofs.CallMoves.{same-but-call}
use Rattle.rule_laws.proofs.own.EntryMoves.{IsEntryMove, entry-born, entry-keeps, few-after, ranges-still, steps-still}
use Rattle.route_laws.proofs.cancels.BrokenOff.{breaks-leaves, breaks-off, breaks-place}
use Rattle.route_laws.proofs.exits.Waited.{stage-living}

module _ (script : Script) (w : World) (hand : List Held) {owes : Owing} (b : Beside)
    (holds : HoldsOwing script w hand owes b) (p : ℕ) (low : 1 ≤ p) (high : p ≤ node_count script) (which : Option ℕ)
    (under_way : under_way_at w p ≡ Some (calls.WaitPid which false)) (parked : b.call p ≡ Parked) where
  abbrev n : Node
  n = node_of w p

  abbrev k : Kernel
  k = b.kernel

  abbrev pid : ℕ
  pid = b.pids p

  abbrev call : Call
  call = calls.WaitPid which false

  abbrev reply : Reply
  reply = replies.Fail Eintr

  abbrev place : Place
  place = caller_place script p n.caller

  abbrev x : CallSight
  x = call_sight w hand b p

  node-holds : NodeHolds script b.pids (is_born_in w) p n
  node-holds = holds.nodes p low high

  call-holds : CallHolds script p (is_born_in w) x
  call-holds = holds.calls p low high

  has : HasCall script p (is_born_in w) x call
  has = subst (λ o. HasCallOrNone script p (is_born_in w) x o) under_way call-holds.call

  pub parked-made : IsToBeMade script p (call_sight w hand b p) (calls.WaitPid which false)
  parked-made = subst (λ z. IsSoFar script p x call z) parked has.so_far

  stage-is : n.stage ≡ Living
  stage-is = stage-living n.stage has.at_work (sym call-holds.ends ∙ ap is_end_place parked)

  pub parked-birth : IsBorn script b.pids p (node_of w p).pid (node_of w p).parent (node_of w p).parent_node
  parked-birth = subst (λ stage. BornIn script b.pids p n.pid n.parent n.parent_node stage) stage-is node-holds.birth

  may : MayMake k pid call
  may =
      may-make-from script b.lines k b.places pid call parked-made.alive holds.history parked-made.lives parked-made.may

  -- ---- its line

  abbrev entry : Entry
  entry = line_of p pid call reply

  abbrev places-now : Places
  places-now = places_after script b.places entry place

  history-now : HasHistory script (b.lines ++ entry ∷ []) k places-now
  history-now =
      history-goes-on script b.lines k b.places p pid call reply place k holds.history parked-made.there parked-made.due
      (breaks-off k pid call Eintr may refl refl)

  -- ---- the node

  abbrev next-caller : Caller
  next-caller = answer_call script p n.caller call reply

  abbrev pub unparked_node : Node
  unparked_node = record (node_of w p) {
    caller = answer_call script p (node_of w p).caller (calls.WaitPid which false) (replies.Fail Eintr);
  }

  node-now : NodeHolds script b.pids (is_born_in w) p unparked_node
  node-now =
      record {
        number = node-holds.number;
        holds = subst (λ (stage : Stage). HoldsIn p unparked_node stage) (sym stage-is)
            (subst (λ (stage : Stage). HoldsIn p n stage) stage-is node-holds.holds);
        birth = node-holds.birth;
        first = node-holds.first;
        others = node-holds.others;
        rows = node-holds.rows;
        owners = node-holds.owners;
      }

  pub unparked-answered : IsAnswered script p (node_of w p).caller (calls.WaitPid which false) (replies.Fail Eintr)
      (answer_call script p (node_of w p).caller (calls.WaitPid which false) (replies.Fail Eintr))
  unparked-answered =
      let shape : IsShaped script w = holds.shape
      in let at = due-at-line script p n.caller call parked-made.due
      in answered script p shape.tries n.caller call reply at.0 at.1 has.try_left

  -- ---- beside the world

  abbrev calls-now : ℕ → CallPlace
  calls-now = call_in b.call p Idle

  abbrev pub unparked_beside : Beside
  unparked_beside = record b {
    lines = b.lines ++ line_of p (b.pids p) (calls.WaitPid which false) (replies.Fail Eintr) ∷ [];
    places = places_after script b.places
        (line_of p (b.pids p) (calls.WaitPid which false) (replies.Fail Eintr))
        (caller_place script p (node_of w p).caller);
    call = call_in b.call p Idle;
  }

  here-now : calls-now p ≡ Idle
  here-now = ap (λ t. if t then Idle else b.call p) (eq-eqb p p refl)

  elsewhere : (y : ℕ) → y ≢ p → calls-now y ≡ b.call y
  elsewhere y d = ap (λ t. if t then Idle else b.call y) (ne_eqb p y (λ e. d (sym e)))

  module _ (next : World) (changes : Changes script p w next unparked_node [] [] []) where
    same-there : directory_of next ≡ directory_of w
    same-there =
        read-same script p w next unparked_node [] [] [] changes (λ (m : Node). m.leader.directory) refl 1

    keys-now : KeysHold (node_of next 1).leader k
    keys-now =
        subst (λ (l : Leader). KeysHold l k)
        (sym (read-same script p w next unparked_node [] [] [] changes (λ (m : Node). m.leader) refl 1)) holds.keys

    move : IsEntryMove script w next hand hand owes Wakes b unparked_beside p unparked_node [] [] p
    move =
        record {
          entry = breaks-leaves k pid call Eintr may refl refl script b.places p p n.caller parked-made.there
              parked-made.due;
          history = history-now;
          keys = keys-now;
          forked = parked-birth.forked;
          born = has-born n.stage stage-is;
          awaited = λ q to e. refl;
          stage = refl;
          under_way = λ is_left. absurd (left-not (sym stage-is ∙ is_left));
          own = λ d. absurd (d refl);
          directory = same-but-call p (directory_of w) (directory_of next) same-there holds.leading;
          node = node-now;
          deeds = λ q. refl;
          calls = λ y d. elsewhere y d;
          hand_of_others = λ y d. refl;
          parcels_at_hand = λ parcel there. there;
          whole = λ h. tt;
          waiters_of_others = λ y d m. refl;
          cancel_of_others = λ y d. refl;
          owed_of_others = λ y d same h. tt;
          makers_stay = λ m node unused used. absurd (false≢true (sym unused ∙ used));
          plain_taken = tt;
          plain_sent = tt;
          no_birth_taken = tt;
          no_birth_sent = tt;
          of_no_other = λ y d. tt;
          sent_of_no_other = λ y d. tt;
          no_cancel_taken = λ y d. tt;
          no_cancel_sent = λ y d. tt;
          may_be_sent = tt;
          to_others = tt;
        }
      where
        left-not : Living ≡ Left → ⊥
        left-not h = cc

        has-born : (stage : Stage) → stage ≡ Living → is_born_stage stage ≡ true
        has-born stage e = ap is_born_stage e

    more : IsMore (is_born_in w) (is_born_in next)
    more =
        entry-born script w next hand hand owes Wakes b unparked_beside p unparked_node [] [] [] p low high holds
        changes
        move

    -- ---- the call is over

    abbrev over : CallSight
    over =
        record x {
          caller = next-caller;
          place = Some (place_after place call (Some reply));
          call = Idle;
        }

    nowhere : IsNowhere over
    nowhere =
        record {
          in_streams = λ to sender. has.just_there.in_streams to sender
              ∙ ap (λ z. only_if (is_in_stream z p to sender) (frame_at z (asked_of x call))) parked;
          held_for_names = λ m. has.just_there.held_for_names m
              ∙ ap (λ z. only_if (is_held_at z m) (Request (asked_of x call))) parked;
          in_hand = has.just_there.in_hand ∙ ap (λ z. only_if (is_in_hand z) (Request (asked_of x call))) parked;
          waiting = λ m. has.just_there.waiting m
              ∙ ap (λ z. only_if (is_waiting_at z m) (waiting_as (asked_of x call))) parked;
        }

    free-now : IsFree script p over
    free-now =
        record {
          there = ap Some (sym unparked-answered.place_is);
          alive = parked-made.alive;
          lives = parked-made.lives;
          tickets =
              let few = has.tickets
              in let many = unparked-answered.more_tries
              in subst (λ t. t ≤ tries_made script p next-caller) (sym unparked-answered.ticket_is)
              (omega (arith, few, many));
          try_left = unparked-answered.left;
        }

    call-over : CallHolds script p (is_born_in w) over
    call-over =
        record {
          call = subst (λ o. HasCallOrNone script p (is_born_in w) over o) (sym unparked-answered.free)
              (record {
                nowhere = nowhere;
                idle = refl;
                free = subst (λ stage. FreeIn script p over stage) (sym stage-is) free-now;
              });
          ends = ap is_end_stage (sym stage-is);
        }

    sight-now : SameCall over (call_sight next hand unparked_beside p)
    sight-now =
        record {
          number = sym (ap (λ (m : Node). m.number) changes.here);
          pid = sym (ap (λ (m : Node). m.pid) changes.here);
          stage = sym (ap (λ (m : Node). m.stage) changes.here);
          caller = sym (ap (λ (m : Node). m.caller) changes.here);
          leases = sym (ap (λ (m : Node). m.leases) changes.here);
          place = sym (breaks-place k pid call Eintr may refl refl script b.places p place);
          alive = refl;
          call = sym here-now;
          frames_about = λ to sender. sym (made-same script p w next unparked_node [] [] [] changes
              (λ t q fs. filter (is_about p t q) fs) (λ t q. filter-is-list-map (is_about p t q)) tt tt to sender);
          held = λ m. sym (ap (λ (d : Directory). filter (is_item_about p) (held_for d m)) same-there);
          hand = refl;
          waiters = λ m. refl;
        }

    call-now : CallHolds script p (is_born_in next) (call_sight next hand unparked_beside p)
    call-now = call-stays script p (is_born_in w) (is_born_in next) _ _ more sight-now call-over

    -- no frame was about it
    left-alone : (t q : ℕ) → filter (is_about p t q) (changes.left t q) ≡ []
    left-alone t q =
        stayed script p w next unparked_node [] [] [] changes (λ t q fs. filter (is_about p t q) fs)
        (λ t q. filter-is-list-map (is_about p t q)) tt t q
        ∙ nowhere.in_streams t q

    -- ---- the names

    names-now : (m : Name) → NameHolds script b.pids (is_born_in next) m (name_sight script next hand unparked_beside m)
    names-now m =
        name-stays script b.pids (is_born_in w) (is_born_in next) m _ _ more
        (name-left-alone script p w next unparked_node [] [] [] changes hand hand b unparked_beside m
        (record {
          directory = same-directory (directory_of w) (directory_of next) same-there m;
          used_is = refl;
          part_is = refl;
          body_is = refl;
          deed_is = refl;
          held_is = refl;
          begins_is = λ holds_it comes. refl;
          hand_is = refl;
          steps_are = λ used y. steps-still script w next hand hand owes Wakes b unparked_beside p unparked_node [] []
              []
              p low high holds changes move used y (left-alone y 1) m;
          ranges_are = λ used y. ranges-still script w next hand hand owes Wakes b unparked_beside p unparked_node [] []
              [] p low high holds changes move used y (left-alone y 1) m;
        }) tt tt) (holds.names m)

    -- ---- the numbers

    numbers-now : (kind : Kind) → KindHolds (is_born_in next) (kind_sight next k kind)
    numbers-now kind =
        kind-stays (is_born_in w) (is_born_in next) _ _ more
        (kind-left-alone script p w next unparked_node [] [] [] changes k k kind (λ number. refl) refl
        (ap (λ (d : Directory). for_kind d.ranges kind) same-there) tt tt) (holds.kinds kind)

    lease-same : (kind : Kind) (y : ℕ) → has_lease kind (calls-now y) ≡ has_lease kind (b.call y)
    lease-same kind y =
        elim (cases_eq y p) [
          | inl e ↦
              subst (λ z. has_lease kind (calls-now z) ≡ has_lease kind (b.call z)) (sym e)
              (ap (has_lease kind) here-now ∙ sym (ap (has_lease kind) parked))
          | inr d ↦ ap (has_lease kind) (elsewhere y d)
        ]

    few-now : (kind : Kind) → FewRanges script next calls-now kind
    few-now kind =
        few-after script w next hand hand owes Wakes b unparked_beside p unparked_node [] [] [] p low high holds changes
        move kind (ap (λ (d : Directory). for_kind d.ranges kind) same-there) (lease-same kind)

    -- It is over, and all holds then, but for the kernel in which callers wait, and for withdrawals.
    pub unparked-keeps : HoldsOwing script next hand Wakes unparked_beside
    unparked-keeps =
        entry-keeps script w next hand hand owes Wakes b unparked_beside p unparked_node [] [] [] p low high holds
        changes
        move call-now tt names-now numbers-now few-now
