-- The first parcel in the leader's hand goes on to the node where its parent's deed is, and all holds as before.
use Rattle.std.proofs.Common.{◌≡◌, ◌≢◌, ℕ, ◌≤◌, Bool, true, false, if◌then◌else◌, List, [], ◌∷◌, filter, Some, Contains, refl, ap, sym, subst, ◌∙◌, inl, inr, arith, append-nil, is_none, not, ◌&&◌}
use Rattle.std.proofs.lemmas.Bool.{cases_eq, false≢true}
use Rattle.std.proofs.lemmas.List.Elements.{Contains-append_left, Contains-push}
use Rattle.pico_base.specs.declared.numbers.Kind.{Kind}
use Rattle.pico_base.specs.declared.numbers.Name.{Name}
use Rattle.pico_base.specs.declared.numbers.Name.TheVariants.{Proc}
use Rattle.pico_base.specs.declared.script.Script.{Script}
use Rattle.rpc_frame.specs.declared.deed.Parcel.{Parcel}
use Rattle.rpc_frame.specs.declared.frame.Frame.{Frame}
use Rattle.rpc_frame.specs.declared.frame.Frame.TheVariants as frames
use Rattle.number_maps.specs.Maps.{get}
use Rattle.kernel_model.specs.Kernel.{Process}
use Rattle.kernel_model.specs.Kernel as kernel
use Rattle.waiting_model.specs.Calls.{may_park, waits_at}
use Rattle.node_model.specs.declared.held.Held.{Held}
use Rattle.node_model.specs.declared.held.Held.TheVariants.{Ending}
use Rattle.node_model.specs.Kinds.{for_kind, is_object}
use Rattle.node_model.specs.Directory.{Directory, At, place_of, has_deed_of, held_for, is_known}
use Rattle.node_model.specs.Caller.{Caller}
use Rattle.world_model.specs.Node.{Node}
use Rattle.world_model.specs.Step.{with_directory}
use Rattle.world_model.specs.World.{World, node_count, is_checkpoint}
use Rattle.world_laws.specs.Places.{InHand, InExitTo, InCheckpoint, CallPlace, IsHeld, IsInHand, Beside}
use Rattle.world_laws.specs.Sights.{node_of, directory_of, stage_of, is_born_in, frames_to}
use Rattle.world_laws.specs.Names.{forker}
use Rattle.world_laws.specs.Callers.{CallHolds, call_sight, is_about, is_item_about}
use Rattle.world_laws.specs.Ways.{way_sight, knows_parent, is_leaving_frame, is_recall_all, is_left_frame, IsParcelIn, left as left_in, sent as sent_in, kept as kept_in, at_hand, under_way_of, HasSender}
use Rattle.world_laws.specs.Ranges.{KeysHold, has_lease}
use Rattle.world_laws.specs.Families.{NodeHolds, FamilyHolds, IsWhereFor, checkpoints_to}
use Rattle.world_laws.specs.Invariant.{IsLeading, process_deed, HoldsOwing}
use Rattle.world_laws.proofs.Changes.{Changes, filter-is-list-map, made-same, still-born, read-same}
use Rattle.world_laws.proofs.LeftAlone.{was-there, sender-stays, kind-left-alone, other-node-stays, frames-still-fit, few-still}
use Rattle.world_laws.proofs.Stays.{IsMore, SameCall, SameWay, node-born, call-stays, way-stays, kind-stays}
use Rattle.world_laws.specs.Cancels.{CancelIf, Owing, cancel_sight, is_cancel_of, is_held_cancel_of, is_held_of_call, is_of_call}
use Rattle.world_laws.specs.Wholes.{HasMarks, WholeIf, under_way_at}
use Rattle.world_laws.proofs.Cancels.{SameCancel}
use Rattle.world_laws.proofs.Wholes.{whole-left-alone}
use Rattle.rule_laws.proofs.Nodes.{node-with-directory}
use Rattle.rule_laws.proofs.CallMoves.{cancel-if-same}
use Rattle.route_laws.proofs.exits.Arrivals.{is_one_of, Arrives, arrived-known, held-kept, still-there}
use Rattle.route_laws.proofs.exits.Released.{call_released, deed_released, released_call, call-comes}
use Rattle.route_laws.proofs.exits.Parcels.{HasParcel, hand-sender, parcel-in-hand, no-object-in}
use Rattle.route_laws.proofs.exits.Hands.{names, hand_then, parcel-apart, parcel-was, place-still}
use Rattle.route_laws.proofs.exits.SentOn.{sent_beside, sent-names}
use Rattle.route_laws.proofs.exits.DeedMoves.{MovesDeeds, family-moved, where-released, comes-released, together-by, comes-by}
use Rattle.route_laws.proofs.exits.Cancelled.{cancel-comes-home, marks-released, released_cancel}
use Rattle.route_laws.proofs.exits.Hands.{kept-in-hand}

-- a call that comes into the hand brings no lease
pub no-lease-released : (which : List Name) (kind : Kind) (c : CallPlace)
    → has_lease kind (call_released which c) ≡ has_lease kind c
no-lease-released which kind (IsHeld m) = by-test (is_one_of m which)
  where
    by-test : (t : Bool) → has_lease kind (if t then IsInHand else IsHeld m) ≡ false
    by-test true = refl
    by-test false = refl
no-lease-released which kind c = refl

where-sent : (k c x : ℕ) (v : Process) → IsWhereFor k (InHand c) v → IsWhereFor k (InExitTo c x) v
where-sent k c x (kernel.Living alive) h = h
where-sent k c x (kernel.Ended ending) h = h
where-sent k c x kernel.Gone h = h

module _ (script : Script) (w : World) (items : List Held) (parcel : Parcel) {owes : Owing} (b : Beside)
    (holds : HoldsOwing script w (Ending parcel ∷ items) owes b) (x : ℕ)
    (place : place_of (directory_of w) (Proc parcel.parent) ≡ Some (At x)) (low : 2 ≤ x) (d2 : Directory)
    (arrives : Arrives (directory_of w) d2 (names script w items parcel b holds) x) (w' : World)
    (changes : Changes script 1 w w' (with_directory (node_of w 1) d2) [] ((x, frames.ExitTo parcel) ∷ []) []) where
  abbrev before : List Held
  before = Ending parcel ∷ items

  abbrev of : List Name
  of = names script w items parcel b holds

  abbrev dir : Directory
  dir = directory_of w

  abbrev sends : List (ℕ × Frame)
  sends = (x, frames.ExitTo parcel) ∷ []

  abbrev after : Node
  after = with_directory (node_of w 1) d2

  abbrev sender : HasSender script b.pids (stage_of w) (under_way_of w) parcel
  sender = hand-sender script w items parcel b holds

  abbrev c : ℕ
  c = sender.node

  parcel_is : HasParcel script w b parcel c sender.call (InHand c)
  parcel_is = parcel-in-hand script w items parcel b holds

  abbrev hand_now : List Held
  hand_now = hand_then script w items parcel b holds

  abbrev now : Beside
  now = sent_beside script w items parcel b holds x place low d2 arrives w' changes

  away : x ≢ 1
  away e = omega (arith, e, low)

  directory-now : directory_of w' ≡ d2
  directory-now = ap (λ (m : Node). m.leader.directory) changes.here

  more : IsMore (is_born_in w) (is_born_in w')
  more = still-born script 1 w w' after [] sends [] changes (λ g. g)

  stage-same : (q : ℕ) → stage_of w' q ≡ stage_of w q
  stage-same q = read-same script 1 w w' after [] sends [] changes (λ (m : Node). m.stage) refl q

  -- ---- the families

  moves : MovesDeeds (process_deed b.deed) (process_deed now.deed)
  moves =
      record {
        where_they_are = λ pid k v h. where-by pid (has_deed_of (Proc pid) parcel) refl k v h;
        together = λ p q e. together-by script w b parcel c sender.call (InHand c) parcel_is (InExitTo c x)
            (deed_released script b.pids of) (Proc p) (Proc q) e;
        comes = λ pid. comes-by script w b parcel c sender.call (InHand c) parcel_is (InExitTo c x)
            (deed_released script b.pids of) (λ to e. not-awaited to e) (comes-released script b.pids of) (Proc pid);
      }
    where
      not-awaited : (to : ℕ) → InExitTo c x ≡ InCheckpoint to → ⊥
      not-awaited to e = cc

      where-by : (pid : ℕ) (t : Bool) → has_deed_of (Proc pid) parcel ≡ t → (k : ℕ) (v : Process)
          → IsWhereFor k (b.deed (Proc pid)) v
          → IsWhereFor k (if t then InExitTo c x else deed_released script b.pids of (b.deed (Proc pid))) v
      where-by pid true e k v h =
          where-sent k c x v (subst (λ d. IsWhereFor k d v) (parcel_is.deeds (Proc pid) e) h)
      where-by pid false e k v h = where-released script b.pids of k v (b.deed (Proc pid)) h

  families-now : (k : ℕ) → b.pids k ≢ 0
      → FamilyHolds script b.pids b.places b.kernel (process_deed now.deed) (checkpoints_to script w' k)
      (stage_of w' k) k
  families-now k forked =
      subst (λ s. FamilyHolds script b.pids b.places b.kernel (process_deed now.deed) (checkpoints_to script w' k) s k)
      (sym (stage-same k))
      (subst (λ fs. FamilyHolds script b.pids b.places b.kernel (process_deed now.deed) fs (stage_of w k) k)
      (sym (made-same script 1 w w' after [] sends [] changes (λ t s fs. filter is_checkpoint fs)
      (λ t s. filter-is-list-map is_checkpoint) tt (refl, tt) k (forker script k)))
      (family-moved script b.pids b.places b.kernel (process_deed b.deed) (process_deed now.deed)
      (checkpoints_to script w k) (stage_of w k) k moves (holds.families k forked)))

  -- ---- the calls

  call-now : (p : ℕ)
      → SameCall (released_call of (call_sight w before b p)) (call_sight w' hand_now now p)
  call-now p =
      record {
        number = sym (same (λ (m : Node). m.number) refl);
        pid = sym (same (λ (m : Node). m.pid) refl);
        stage = sym (same (λ (m : Node). m.stage) refl);
        caller = sym (same (λ (m : Node). m.caller) refl);
        leases = sym (same (λ (m : Node). m.leases) refl);
        place = refl;
        alive = refl;
        call = refl;
        frames_about = λ to s. sym (made-same script 1 w w' after [] sends [] changes
            (λ t s fs. filter (is_about p t s) fs) (λ t s. filter-is-list-map (is_about p t s)) tt (refl, tt) to s);
        held = λ name. sym (ap (λ z. filter (is_item_about p) (held_for z name)) directory-now
            ∙ held-kept dir d2 of x arrives (is_item_about p) name);
        hand = sym (kept-in-hand script w items parcel b holds (is_item_about p) refl);
        waiters = λ name. refl;
      }
    where
      same : {A : Type 0} (f : Node → A) → f after ≡ f (node_of w 1) → f (node_of w' p) ≡ f (node_of w p)
      same f e = read-same script 1 w w' after [] sends [] changes f e p

  calls-now : (p : ℕ) → 1 ≤ p → p ≤ node_count script
      → CallHolds script p (is_born_in w') (call_sight w' hand_now now p)
  calls-now p low_p high_p =
      call-stays script p (is_born_in w) (is_born_in w') (released_call of (call_sight w before b p))
      (call_sight w' hand_now now p) more (call-now p)
      (call-comes of script p (is_born_in w) (call_sight w before b p) (parcel-apart script w items parcel b holds)
      (holds.calls p low_p high_p))

  -- ---- the withdrawals

  unknown-still : (name : Name) → is_object name ≡ true → is_known dir name ≡ false
      → is_known (directory_of w') name ≡ false
  unknown-still name object unknown =
      ap (λ z. is_known z name) directory-now
      ∙ ap (λ o. not (is_none o))
      (place-still script w items parcel b holds x d2 arrives name
      (no-object-in script w before b holds parcel c sender.call (InHand c) parcel_is name object))
      ∙ unknown

  cancel-now : (p : ℕ) → SameCancel (released_cancel of (cancel_sight w before b p)) (cancel_sight w' hand_now now p)
  cancel-now p =
      record {
        number = sym (same (λ (m : Node). m.number) refl);
        pid = sym (same (λ (m : Node). m.pid) refl);
        caller = sym same-caller;
        call = refl;
        cancel = refl;
        cancels = λ to s. sym (made-same script 1 w w' after [] sends [] changes
            (λ t s fs. filter (is_cancel_of p) fs) (λ t s. filter-is-list-map (is_cancel_of p)) tt (refl, tt) to s);
        held_cancels = λ name. sym (held-now (is_held_cancel_of p) name);
        hand_cancels = sym (kept-in-hand script w items parcel b holds (is_held_cancel_of p) refl);
        of_call = λ to s. sym (ap (λ k. filter (is_of_call p k to s) (frames_to w' to s)) same-ticket
            ∙ made-same script 1 w w' after [] sends [] changes
            (λ t s fs. filter (is_of_call p ticket t s) fs) (λ t s. filter-is-list-map (is_of_call p ticket t s)) tt
            (refl, tt) to s);
        held_of_call = λ name. sym (ap (λ k. filter (is_held_of_call p k) (held_for (directory_of w') name)) same-ticket
            ∙ held-now (is_held_of_call p ticket) name);
        hand_of_call = sym (ap (λ k. filter (is_held_of_call p k) hand_now) same-ticket
            ∙ kept-in-hand script w items parcel b holds (is_held_of_call p ticket) refl);
        nowhere = λ call is may l. record {
          node = l.node;
          is = l.is;
          leaves = ap (λ (z : Directory). is_none (get z.partings l.node)) directory-now
              ∙ ap (λ partings. is_none (get partings l.node)) arrives.partings_are ∙ l.leaves;
          unknown = unknown-still (waits_at (node_of w p).pid call)
              (second-of-both (may_park call) (is_object (waits_at (node_of w p).pid call)) may) l.unknown;
        };
      }
    where
      same : {A : Type 0} (f : Node → A) → f after ≡ f (node_of w 1) → f (node_of w' p) ≡ f (node_of w p)
      same f e = read-same script 1 w w' after [] sends [] changes f e p

      same-caller : (node_of w' p).caller ≡ (node_of w p).caller
      same-caller = same (λ (m : Node). m.caller) refl

      ticket : ℕ
      ticket = (node_of w p).caller.ticket

      same-ticket : (node_of w' p).caller.ticket ≡ (node_of w p).caller.ticket
      same-ticket = ap (λ (z : Caller). z.ticket) same-caller

      held-now : (test : Held → Bool) (name : Name)
          → filter test (held_for (directory_of w') name)
          ≡ (if is_one_of name of then [] else filter test (held_for dir name))
      held-now test name =
          ap (λ z. filter test (held_for z name)) directory-now ∙ held-kept dir d2 of x arrives test name

      second-of-both : (s t : Bool) → (s && t) ≡ true → t ≡ true
      second-of-both true t e = e
      second-of-both false t e = absurd (false≢true e)

  cancels-now : (p : ℕ) → 1 ≤ p → p ≤ node_count script → CancelIf p owes (cancel_sight w' hand_now now p)
  cancels-now p low_p high_p =
      cancel-if-same p owes (released_cancel of (cancel_sight w before b p)) (cancel_sight w' hand_now now p) refl
      (cancel-now p)
      (cancel-comes-home of p owes (cancel_sight w before b p) (parcel-apart script w items parcel b holds)
      (holds.cancels p low_p high_p))

  whole-now : WholeIf owes w' now
  whole-now =
      whole-left-alone w w' b now owes
      (record {
        journal_is = changes.journal ∙ append-nil w.journal;
        lines_are = refl;
        kernel_is = refl;
        whole_is = refl;
        pids_are = λ p. refl;
        bodies_are = λ name. refl;
        marks_still = λ p a lives h. subst (λ o. HasMarks (now.call p) o a)
            (sym (read-same script 1 w w' after [] sends [] changes (λ (m : Node). m.caller.under_way) refl p))
            (marks-released of (b.call p) (under_way_at w p) a h);
      }) holds.whole

  -- ---- all else

  way-same : (q : ℕ) → SameWay (way_sight w q) (way_sight w' q)
  way-same q =
      record {
        stage = sym (stage-same q);
        parting = sym (ap (λ (z : Directory). get z.partings q) directory-now
            ∙ ap (λ partings. get partings q) arrives.partings_are);
        leavings = sym (made-same script 1 w w' after [] sends [] changes (λ t s fs. filter is_leaving_frame fs)
            (λ t s. filter-is-list-map is_leaving_frame) tt (refl, tt) 1 q);
        recalls = sym (made-same script 1 w w' after [] sends [] changes (λ t s fs. filter is_recall_all fs)
            (λ t s. filter-is-list-map is_recall_all) tt (refl, tt) q 1);
        lefts = sym (made-same script 1 w w' after [] sends [] changes (λ t s fs. filter is_left_frame fs)
            (λ t s. filter-is-list-map is_left_frame) tt (refl, tt) 1 q);
      }

  parcel-before : (q : Parcel) → IsParcelIn w' hand_now q → IsParcelIn w before q
  parcel-before q (left_in y there) =
      elim (was-there script 1 w w' after [] sends [] changes (λ t f. f ≡ frames.ExitTo parcel) (refl, tt) 1 y
      (frames.Left q) there) [
        | inl old ↦ left_in y old
        | inr new ↦ absurd (no-left new.1)
      ]
    where
      no-left : frames.Left q ≡ frames.ExitTo parcel → ⊥
      no-left e = cc
  parcel-before q (sent_in y there) =
      elim (was-there script 1 w w' after [] sends [] changes (λ t f. f ≡ frames.ExitTo parcel) (refl, tt) y 1
      (frames.ExitTo q) there) [
        | inl old ↦ sent_in y old
        | inr new ↦
            at_hand
            (subst (λ p. Contains before (Ending p)) (same-parcel new.1)
            (Contains-append_left (Ending parcel ∷ []) items (Ending parcel) (Contains-push [] (Ending parcel))))
      ]
    where
      same-parcel : frames.ExitTo q ≡ frames.ExitTo parcel → parcel ≡ q
      same-parcel e = cc
  parcel-before q (kept_in pid there) =
      kept_in pid
      (still-there dir d2 of x arrives (Proc pid) (Ending q)
      (subst (λ z. Contains (held_for z (Proc pid)) (Ending q)) directory-now there))
  parcel-before q (at_hand there) = parcel-was script w items parcel b holds q there

  nodes-now : (q : ℕ) → 1 ≤ q → q ≤ node_count script → NodeHolds script b.pids (is_born_in w') q (node_of w' q)
  nodes-now q low_q high_q =
      elim (cases_eq q 1) [
        | inr u ↦
            other-node-stays script 1 w w' after [] sends [] changes b.pids (is_born_in w) (is_born_in w') q u more
            (holds.nodes q low_q high_q)
        | inl e ↦
            subst (λ y. NodeHolds script b.pids (is_born_in w') y (node_of w' y)) (sym e)
            (subst (λ (m : Node). NodeHolds script b.pids (is_born_in w') 1 m) (sym changes.here)
            (node-born script b.pids (is_born_in w) (is_born_in w') 1 after more
            (node-with-directory script b.pids (is_born_in w) 1 (node_of w 1) d2 refl
            (holds.nodes 1 (subst (λ y. 1 ≤ y) e low_q) (subst (λ y. y ≤ node_count script) e high_q)))))
      ]

  keys-now : KeysHold (node_of w' 1).leader b.kernel
  keys-now =
      let keys : KeysHold (node_of w 1).leader b.kernel = holds.keys
      in record {
        queues = λ key. ap (λ (m : Node). get m.leader.queue_keys key) changes.here ∙ keys.queues key;
        sets = λ key. ap (λ (m : Node). get m.leader.set_keys key) changes.here ∙ keys.sets key;
      }

  ranges-same : (kind : Kind) → for_kind (directory_of w').ranges kind ≡ for_kind dir.ranges kind
  ranges-same kind =
      ap (λ (z : Directory). for_kind z.ranges kind) directory-now ∙ ap (λ r. for_kind r kind) arrives.ranges_are

  -- It goes on, and what was held for its names is in hand.
  pub parcel-sent-on : HoldsOwing script w' hand_now owes now
  parcel-sent-on =
      record {
        shape = changes.shape;
        history = holds.history;
        whole = whole-now;
        leading = subst (λ (z : Directory). IsLeading z) (sym directory-now) arrives.leads;
        pids = holds.pids;
        nodes = nodes-now;
        frames_fit = frames-still-fit script 1 w w' after [] sends [] changes more holds.frames_fit (refl, tt)
            (away, tt);
        names = sent-names script w items parcel b holds x place low d2 arrives w' changes;
        calls = calls-now;
        cancels = cancels-now;
        ways = λ q low_q high_q. way-stays script b.pids q (knows_parent script w b.pids q)
            (knows_parent script w' b.pids q) (way_sight w q) (way_sight w' q)
            (λ e. ap (λ z. is_known z (Proc (b.pids (forker script q)))) directory-now
            ∙ arrived-known dir d2 of x arrives (Proc (b.pids (forker script q))) e)
            (way-same q) (holds.ways q low_q high_q);
        parcels = λ q there. sender-stays script 1 w w' after [] sends [] changes b.pids q (λ left. (left, refl))
            (holds.parcels q (parcel-before q there));
        kinds = λ kind. kind-stays (is_born_in w) (is_born_in w') _ _ more
            (kind-left-alone script 1 w w' after [] sends [] changes b.kernel b.kernel kind
            (λ number. refl) refl (ranges-same kind) tt (refl, tt)) (holds.kinds kind);
        few = λ kind. few-still script 1 w w' after [] sends [] changes b.call now.call kind refl
            (ranges-same kind) (λ y. no-lease-released of kind (b.call y)) (holds.few kind);
        keys = keys-now;
        families = families-now;
      }
