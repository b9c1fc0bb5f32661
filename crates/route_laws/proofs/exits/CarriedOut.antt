-- An exit is carried out at a node: all holds again, once the parent, where the exit wakes it, has its reply.
use Rattle.std.proofs.Common.{Bool, List, None, Some, [], ap, false, if◌then◌else◌, map, refl, subst, sym, true, ℕ, ◌||◌, ◌∙◌, ◌∷◌, ◌≡◌, ◌≢◌, append_assoc, ◌++◌, filter, inl, inr, is_none}
use Rattle.std.proofs.lemmas.Bool.{false≢true, eq-eqb, ne_eqb, cases_eq}
use Rattle.pico_base.specs.declared.call.Call.{Call}
use Rattle.pico_base.specs.declared.call.Call.TheVariants.{WaitPid}
use Rattle.pico_base.specs.declared.reply.Entry.{Entry}
use Rattle.pico_base.specs.declared.numbers.Name.{Name}
use Rattle.pico_base.specs.declared.numbers.Name.TheVariants.{Proc}
use Rattle.pico_base.specs.declared.script.Script.{Script}
use Rattle.pico_base.specs.declared.reply.Reply.{Reply}
use Rattle.rpc_frame.specs.declared.frame.Frame.{Frame}
use Rattle.rpc_frame.specs.declared.deed.Parcel.{Parcel}
use Rattle.number_maps.specs.Maps.{get}
use Rattle.kernel_model.specs.Kernel.{Kernel, Process, living_at}
use Rattle.kernel_model.specs.Fitting.{Places}
use Rattle.kernel_model.specs.Row.{Row}
use Rattle.waiting_model.specs.Calls.{waits_at}
use Rattle.waiting_model.specs.Effect.{woken_pair}
use Rattle.waiting_model.specs.Kernel as whole_kernels
use Rattle.waiting_model.specs.Marks as whole_rows
use Rattle.waiting_model.specs.Linear.{at_once, line_of}
use Rattle.route_laws.proofs.exits.ExitCancels.{AreSeen, cancels-alone, cancels-woken}
use Rattle.route_laws.proofs.exits.DeedMoves.{ComesAsBefore}
use Rattle.route_laws.proofs.exits.EndLeaves.{EndLeaves, end-dead, end-others}
use Rattle.route_laws.proofs.exits.Parcels.{HasParcel, parcel-forked, has-number, own-place}
use Rattle.route_laws.proofs.exits.ExitMoves.{IsExitMove, exit_beside}
use Rattle.route_laws.proofs.exits.EndMarks.{IsExited, OwesAlso, end-keeps-doom, exit-whole, owes-also, doom-on}
use Rattle.route_laws.proofs.Entered.{KeepsDoom, cancel-if-of, caught-up, seen-on, whole-if, whole-of, cancel-holds-of}
use Rattle.route_laws.proofs.exits.Exits.{deeds_then, end_row, ends_as, exit-leaves, exit_entry, exit_is, exit_line, next, parent_body, pid-is, places_then, awaits, parent-not-in}
use Rattle.route_laws.proofs.exits.WholeEnds.{lines-alone, may-alone, whole-end, lines-woken, may-woken}
use Rattle.route_laws.proofs.exits.Parents.{ParentLives, ParentWaits, own_wake, parent-lives, parent-waits, bereft}
use Rattle.route_laws.proofs.exits.Waited.{WaitsHere, woken-keeps, woken_beside, woken_node, woken-answered, woken-objects, woken_leaves, woken-keeps-doom}
use Rattle.world_laws.specs.Places.{Beside, CallPlace, CancelPlace, DeedPlace, Ends, InTable, NoCancel, Parked, Idle, Unmade}
use Rattle.world_laws.specs.Cancels.{CancelSight, Wakes, cancel_sight, owing_of, CancelHolds, OfCall, Owing, is_held_cancel_of, is_owed}
use Rattle.world_laws.proofs.Changes.{Changes, read-same}
use Rattle.world_laws.specs.Deeds.{DeedsAreRead}
use Rattle.world_laws.specs.Wholes.{HasMarks, HasWhole, under_way_at}
use Rattle.world_laws.specs.Invariant.{HoldsOwing}
use Rattle.world_laws.specs.Families.{IsWhereFor}
use Rattle.world_laws.proofs.Cancels.{IsLater, SameCancel, answer-later, cancel-left-alone, is_item_of, later-on, same-later}
use Rattle.world_laws.proofs.Following.{SameOld}
use Rattle.world_laws.specs.Sights.{node_of, directory_of}
use Rattle.node_model.specs.Bodies.{Body, body_in, waiters_of, Deeds, Living as LivingBody}
use Rattle.node_model.specs.Caller.{Caller}
use Rattle.node_model.specs.Parcels.{Committed, ending_of}
use Rattle.node_model.specs.declared.held.Held.{Held}
use Rattle.node_model.specs.Kinds.{is_object, get_named, put_all}
use Rattle.node_model.specs.Carrying.{on_row}
use Rattle.node_model.specs.Directory.{Directory, held_for, is_known}
use Rattle.world_model.specs.Node.{Node}
use Rattle.world_model.specs.World.{World}
use Rattle.world_model.specs.Ends.{is_struck_by_end}
use Rattle.rule_laws.proofs.own.Alone.{process-waiters}
use Rattle.rule_laws.proofs.own.Entries.{StillLives, others-go-on, EntryLeaves}
use Rattle.rule_laws.proofs.ends.RecallAlls.{deeds_at}
use Rattle.rule_laws.proofs.Withdrawals.{old-still}
use Rattle.waiting_laws.specs.Woken.{woken_in}
use Rattle.serve_laws.specs.Ends.{WakesThen}
use Rattle.serve_laws.specs.Served.{found_gone}

none-woken : (q : ℕ) → woken_in q [] ≡ true → ⊥
none-woken q h = false≢true h

none-is-some : {A : Type 0} (a : A) → None ≡ Some a → ⊥
none-is-some a e = cc

-- a call that is parked at its caller has no withdrawal
parked-uncancelled : (p : ℕ) (owes : Owing) (x : CancelSight) (call : Call) → x.call ≡ Parked
    → x.caller.under_way ≡ Some call → CancelHolds p owes x → x.cancel ≡ NoCancel
parked-uncancelled p owes x call parked under_way h =
    (subst (λ z. OfCall p (is_owed owes p) x z (Some call)) parked
    (subst (λ o. OfCall p (is_owed owes p) x x.call o) under_way h.of_call)).0

old-on : (x y z : CancelSight) → SameCancel x y → SameOld y z → SameOld x z
old-on x y z g h =
    record {
      of = record {
        pid = g.pid ∙ h.of.pid;
        later = later-on x.caller y.caller z.caller (same-later x.caller y.caller g.caller) h.of.later;
      };
      cancels = λ to sender. g.cancels to sender ∙ h.cancels to sender;
      held_cancels = λ name. g.held_cancels name ∙ h.held_cancels name;
      hand_cancels = g.hand_cancels ∙ h.hand_cancels;
    }

module _ (script : Script) (w : World) (hand : List Held) (x : ℕ) (strikes : Bool) (b : Beside)
    (holds : HoldsOwing script w hand (owing_of x strikes) b) (parcel : Parcel) (c : ℕ) (call : Call)
    (place : DeedPlace) (parcel_is : HasParcel script w b parcel c call place) (reads : DeedsAreRead b.kernel b.body)
    (parent_at : b.deed (Proc parcel.parent) ≡ InTable x) where
  abbrev pub before_whole : HasWhole w b
  before_whole = whole-of x strikes w b holds.whole

  abbrev pub exit_next : Kernel
  exit_next = next script w hand b holds parcel c call place parcel_is reads x parent_at

  -- the kernel in which callers wait then
  abbrev pub exit_whole : whole_kernels.Kernel
  exit_whole =
      let e = whole-end script w hand b holds parcel c call place parcel_is reads x parent_at before_whole in e.next

  -- the node's process is struck where it was to be, or where the end of its child strikes it
  abbrev pub strikes_then : Bool
  strikes_then = strikes || is_struck_by_end (node_of w x) parcel.parent

  also : OwesAlso x (is_struck_by_end (node_of w x) parcel.parent) (owing_of x strikes) (owing_of x strikes_then)
  also = owes-also x strikes (is_struck_by_end (node_of w x) parcel.parent)

  abbrev row : Row
  row = end_row script w hand b holds parcel c call place parcel_is reads x parent_at

  abbrev body : Body
  body = parent_body script w hand b holds parcel c call place parcel_is reads x parent_at

  abbrev places_now : Places
  places_now = places_then script w hand b holds parcel c call place parcel_is reads x parent_at

  abbrev ends : Committed
  ends = ends_as script w hand b holds parcel c call place parcel_is reads x parent_at

  abbrev line : Entry
  line = exit_line script w hand b holds parcel c call place parcel_is reads x parent_at

  its-leaves : EndLeaves b.kernel b.places parcel.pid parcel.parent row body (ending_of parcel.call) exit_next
      places_now
  its-leaves = exit-leaves script w hand b holds parcel c call place parcel_is reads x parent_at

  pid-of : parcel.pid ≡ b.pids c
  pid-of = pid-is script w hand b holds parcel c call place parcel_is reads x parent_at

  objects-same : (name : Name) → is_object name ≡ true → body_in exit_next name ≡ body_in b.kernel name
  objects-same =
      let e = exit_is script w hand b holds parcel c call place parcel_is reads x parent_at in e.bodies_are.objects

  doom-then : (q : ℕ) → q ≢ b.pids c → KeepsDoom b.kernel exit_next q
  doom-then q other =
      let e = exit_is script w hand b holds parcel c call place parcel_is reads x parent_at
      in end-keeps-doom b.kernel exit_next parcel.pid parcel.parent row body (ending_of parcel.call) refl e.bodies_are q
      (λ same. other (same ∙ pid-of))

  apart : (y : ℕ) → y ≢ c → b.pids y ≢ b.pids c
  apart y other e =
      let pids = holds.pids
      in other (sym (pids.apart c y (parcel-forked script w hand b holds parcel c call place parcel_is) (sym e)))

  dead-then : (y : ℕ) → y ≢ c → living_at b.kernel (b.pids y) ≡ None → living_at exit_next (b.pids y) ≡ None
  dead-then y other none =
      (end-others b.kernel exit_next b.places places_now parcel.pid parcel.parent row body (ending_of parcel.call)
      its-leaves (b.pids y) (λ same. apart y other (same ∙ pid-of))).dead none

  ended-then : living_at exit_next (b.pids c) ≡ None
  ended-then =
      ap (living_at exit_next) (sym pid-of)
      ∙ end-dead b.kernel exit_next b.places places_now parcel.pid parcel.parent row body (ending_of parcel.call)
      its-leaves

  -- The node and what stands beside it once the process has ended, and what is to be shown of calls and withdrawals.
  module _ (moved : DeedPlace → DeedPlace) (stays_in : moved (InTable x) ≡ InTable x)
      (still : (d : DeedPlace) → ComesAsBefore d (moved d))
      (where_moved : (g : ℕ) (v : Process) (d : DeedPlace) → IsWhereFor g d v → IsWhereFor g (moved d) v)
      (calls : ℕ → CallPlace) (cancels : ℕ → CancelPlace) (w1 : World) (hand1 : List Held) (n1 : Node)
      (takes : List (ℕ × Frame))
      (changes : Changes script x w w1 n1 takes []
      (exit_entry script w hand b holds parcel c call place parcel_is reads x parent_at ∷ []))
      (q : IsExitMove script w w1 hand hand1 b calls x n1 takes)
      (deeds_are : n1.deeds ≡ deeds_then script w hand b holds parcel c call place parcel_is reads x parent_at)
      (ended : HoldsOwing script w1 hand1 Wakes
      (exit_beside script w hand b holds parcel c call place parcel_is reads x parent_at moved stays_in
      still where_moved
      calls cancels exit_whole w1 hand1 n1 takes changes q))
      (marks : (y : ℕ) (a : whole_rows.Alive) → HasMarks (b.call y) (under_way_at w y) a
      → HasMarks (calls y) (under_way_at w y) a)
      (ends_still : calls c ≡ Ends) (parked_still : b.call x ≡ Parked → calls x ≡ Parked)
      (uncancelled : b.cancel x ≡ NoCancel → cancels x ≡ NoCancel) (s : ℕ → CancelSight)
      (s_holds : AreSeen script b c call (owing_of x strikes) s)
      (s_same : (y : ℕ)
      → SameCancel (s y) (cancel_sight w1 hand1 (exit_beside script w hand b holds parcel c call place parcel_is reads x
      parent_at moved stays_in still where_moved calls cancels exit_whole w1 hand1 n1 takes changes q) y)) where
    abbrev pub ended_beside : Beside
    ended_beside =
        exit_beside script w hand b holds parcel c call place parcel_is reads x parent_at moved stays_in
        still where_moved
        calls cancels exit_whole w1 hand1 n1 takes changes q

    abbrev b1 : Beside
    b1 = ended_beside

    abbrev entries : List Entry
    entries = exit_entry script w hand b holds parcel c call place parcel_is reads x parent_at ∷ []

    waiters-same : (name : Name) → waiters_of (b1.body name) ≡ waiters_of (b.body name)
    waiters-same = process-waiters script w hand (owing_of x strikes) b holds exit_next objects-same

    caller-same : (y : ℕ) → (node_of w1 y).caller ≡ (node_of w y).caller
    caller-same y =
        read-same script x w w1 n1 takes [] entries changes (λ (m : Node). m.caller) q.caller.caller y

    under-way-same : (y : ℕ) → under_way_at w1 y ≡ under_way_at w y
    under-way-same y = ap (λ (m : Caller). m.under_way) (caller-same y)

    marks-then : (y : ℕ) (a : whole_rows.Alive) → HasMarks (b.call y) (under_way_at w y) a
        → HasMarks (b1.call y) (under_way_at w1 y) a
    marks-then y a h = subst (λ o. HasMarks (b1.call y) o a) (sym (under-way-same y)) (marks y a h)

    -- ---- nobody is woken

    module _ (none : ends.wakes ≡ []) where
      is-exited : IsExited script w hand b holds parcel c call place parcel_is reads x parent_at before_whole w1 hand1
          b1
          (line ∷ [])
      is-exited =
          record {
            done = ended;
            journal = changes.journal;
            lines_are = refl;
            lines_of_it = lines-alone script w hand b holds parcel c call place parcel_is reads x parent_at before_whole
                none;
            may = may-alone script w hand b holds parcel c call place parcel_is reads x parent_at before_whole none;
            whole_is = refl;
            pids_are = λ y. refl;
            waiters_are = waiters-same;
            ended = ended-then;
            dead = dead-then;
            woken = λ y other is_woken. absurd
                (none-woken (b.pids y)
                (sym (ap (λ ws. woken_in (b.pids y) (map woken_pair ws)) none) ∙ is_woken));
            others = λ y other asleep. marks-then y;
          }

      -- All holds.
      pub carried-out : HoldsOwing script w1 hand1 (owing_of x strikes_then) ended_beside
      carried-out =
          caught-up script w1 hand1 (owing_of x strikes_then) b1 ended
          (whole-if x strikes_then w1 b1
          (exit-whole script w hand b holds parcel c call place parcel_is reads x parent_at before_whole w1 hand1 b1
          (line ∷ []) is-exited))
          (λ y low high. cancel-if-of x strikes_then y (cancel_sight w1 hand1 b1 y)
          (cancels-alone script w hand b holds parcel c call place parcel_is reads x parent_at before_whole w1 hand1 b1
          (line ∷ []) is-exited (owing_of x strikes_then) also ends_still none s s_holds s_same
          (λ z other. doom-then (b.pids z) (apart z other)) y low high))

    -- ---- the parent is

    module _ (r : Row) (is : body ≡ LivingBody r) (waits : Call) (reply : Reply)
        (aw : awaits script w hand b holds parcel c call place parcel_is reads x parent_at ≡ Some waits)
        (woken : ends.wakes ≡ own_wake parcel.parent reply ∷ [])
        (after : WakesThen parcel waits (deeds_at w x) ends
        (bereft script w hand b holds parcel c call place parcel_is reads x parent_at) (own_wake parcel.parent reply))
      where
        pub living : ParentLives script w b parcel x r
        living = parent-lives script w hand b holds parcel c call place parcel_is reads x parent_at r is

        pub waiting : ParentWaits script w hand b holds parcel c call place parcel_is reads x parent_at r is waits
        waiting = parent-waits script w hand b holds parcel c call place parcel_is reads x parent_at r is waits aw

        -- the deeds then
        abbrev pub woken_deeds : Deeds
        woken_deeds = put_all (deeds_at w x) ends.changes

        parent-stays : b1.deed (Proc parcel.parent) ≡ InTable x
        parent-stays =
            ap (λ t. if t then InTable x else moved (b.deed (Proc parcel.parent)))
            (parent-not-in script w hand b holds parcel c call place parcel_is reads x parent_at)
            ∙ ap moved parent_at ∙ stays_in

        n1-deeds : (node_of w1 x).deeds
            ≡ deeds_then script w hand b holds parcel c call place parcel_is reads x parent_at
        n1-deeds = ap (λ (z : Node). z.deeds) changes.here ∙ deeds_are

        pub waits-here : WaitsHere w1 b1 x waiting.child reply after.row after.left
        waits-here =
            record {
              under_way = under-way-same x ∙ waiting.under_way_is ∙ ap Some waiting.waits_for;
              parked = parked_still waiting.parked;
              deed = ap (λ p. b1.deed (Proc p)) (sym living.pid_is) ∙ parent-stays;
              here = ap (λ (ds : Deeds). get_named ds (Proc (b.pids x))) n1-deeds
                  ∙ ap (λ p. get_named (deeds_then script w hand b holds parcel c call place parcel_is reads x
                  parent_at)
                  (Proc p)) (sym living.pid_is)
                  ∙ after.ended;
              waited = (λ i. on_row after.row (sym living.pid_is i) (at_once (sym waiting.waits_for i))) ∙ after.waited;
            }

        pub deeds-by : (name : Name)
            → get_named woken_deeds name
            ≡ get_named (put_all (node_of w1 x).deeds
            ((Proc (b.pids x), LivingBody after.left) ∷ found_gone (Some reply))) name
        deeds-by name =
            after.after name
            ∙ (λ i. get_named (put_all (sym n1-deeds i)
            ((Proc (living.pid_is i), LivingBody after.left) ∷ found_gone (Some reply))) name)

        -- the node then
        abbrev pub woken_then : Node
        woken_then =
            woken_node script w1 hand1 b1 ended x living.low living.high waiting.child reply after.row after.left
            waits-here exit_whole
            woken_deeds deeds-by

        -- and what stands beside the world
        abbrev pub replied_beside : Beside
        replied_beside =
            woken_beside script w1 hand1 b1 ended x living.low living.high waiting.child reply after.row after.left
            waits-here exit_whole
            woken_deeds deeds-by

        abbrev b2 : Beside
        b2 = replied_beside

        module _ (w2 : World) (further : Changes script x w1 w2 (woken_then) [] [] [])
            (journal : w2.journal ≡ w1.journal) where
          replied : HoldsOwing script w2 hand1 Wakes b2
          replied =
              woken-keeps script w1 hand1 b1 ended x living.low living.high waiting.child reply after.row after.left
              waits-here exit_whole
              woken_deeds deeds-by w2 further

          abbrev wait_line : Entry
          wait_line = line_of x parcel.parent waits reply

          wait-line-is : line_of x (b.pids x) (WaitPid waiting.child false) reply ≡ wait_line
          wait-line-is = λ i. line_of x (sym living.pid_is i) (sym waiting.waits_for i) reply

          abbrev last : Kernel
          last = b2.kernel

          leaves-waited : EntryLeaves exit_next b1.places (b.pids x) last b2.places
          leaves-waited =
              woken_leaves script w1 hand1 b1 ended x living.low living.high waiting.child reply after.row after.left
              waits-here exit_whole
              woken_deeds deeds-by

          others-on : (y : ℕ) → b.pids y ≢ b.pids x → StillLives (living_at exit_next (b.pids y))
              (living_at last (b.pids y))
          others-on y away = others-go-on exit_next last b1.places b2.places (b.pids x) leaves-waited (b.pids y) away

          here-now : b2.call x ≡ Idle
          here-now = ap (λ t. if t then Idle else b1.call x) (eq-eqb x x refl)

          elsewhere : (y : ℕ) → y ≢ x → b2.call y ≡ b1.call y
          elsewhere y d = ap (λ t. if t then Idle else b1.call y) (ne_eqb x y (λ e. d (sym e)))

          -- the node with the parent's deed is another than the one that ends
          other-than-ender : x ≢ c
          other-than-ender at =
              differ
              (sym waiting.parked ∙ ap b.call at
              ∙ own-place script w hand b holds parcel c call place parcel_is)
            where
              differ : Parked ≡ Ends → ⊥
              differ h = cc

          is-pid : (y : ℕ) → y ≢ x → b.pids y ≢ b.pids x
          is-pid y other same = other (sym (holds.pids.apart x y forked (sym same)))
            where
              forked : b.pids x ≢ 0
              forked z =
                  has-number script w hand b parcel.parent holds (λ u. not-unmade (sym parent_at ∙ u))
                  (living.pid_is ∙ z)
                where
                  not-unmade : InTable x ≡ Unmade → ⊥
                  not-unmade g = cc

          asleep-elsewhere : (y : ℕ) → y ≢ x → woken_in (b.pids y) (map woken_pair ends.wakes) ≡ false
          asleep-elsewhere y d =
              ap (λ ws. woken_in (b.pids y) (map woken_pair ws)) woken
              ∙ ap (λ t. t || false) (ne_eqb (b.pids y) parcel.parent (λ same. is-pid y d (same ∙ living.pid_is)))

          ends-there : b2.call c ≡ Ends
          ends-there = elsewhere c (λ at. other-than-ender (sym at)) ∙ ends_still

          same-there : directory_of w2 ≡ directory_of w1
          same-there =
              read-same script x w1 w2 woken_then [] [] [] further (λ (z : Node). z.leader.directory) refl 1

          node-elsewhere : (y : ℕ) → y ≢ x → node_of w2 y ≡ node_of w1 y
          node-elsewhere y d = further.others y d

          waiters-then : (name : Name) → waiters_of (b2.body name) ≡ waiters_of (b.body name)
          waiters-then name =
              process-waiters script w1 hand1 Wakes b1 ended last
              (woken-objects script w1 hand1 b1 ended x living.low living.high waiting.child reply after.row after.left
              waits-here
              exit_whole woken_deeds deeds-by) name
              ∙ waiters-same name

          abbrev lines : List Entry
          lines = line ∷ wait_line ∷ []

          free-now : under_way_at w2 x ≡ None
          free-now =
              ap (λ (z : Node). z.caller.under_way) further.here
              ∙ (woken-answered script w1 hand1 b1 ended x living.low living.high waiting.child reply after.row
              after.left waits-here
              exit_whole woken_deeds deeds-by).free

          is-exited-woken : IsExited script w hand b holds parcel c call place parcel_is reads x parent_at before_whole
              w2
              hand1 b2 lines
          is-exited-woken =
              record {
                done = replied;
                journal = journal ∙ changes.journal;
                lines_are = append_assoc b.lines (line ∷ [])
                    (line_of x (b.pids x) (WaitPid waiting.child false) reply ∷ [])
                    ∙ ap (λ z. b.lines ++ line ∷ z ∷ []) wait-line-is;
                lines_of_it = lines-woken script w hand b holds parcel c call place parcel_is reads x parent_at
                    before_whole
                    r is waits reply aw woken;
                may = may-woken script w hand b holds parcel c call place parcel_is reads x parent_at before_whole r is
                    waits reply aw woken;
                whole_is = refl;
                pids_are = λ y. refl;
                waiters_are = waiters-then;
                ended = (others-on c (is-pid c (λ at. other-than-ender (sym at)))).dead ended-then;
                dead = λ y other none. dead-on y other none;
                woken = λ y other is_woken a parked. woken-marks y is_woken a parked;
                others = λ y other asleep a h. asleep-marks y (not-woken y asleep) a h;
              }
            where
              dead-on : (y : ℕ) → y ≢ c → living_at b.kernel (b.pids y) ≡ None → living_at last (b.pids y) ≡ None
              dead-on y other none =
                  elim (cases_eq y x) [
                    | inl at ↦
                        absurd (none-is-some living.alive
                        (sym none ∙ ap (λ z. living_at b.kernel (b.pids z)) at
                        ∙ ap (living_at b.kernel) (sym living.pid_is) ∙ living.lives))
                    | inr d ↦ (others-on y (is-pid y d)).dead (dead-then y other none)
                  ]

              woken-marks : (y : ℕ) → woken_in (b.pids y) (map woken_pair ends.wakes) ≡ true → (a : whole_rows.Alive)
                  → a.marks.parked ≡ None → HasMarks (b2.call y) (under_way_at w2 y) a
              woken-marks y is_woken a parked =
                  elim (cases_eq y x) [
                    | inl at ↦
                        subst (λ z. HasMarks (b2.call z) (under_way_at w2 z) a) (sym at)
                        (subst (λ o. HasMarks (b2.call x) o a) (sym free-now) parked)
                    | inr d ↦ absurd (false≢true (sym (asleep-elsewhere y d) ∙ is_woken))
                  ]

              not-woken : (y : ℕ) → woken_in (b.pids y) (map woken_pair ends.wakes) ≡ false → y ≢ x
              not-woken y asleep at =
                  false≢true
                  (sym asleep
                  ∙ ap (λ ws. woken_in (b.pids y) (map woken_pair ws)) woken
                  ∙ ap (λ t. t || false) (eq-eqb (b.pids y) parcel.parent (ap b.pids at ∙ sym living.pid_is)))

              asleep-marks : (y : ℕ) → y ≢ x → (a : whole_rows.Alive) → HasMarks (b.call y) (under_way_at w y) a
                  → HasMarks (b2.call y) (under_way_at w2 y) a
              asleep-marks y d a h =
                  subst (λ z. HasMarks z (under_way_at w2 y) a) (sym (elsewhere y d))
                  (subst (λ (z : Node). HasMarks (b1.call y) z.caller.under_way a) (sym (node-elsewhere y d))
                  (marks-then y a h))

          -- ---- the withdrawals

          seen-there : (y : ℕ) → y ≢ x → SameCancel (s y) (cancel_sight w2 hand1 b2 y)
          seen-there y d =
              seen-on (s y) (cancel_sight w1 hand1 b1 y) (cancel_sight w2 hand1 b2 y) (s_same y)
              (cancel-left-alone script x w1 w2 woken_then [] [] [] further hand1 hand1 b1 b2 y
              (record {
                own = λ at. absurd (d at);
                call_is = elsewhere y d;
                cancel_is = refl;
                held_is = λ name. ap (λ (z : Directory). filter (is_item_of y) (held_for z name)) same-there;
                hand_is = refl;
                nowhere = λ one known may n. record {
                  node = n.node;
                  is = elsewhere y d ∙ n.is;
                  leaves = ap (λ (z : Directory). is_none (get z.partings n.node)) same-there ∙ n.leaves;
                  unknown = ap (λ z. is_known z (waits_at (node_of w1 y).pid one)) same-there ∙ n.unknown;
                };
              }) tt tt tt tt)

          old-there : SameOld (s x) (cancel_sight w2 hand1 b2 x)
          old-there =
              old-on (s x) (cancel_sight w1 hand1 b1 x) (cancel_sight w2 hand1 b2 x) (s_same x)
              (old-still script x w1 w2 woken_then [] [] [] further hand1 hand1 b1 b2 x
              (sym (ap (λ (z : Node). z.pid) further.here))
              (subst (λ (z : Node). IsLater (let m : Node = node_of w1 x in m.caller) z.caller) (sym further.here)
              (answer-later script x (let m : Node = node_of w1 x in m.caller) (WaitPid waiting.child false) reply))
              (λ name. ap (λ (z : Directory). filter (is_held_cancel_of x) (held_for z name)) same-there) refl tt tt)

          uncancelled-then : b2.cancel x ≡ NoCancel
          uncancelled-then =
              uncancelled
              (parked-uncancelled x (owing_of x strikes) (cancel_sight w hand b x) waits waiting.parked
              waiting.under_way_is
              (cancel-holds-of x strikes x (cancel_sight w hand b x) (holds.cancels x living.low living.high)))

          doom-woken : (y : ℕ) → y ≢ c → y ≢ x → KeepsDoom b.kernel last (b.pids y)
          doom-woken y other d =
              doom-on b.kernel exit_next last (b.pids y) (doom-then (b.pids y) (apart y other))
              (woken-keeps-doom script w1 hand1 b1 ended x living.low living.high waiting.child reply after.row
              after.left
              waits-here exit_whole woken_deeds deeds-by (b.pids y) (is-pid y d))

          -- All holds.
          pub carried-out-waking : HoldsOwing script w2 hand1 (owing_of x strikes_then) replied_beside
          carried-out-waking =
              caught-up script w2 hand1 (owing_of x strikes_then) b2 replied
              (whole-if x strikes_then w2 b2
              (exit-whole script w hand b holds parcel c call place parcel_is reads x parent_at before_whole w2 hand1 b2
              lines is-exited-woken))
              (λ y low high. cancel-if-of x strikes_then y (cancel_sight w2 hand1 b2 y)
              (cancels-woken script w hand b holds parcel c call place parcel_is reads x parent_at before_whole w2 hand1
              b2
              lines is-exited-woken (owing_of x strikes_then) also ends-there r is reply woken s s_holds seen-there
              doom-woken old-there uncancelled-then free-now y low high))
