-- A node other than the leader starts the call that ends its process: the node leaves, and tells the leader. The step,
-- what it changes, and the call.
use Rattle.std.proofs.Common.{◌≡◌, ◌≢◌, ℕ, ◌≤◌, Bool, true, false, if◌then◌else◌, List, [], ◌∷◌, filter, flat_map, Some, refl, ap, sym, subst, ◌∙◌, inl, inr, arith, append-nil}
use Rattle.std.proofs.lemmas.Bool.{cases_eq, eq-eqb, ne_eqb}
use Rattle.pico_base.specs.declared.call.Call.{Call}
use Rattle.pico_base.specs.declared.call.Home.TheVariants as homes
use Rattle.pico_base.specs.declared.script.Script.{Script}
use Rattle.pico_base.specs.Home.{home_of}
use Rattle.rpc_frame.specs.declared.frame.Frame.{Frame}
use Rattle.rpc_frame.specs.declared.frame.Frame.TheVariants as frames
use Rattle.pico_base.specs.declared.numbers.Name.{Name}
use Rattle.kernel_model.specs.Script.{IsSoundScript}
use Rattle.node_model.specs.Caller.{Caller, start_call}
use Rattle.node_model.specs.Directory.{Directory, held_for, is_known, stays}
use Rattle.world_model.specs.Node.{Leaving, Node, Over, can_run}
use Rattle.world_model.specs.Starting.{end_leader, leave, run, start_by}
use Rattle.world_model.specs.Step.{Step, step_to}
use Rattle.world_model.specs.World.{World, node_count, world_after}
use Rattle.world_laws.specs.Places.{Beside, CallPlace, Ends, call_in}
use Rattle.world_laws.specs.Sights.{directory_of, is_born_in, node_of}
use Rattle.world_laws.specs.Plays.{plays}
use Rattle.world_laws.specs.Names.{range_steps_of}
use Rattle.world_laws.specs.Callers.{CallHolds, CallSight, HasCall, call_sight, is_about, is_item_about, may_be_in}
use Rattle.world_laws.specs.Families.{NodeHolds}
use Rattle.world_laws.specs.Invariant.{Holds}
use Rattle.world_laws.proofs.Changes.{Changes, filter-is-list-map, made-same, read-same, stayed, still-born}
use Rattle.world_laws.proofs.Frames.{plays-of-others, ranges-of-all-others}
use Rattle.world_laws.proofs.LeftAlone.{LeavesCall, call-left-alone, other-node-stays}
use Rattle.world_laws.proofs.Stays.{IsMore, SameCall, call-stays, node-born}
use Rattle.world_laws.proofs.Steps.{changes-by-run}
use Rattle.rule_laws.proofs.own.Runs.{Starts, run-is}
use Rattle.waiting_model.specs.Marks.{Alive}
use Rattle.waiting_model.specs.Kernel.{living_at}
use Rattle.waiting_model.specs.Calls.{waits_at}
use Rattle.world_laws.specs.Cancels.{CancelHolds, Nothing, cancel_sight, is_held_cancel_of}
use Rattle.world_laws.specs.Wholes.{HasMarks, HasWhole, under_way_at}
use Rattle.world_laws.proofs.Cancels.{LeavesCancel, cancel-left-alone, is_item_of}
use Rattle.rule_laws.proofs.CallMoves.{cancel-if-same}
use Rattle.rule_laws.proofs.own.Starting.{cancel-started, marks-started}
use Rattle.world_laws.proofs.Wholes.{marks-of-others, whole-left-alone}

leaving-is-over : Leaving ≡ Over → ⊥
leaving-is-over h = cc

module _ (script : Script) (sound : IsSoundScript script) (w : World) (b : Beside) (holds : Holds script w [] b) (p : ℕ)
    (low : 1 ≤ p) (high : p ≤ node_count script) (can : can_run (node_of w p) ≡ true) (s : Starts script w b p)
    (other : p ≢ 1) (home : home_of (node_of w p).pid s.call ≡ homes.Parent) where
  abbrev n : Node
  n = node_of w p

  abbrev call : Call
  call = s.call

  abbrev x : CallSight
  x = call_sight w [] b p

  abbrev started : Caller
  started = start_call n.caller call

  abbrev pub leaving_node : Node
  leaving_node = record n { caller = started; stage = Leaving }

  abbrev pub leaving_frame : Frame
  leaving_frame = frames.Leaving n.pid n.parent n.parent_node

  abbrev pub leaving_sends : List (ℕ × Frame)
  leaving_sends = (1, leaving_frame) ∷ []

  abbrev pub leaving_step : Step
  leaving_step = record { node = leaving_node; entries = []; sends = leaving_sends; strikes = false }

  abbrev pub leaving_world : World
  leaving_world = world_after w p leaving_step

  abbrev calls-now : ℕ → CallPlace
  calls-now = call_in b.call p Ends

  abbrev pub leaving_beside : Beside
  leaving_beside = record b { call = calls-now }

  node-was : NodeHolds script b.pids (is_born_in w) p n
  node-was = holds.nodes p low high

  -- The rule.
  pub leaves-by-rule : run script n ≡ Some leaving_step
  leaves-by-rule =
      run-is script sound w b holds p low high can s
      ∙ ap (start_by script (step_to (record n { caller = started })) call s.row) home
      ∙ ap (λ t. Some (if t then end_leader script (step_to (record n { caller = started })) call s.row
      else leave (step_to (record n { caller = started })))) (ne_eqb n.number 1 (λ e. other (sym node-was.number ∙ e)))

  -- What it changes.
  pub leaving-changes : Changes script p w leaving_world leaving_node [] leaving_sends []
  leaving-changes =
      changes-by-run script w holds.shape p leaving_step low high
      (record { low = omega arith; high = omega (arith, low, high) }, tt)

  pub leaving-directory : directory_of leaving_world ≡ directory_of w
  leaving-directory =
      read-same script p w leaving_world leaving_node [] leaving_sends [] leaving-changes
      (λ (m : Node). m.leader.directory) refl 1

  pub leaving-born : IsMore (is_born_in w) (is_born_in leaving_world)
  leaving-born = still-born script p w leaving_world leaving_node [] leaving_sends [] leaving-changes (λ h. refl)

  -- ---- the nodes

  node-now : NodeHolds script b.pids (is_born_in w) p leaving_node
  node-now =
      record {
        number = node-was.number;
        holds = record { row = s.row; here = s.has_row };
        birth = s.birth;
        first = λ e. absurd (other e);
        others = λ d over. leaving-is-over over;
        rows = node-was.rows;
        owners = node-was.owners;
      }

  pub leaving-nodes : (y : ℕ) → 1 ≤ y → y ≤ node_count script
      → NodeHolds script b.pids (is_born_in leaving_world) y (node_of leaving_world y)
  leaving-nodes y low_y high_y =
      elim (cases_eq y p) [
        | inr d ↦
            other-node-stays script p w leaving_world leaving_node [] leaving_sends [] leaving-changes b.pids
            (is_born_in w) (is_born_in leaving_world) y d leaving-born (holds.nodes y low_y high_y)
        | inl e ↦
            subst (λ z. NodeHolds script b.pids (is_born_in leaving_world) z (node_of leaving_world z)) (sym e)
            (subst (λ (m : Node). NodeHolds script b.pids (is_born_in leaving_world) p m) (sym leaving-changes.here)
            (node-born script b.pids (is_born_in w) (is_born_in leaving_world) p leaving_node leaving-born node-now))
      ]

  -- ---- the calls

  abbrev ending : CallSight
  ending = record x { stage = Leaving; caller = started; call = Ends }

  has-call : HasCall script p (is_born_in w) ending call
  has-call =
      record {
        just_there = record {
          in_streams = s.nowhere.in_streams;
          held_for_names = s.nowhere.held_for_names;
          in_hand = s.nowhere.in_hand;
          waiting = s.nowhere.waiting;
        };
        home = ap (λ h. may_be_in Ends h call) home;
        used_up = tt;
        between = tt;
        so_far = inl
            (record {
              there = s.free.there;
              due = s.due_now.due;
              alive = s.alive;
              lives = s.lives;
              may = s.due_now.may;
            });
        at_work = refl;
        started = omega arith;
        tickets = let few = s.free.tickets in omega (arith, few);
        try_left = s.free.try_left;
      }

  call-ends : CallHolds script p (is_born_in w) ending
  call-ends = record { call = has-call; ends = refl }

  sight-now : SameCall ending (call_sight leaving_world [] leaving_beside p)
  sight-now =
      record {
        number = sym (ap (λ (m : Node). m.number) leaving-changes.here);
        pid = sym (ap (λ (m : Node). m.pid) leaving-changes.here);
        stage = sym (ap (λ (m : Node). m.stage) leaving-changes.here);
        caller = sym (ap (λ (m : Node). m.caller) leaving-changes.here);
        leases = sym (ap (λ (m : Node). m.leases) leaving-changes.here);
        place = refl;
        alive = refl;
        call = sym (ap (λ t. if t then Ends else b.call p) (eq-eqb p p refl));
        frames_about = λ to sender. sym (made-same script p w leaving_world leaving_node [] leaving_sends []
            leaving-changes (λ t q fs. filter (is_about p t q) fs) (λ t q. filter-is-list-map (is_about p t q)) tt
            (refl, tt) to sender);
        held = λ m. sym (ap (λ (d : Directory). filter (is_item_about p) (held_for d m)) leaving-directory);
        hand = refl;
        waiters = λ m. refl;
      }

  call-elsewhere : (y : ℕ) → y ≢ p → calls-now y ≡ b.call y
  call-elsewhere y d = ap (λ t. if t then Ends else b.call y) (ne_eqb p y (λ e. d (sym e)))

  other-calls : (y : ℕ) → y ≢ p → LeavesCall w leaving_world [] [] b leaving_beside p leaving_node y
  other-calls y d =
      record {
        own = λ e. absurd (d e);
        place_is = refl;
        alive_is = refl;
        call_is = call-elsewhere y d;
        held_is = λ m. ap (λ (z : Directory). filter (is_item_about y) (held_for z m)) leaving-directory;
        hand_is = refl;
        waiters_are = λ m. refl;
      }

  pub leaving-calls : (y : ℕ) → 1 ≤ y → y ≤ node_count script
      → CallHolds script y (is_born_in leaving_world) (call_sight leaving_world [] leaving_beside y)
  leaving-calls y low_y high_y =
      elim (cases_eq y p) [
        | inl e ↦
            subst (λ z. CallHolds script z (is_born_in leaving_world) (call_sight leaving_world [] leaving_beside z))
            (sym e)
            (call-stays script p (is_born_in w) (is_born_in leaving_world) _ _ leaving-born sight-now call-ends)
        | inr d ↦
            call-stays script y (is_born_in w) (is_born_in leaving_world) (call_sight w [] b y)
            (call_sight leaving_world [] leaving_beside y) leaving-born
            (call-left-alone script p w leaving_world leaving_node [] leaving_sends [] leaving-changes [] [] b
            leaving_beside y (other-calls y d) tt (refl, tt)) (holds.calls y low_y high_y)
      ]

  -- ---- what the call's place is for names

  left-alone : (t q : ℕ) → filter (is_about p t q) (leaving-changes.left t q) ≡ []
  left-alone t q =
      stayed script p w leaving_world leaving_node [] leaving_sends [] leaving-changes
      (λ t q fs. filter (is_about p t q) fs) (λ t q. filter-is-list-map (is_about p t q)) tt t q
      ∙ s.nowhere.in_streams t q

  pub leaving-steps : (used : Bool) (m : Name) (y : ℕ)
      → plays used calls-now m (leaving-changes.left y 1) ≡ plays used b.call m (leaving-changes.left y 1)
  leaving-steps used m y =
      plays-of-others used b.call calls-now p call-elsewhere m y 1 (leaving-changes.left y 1) (left-alone y 1)

  pub leaving-ranges : (used : Bool) (m : Name) (y : ℕ)
      → flat_map (range_steps_of used calls-now m) (leaving-changes.left y 1)
      ≡ flat_map (range_steps_of used b.call m) (leaving-changes.left y 1)
  leaving-ranges used m y =
      ranges-of-all-others used b.call calls-now p call-elsewhere m y 1 (leaving-changes.left y 1) (left-alone y 1)

  -- ---- the kernel in which callers wait, and withdrawals

  own-marks : (a : Alive) → living_at b.whole (b.pids p) ≡ Some a
      → HasMarks (calls-now p) (under_way_at leaving_world p) a
  own-marks a lives =
      subst (λ o. HasMarks (calls-now p) o a) (sym (ap (λ (m : Node). m.caller.under_way) leaving-changes.here))
      (subst (λ c. HasMarks c (Some call) a) (sym (ap (λ t. if t then Ends else b.call p) (eq-eqb p p refl)))
      (marks-started script w b holds p low high s Ends a refl lives))

  pub leaving-whole : HasWhole leaving_world leaving_beside
  leaving-whole =
      whole-left-alone w leaving_world b leaving_beside Nothing
      (record {
        journal_is = leaving-changes.journal ∙ append-nil w.journal;
        lines_are = refl;
        kernel_is = refl;
        whole_is = refl;
        pids_are = λ y. refl;
        bodies_are = λ name. refl;
        marks_still = λ y a lives. marks-of-others w leaving_world b.call calls-now p call-elsewhere
            (λ y d. ap (λ (m : Node). m.caller.under_way) (leaving-changes.others y d)) y a
            (λ e marks. own-marks a (subst (λ z. living_at b.whole (b.pids z) ≡ Some a) e lives));
      })
      holds.whole

  own-cancel : CancelHolds p Nothing (cancel_sight leaving_world [] leaving_beside p)
  own-cancel =
      cancel-started script w b holds p low high s leaving_world [] leaving_node [] leaving_sends [] leaving-changes
      leaving_beside refl refl refl refl refl refl
      (λ m. ap (λ (d : Directory). filter (is_held_cancel_of p) (held_for d m)) leaving-directory) refl tt (refl, tt)
      (is_born_in leaving_world) (leaving-calls p low high)

  other-cancels : (y : ℕ) → y ≢ p → LeavesCancel w leaving_world [] [] b leaving_beside p leaving_node y
  other-cancels y d =
      record {
        own = λ e. absurd (d e);
        call_is = call-elsewhere y d;
        cancel_is = refl;
        held_is = λ m. ap (λ (z : Directory). filter (is_item_of y) (held_for z m)) leaving-directory;
        hand_is = refl;
        nowhere = λ call is may l. record {
          node = l.node;
          is = call-elsewhere y d ∙ l.is;
          leaves = ap (λ (z : Directory). stays z l.node) leaving-directory ∙ l.leaves;
          unknown = ap (λ (z : Directory). is_known z (waits_at (node_of w y).pid call)) leaving-directory ∙ l.unknown;
        };
      }

  pub leaving-cancels : (y : ℕ) → 1 ≤ y → y ≤ node_count script
      → CancelHolds y Nothing (cancel_sight leaving_world [] leaving_beside y)
  leaving-cancels y low_y high_y =
      elim (cases_eq y p) [
        | inl e ↦ subst (λ z. CancelHolds z Nothing (cancel_sight leaving_world [] leaving_beside z)) (sym e) own-cancel
        | inr d ↦
            cancel-if-same y Nothing (cancel_sight w [] b y) (cancel_sight leaving_world [] leaving_beside y) refl
            (cancel-left-alone script p w leaving_world leaving_node [] leaving_sends [] leaving-changes [] [] b
            leaving_beside y (other-cancels y d) tt (refl, tt) tt (refl, tt)) (holds.cancels y low_y high_y)
      ]
