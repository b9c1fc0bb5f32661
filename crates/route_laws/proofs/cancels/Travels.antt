-- An event, or a part of one, in which nothing but a withdrawal goes to another place. What is left to show is that,
-- and the names.
use Rattle.std.proofs.Common.{Bool, Contains, List, [], ap, append-nil, arith, false, filter, inl, inr, nat_eq, not, refl, subst, sym, true, ℕ, ◌&&◌, ◌∙◌, ◌≡◌, ◌≢◌, ◌≤◌}
use Rattle.std.proofs.lemmas.Bool.{cases_eq, false≢true, ne_eqb}
use Rattle.std.proofs.lemmas.List.Elements.{Contains-append_cases, Contains-append_right, Contains-push_cases}
use Rattle.std.specs.List.{AllByRecursion}
use Rattle.pico_base.specs.declared.numbers.Kind.{Kind}
use Rattle.pico_base.specs.declared.numbers.Name.TheVariants.{Proc}
use Rattle.pico_base.specs.declared.numbers.Name.{Name}
use Rattle.pico_base.specs.declared.script.Script.{Script}
use Rattle.number_maps.specs.Maps.{get}
use Rattle.rpc_frame.specs.declared.asked.Asked.{Asked}
use Rattle.rpc_frame.specs.declared.deed.Parcel.{Parcel}
use Rattle.rpc_frame.specs.declared.frame.Frame.TheVariants as frames
use Rattle.rpc_frame.specs.declared.frame.Frame.{Frame}
use Rattle.waiting_model.specs.Calls.{is_withdrawal}
use Rattle.node_model.specs.Caller.{Caller}
use Rattle.node_model.specs.Directory.{Directory, held_for, is_known, is_parcel}
use Rattle.node_model.specs.Kinds.{for_kind}
use Rattle.node_model.specs.declared.held.Held.TheVariants.{Ending, Request}
use Rattle.node_model.specs.declared.held.Held.{Held}
use Rattle.world_model.specs.Node.{Node}
use Rattle.world_model.specs.World.{World, is_checkpoint, node_count}
use Rattle.rule_laws.proofs.CallMoves.{IsCallMove, call-move-keeps}
use Rattle.world_laws.proofs.CancelMoves.{CancelTravels, Moves, dropped-stays}
use Rattle.world_laws.proofs.Cancels.{SameCancel, cancel-stays, is_item_of}
use Rattle.world_laws.proofs.Changes.{Changes, filter-is-list-map, made-same, read-same, still-born}
use Rattle.world_laws.proofs.Frames.{all-weaker, is_plain, not-about}
use Rattle.world_laws.proofs.LeftAlone.{few-still, kind-left-alone}
use Rattle.world_laws.proofs.Stays.{IsMore, SameCall, call-stays, kind-stays}
use Rattle.world_laws.proofs.Wholes.{LeavesWhole}
use Rattle.world_laws.specs.Callers.{CallHolds, call_sight, is_about, is_item_about, only_if}
use Rattle.world_laws.specs.Cancels.{AStrike, CancelHolds, CancelIf, CancelSight, Nothing, Owing, cancel_sight, is_cancel_of, is_doomed, is_struck}
use Rattle.world_laws.specs.Families.{NodeHolds}
use Rattle.world_laws.specs.Invariant.{HoldsOwing, IsLeading, MayBe}
use Rattle.world_laws.specs.Names.{NameHolds, name_sight}
use Rattle.world_laws.specs.Places.{Beside, CancelPlace}
use Rattle.world_laws.specs.Ranges.{lease_in}
use Rattle.world_laws.specs.Sights.{directory_of, is_born_in, is_born_stage, node_of, stage_of}
use Rattle.world_laws.specs.Wholes.{HasMarks, WholeIf, under_way_at}
use Rattle.route_laws.proofs.cancels.Noted.{call-noted, noted_as}

-- ---- what stays

-- The node at work is as it was; only of its own call it may be noted that a signal has interrupted it.
pub record NodeStays (script : Script) (w : World) (b : Beside) (p x : ℕ) (n : Node) : Type 0 where
  pub number : n.number ≡ (node_of w p).number
  pub pid : n.pid ≡ (node_of w p).pid
  pub stage : n.stage ≡ stage_of w p
  pub leases : n.leases ≡ (node_of w p).leases
  pub noted : Bool
  pub caller : n.caller ≡ record (node_of w p).caller { noted = noted }
  pub unnoted : p ≢ x → noted ≡ (node_of w p).caller.noted
  pub queue_keys : n.leader.queue_keys ≡ (node_of w p).leader.queue_keys
  pub set_keys : n.leader.set_keys ≡ (node_of w p).leader.set_keys
  pub holds : NodeHolds script b.pids (is_born_in w) p n

-- The directory is as it was, but for what is held.
pub record DirectoryStays (d d' : Directory) : Type 0 where
  pub partings_are : (y : ℕ) → get d'.partings y ≡ get d.partings y
  pub known_are : (name : Name) → is_known d' name ≡ is_known d name
  pub ranges_are : (kind : Kind) → for_kind d'.ranges kind ≡ for_kind d.ranges kind
  pub leads : IsLeading d'

-- each frame is this withdrawal
abbrev pub OnlyCancel : Asked → List (ℕ × Frame) → Type 0
OnlyCancel cancel pairs = AllByRecursion (λ s. s.1 ≡ frames.Cancel cancel) pairs

-- a strike that is owed another node is nothing to this one
pub owed-another : (x y : ℕ) (z z' : CancelSight) → y ≢ x → z.alive ≡ z'.alive → SameCancel z z'
    → CancelHolds y (AStrike x) z → CancelHolds y Nothing z'
owed-another x y z z' other marks same h =
    cancel-stays y (AStrike x) Nothing z z' same
    (record {
      owed = λ none. ne_eqb x y (λ e. other (sym e));
      struck = λ e. ap is_struck (sym marks) ∙ e;
      doomed = λ none e. ap is_doomed marks ∙ e;
      strikes = λ owed some. absurd (false≢true owed);
    }) h

request-no-parcel : (asked : Asked) (parcel : Parcel) → Request asked ≡ Ending parcel → ⊥
request-no-parcel asked parcel e = false≢true (ap is_parcel e)

-- a parcel that is there afterwards was there before
parcel-was : (from to : Bool) (cancel : Asked) (before after : List Held) (parcel : Parcel)
    → Moves from to (Request cancel) before after → Contains after (Ending parcel) → Contains before (Ending parcel)
parcel-was from to cancel before after parcel m there =
    subst (λ items. Contains items (Ending parcel)) (sym m.taken)
    (Contains-append_right (only_if from (Request cancel)) m.left (Ending parcel)
    (elim (Contains-append_cases m.left (only_if to (Request cancel)) (Ending parcel)
    (subst (λ items. Contains items (Ending parcel)) m.put there)) [
      | inl stayed ↦ stayed
      | inr new ↦ absurd (not-there to new)
    ]))
  where
    not-there : (t : Bool) → Contains (only_if t (Request cancel)) (Ending parcel) → ⊥
    not-there true there =
        elim (Contains-push_cases [] (Request cancel) (Ending parcel) there) [
          | inl none ↦ none-there none
          | inr e ↦ request-no-parcel cancel parcel e
        ]
      where
        none-there : Contains [] (Ending parcel) → ⊥
        none-there there = omega (arith, there.1)
    not-there false there = omega (arith, there.1)

-- ---- the move

-- All holds, with the withdrawals where they are then.
pub record HoldsStill (script : Script) (w : World) (hand : List Held) (owes : Owing) (b : Beside) : Type 0 where
  pub cancels : ℕ → CancelPlace
  pub holds : HoldsOwing script w hand owes (record b { cancel = cancels })

-- what is still to be shown of each other withdrawal where a strike may have been owed
abbrev pub OthersOwed : World → World → List Held → List Held → Owing → Owing → Beside → Beside → ℕ → Type 0
OthersOwed w w' hand hand' owes owes' b b' x =
    (y : ℕ) → y ≢ x → SameCancel (cancel_sight w hand b y) (cancel_sight w' hand' b' y)
    → CancelIf y owes (cancel_sight w hand b y) → CancelIf y owes' (cancel_sight w' hand' b' y)

-- the kernel stays beside the world, whatever is owed
abbrev pub WholeStays : World → World → Owing → Owing → Beside → Beside → Type 0
WholeStays w w' owes owes' b b' = LeavesWhole w w' b b' → WholeIf owes w b → WholeIf owes' w' b'

module _ (script : Script) (w w' : World) (hand hand' : List Held) (owes owes' : Owing) (b : Beside)
    (cancels : ℕ → CancelPlace) (p : ℕ) (n : Node) (takes sends : List (ℕ × Frame)) (cancel : Asked)
    (x : ℕ) (of_x : cancel.caller ≡ x) (from to : CancelPlace)
    (low : 1 ≤ p) (high : p ≤ node_count script) (holds : HoldsOwing script w hand owes b)
    (c : Changes script p w w' n takes sends [])
    (t : CancelTravels x from to cancel w w' hand hand') (is_cancel : is_withdrawal cancel.call ≡ true)
    (s : NodeStays script w b p x n) (d : DirectoryStays (directory_of w) (directory_of w'))
    (taken : OnlyCancel cancel takes) (sent : OnlyCancel cancel sends)
    (may_be : AllByRecursion (λ s. MayBe script (is_born_in w) s.0 p s.1) sends)
    (to_others : AllByRecursion (λ s. s.0 ≢ p) sends)
    (others : (y : ℕ) → y ≢ x → cancels y ≡ b.cancel y)
    (owed : OthersOwed w w' hand hand' owes owes' b (record b { cancel = cancels }) x)
    (whole : WholeStays w w' owes owes' b (record b { cancel = cancels })) where
  abbrev after : Beside
  after = record b { cancel = cancels }

  -- a test that drops the withdrawal keeps the same of what is held, and of the hand
  held-still : (test : Held → Bool) → test (Request cancel) ≡ false → (name : Name)
      → filter test (held_for (directory_of w') name) ≡ filter test (held_for (directory_of w) name)
  held-still test fails name = sym (dropped-stays _ _ (Request cancel) _ _ test fails (t.lists name))

  hand-still : (test : Held → Bool) → test (Request cancel) ≡ false → filter test hand' ≡ filter test hand
  hand-still test fails = sym (dropped-stays _ _ (Request cancel) _ _ test fails t.hands)

  of-another : (y : ℕ) → y ≢ x → is_item_of y (Request cancel) ≡ false
  of-another y other = ne_eqb cancel.caller y (λ e. other (sym e ∙ of_x))

  and-false : (a b : Bool) → b ≡ false → (a && b) ≡ false
  and-false true b e = e
  and-false false b e = refl

  is-no-call : (y : ℕ) → is_item_about y (Request cancel) ≡ false
  is-no-call y = and-false (nat_eq cancel.caller y) _ (ap not is_cancel)

  -- it is a frame about no call
  no-call-in : (y : ℕ) (to_y : ℕ) (pairs : List (ℕ × Frame)) → OnlyCancel cancel pairs
      → AllByRecursion (λ s. is_about y to_y s.0 s.1 ≡ false) pairs
  no-call-in y to_y pairs only = all-weaker (λ s e. ap (is_about y to_y s.0) e) pairs only

  no-call-out : (y : ℕ) (from_y : ℕ) (pairs : List (ℕ × Frame)) → OnlyCancel cancel pairs
      → AllByRecursion (λ s. is_about y s.0 from_y s.1 ≡ false) pairs
  no-call-out y from_y pairs only = all-weaker (λ s e. ap (is_about y s.0 from_y) e) pairs only

  no-cancel-in : (y : ℕ) → y ≢ x → (pairs : List (ℕ × Frame)) → OnlyCancel cancel pairs
      → AllByRecursion (λ s. is_cancel_of y s.1 ≡ false) pairs
  no-cancel-in y other pairs only =
      all-weaker (λ s e. ap (is_cancel_of y) e ∙ ne_eqb cancel.caller y (λ g. other (sym g ∙ of_x))) pairs only

  same-under-way : (y : ℕ) → under_way_at w' y ≡ under_way_at w y
  same-under-way y =
      elim (cases_eq y p) [
        | inl e ↦
            subst (λ z. under_way_at w' z ≡ under_way_at w z) (sym e)
            (ap (λ (m : Node). m.caller.under_way) c.here ∙ ap (λ (a : Caller). a.under_way) s.caller)
        | inr other ↦ ap (λ (m : Node). m.caller.under_way) (c.others y other)
      ]

  leaves-whole : LeavesWhole w w' b after
  leaves-whole =
      record {
        journal_is = c.journal ∙ append-nil w.journal;
        lines_are = refl;
        kernel_is = refl;
        whole_is = refl;
        pids_are = λ y. refl;
        bodies_are = λ name. refl;
        marks_still = λ y a lives h. subst (λ u. HasMarks (b.call y) u a) (sym (same-under-way y)) h;
      }

  move : IsCallMove script w w' hand hand' owes owes' b after p n takes sends x
  move =
      record {
        stage = s.stage;
        under_way = λ left. ap (λ (a : Caller). a.under_way) s.caller;
        own = λ other. record {
          number = s.number;
          pid = s.pid;
          stage = s.stage;
          caller = s.caller ∙ ap (λ noted. record (node_of w p).caller { noted = noted }) (s.unnoted other);
          leases = s.leases;
        };
        queue_keys = s.queue_keys;
        set_keys = s.set_keys;
        directory = record {
          partings_are = d.partings_are;
          known_still = λ name known. d.known_are name ∙ known;
          held_of_others = λ y other name. held-still (is_item_of y) (of-another y other) name;
          parcels_were = λ pid parcel. parcel-was _ _ cancel _ _ parcel (t.lists (Proc pid));
          leads = d.leads;
        };
        node = s.holds;
        deeds = λ pid. refl;
        calls = λ y other. refl;
        hand_of_others = λ y other. hand-still (is_item_of y) (of-another y other);
        parcels_at_hand = λ parcel. parcel-was _ _ cancel _ _ parcel t.hands;
        whole = whole leaves-whole;
        waiters_of_others = λ y other name. refl;
        cancel_of_others = others;
        owed_of_others = owed;
        plain_taken = all-weaker (λ s e. ap is_plain e) takes taken;
        plain_sent = all-weaker (λ s e. ap is_plain e) sends sent;
        no_birth_taken = all-weaker (λ s e. ap is_checkpoint e) takes taken;
        no_birth_sent = all-weaker (λ s e. ap is_checkpoint e) sends sent;
        of_no_other = λ y other. no-call-in y p takes taken;
        sent_of_no_other = λ y other. no-call-out y p sends sent;
        no_cancel_taken = λ y other. no-cancel-in y other takes taken;
        no_cancel_sent = λ y other. no-cancel-in y other sends sent;
        may_be_sent = may_be;
        to_others = to_others;
      }

  -- the same nodes are born
  pub travel-born : IsMore (is_born_in w) (is_born_in w')
  travel-born = still-born script p w w' n takes sends [] c (λ h. ap is_born_stage s.stage ∙ h)

  -- the call is seen the same but for the note
  call-seen : (noted : Bool) → (node_of w' x).caller ≡ record (node_of w x).caller { noted = noted }
      → SameCall (noted_as (call_sight w hand b x) noted) (call_sight w' hand' after x)
  call-seen noted caller =
      record {
        number = sym (read-same script p w w' n takes sends [] c (λ (m : Node). m.number) s.number x);
        pid = sym (read-same script p w w' n takes sends [] c (λ (m : Node). m.pid) s.pid x);
        stage = sym (read-same script p w w' n takes sends [] c (λ (m : Node). m.stage) s.stage x);
        caller = sym caller;
        leases = sym (read-same script p w w' n takes sends [] c (λ (m : Node). m.leases) s.leases x);
        place = refl;
        alive = refl;
        call = refl;
        frames_about = λ to sender. sym (made-same script p w w' n takes sends [] c
            (λ t s fs. filter (is_about x t s) fs)
            (λ t s. filter-is-list-map (is_about x t s))
            (all-weaker (λ s e. not-about x p s.0 s.1 e) takes (no-call-in x p takes taken))
            (all-weaker (λ s e. not-about x s.0 p s.1 e) sends (no-call-out x p sends sent)) to sender);
        held = λ name. sym (held-still (is_item_about x) (is-no-call x) name);
        hand = sym (hand-still (is_item_about x) (is-no-call x));
        waiters = λ name. refl;
      }

  caller-now : (noted : Bool) × ((node_of w' x).caller ≡ record (node_of w x).caller { noted = noted })
  caller-now =
      elim (cases_eq x p) [
        | inl e ↦ (
          s.noted,
          subst (λ y. (node_of w' y).caller ≡ record (node_of w y).caller { noted = s.noted }) (sym e)
              (ap (λ (m : Node). m.caller) c.here ∙ s.caller),
        )
        | inr other ↦ ((node_of w x).caller.noted, ap (λ (m : Node). m.caller) (c.others x other))
      ]

  -- all holds of the call
  pub call-travels : CallHolds script x (is_born_in w) (call_sight w hand b x)
      → CallHolds script x (is_born_in w') (call_sight w' hand' after x)
  call-travels h =
      call-stays script x (is_born_in w) (is_born_in w') (noted_as (call_sight w hand b x) caller-now.0)
      (call_sight w' hand' after x) travel-born (call-seen caller-now.0 caller-now.1)
      (call-noted script x (is_born_in w) (call_sight w hand b x) caller-now.0 h)

  no-lease-in : (kind : Kind) (pairs : List (ℕ × Frame)) → OnlyCancel cancel pairs
      → AllByRecursion (λ s. lease_in kind s.1 ≡ []) pairs
  no-lease-in kind pairs only = all-weaker (λ s e. ap (lease_in kind) e) pairs only

  -- All holds after it, where it holds of the withdrawal and of the names.
  pub travel-keeps : 1 ≤ x → x ≤ node_count script → CancelIf x owes' (cancel_sight w' hand' after x)
      → ((name : Name) → NameHolds script b.pids (is_born_in w') name (name_sight script w' hand' after name))
      → HoldsOwing script w' hand' owes' after
  travel-keeps low_x high_x own names =
      call-move-keeps script w w' hand hand' owes owes' b after p n takes sends [] x low high holds c move
      (call-travels (holds.calls x low_x high_x)) own names
      (λ kind. kind-stays (is_born_in w) (is_born_in w') _ _ travel-born
      (kind-left-alone script p w w' n takes sends [] c b.kernel b.kernel kind (λ number. refl)
      (ap (λ ls. for_kind ls kind) s.leases) (d.ranges_are kind) (no-lease-in kind takes taken)
      (no-lease-in kind sends sent)) (holds.kinds kind))
      (λ kind. few-still script p w w' n takes sends [] c b.call b.call kind refl (d.ranges_are kind) (λ y. refl)
      (holds.few kind))
