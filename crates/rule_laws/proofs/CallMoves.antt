-- An event that moves one node's call, gives none a reply, and brings no process to life or to its end. What is left to
-- show is that call and its withdrawal, the names, the numbers that may be new, and the node at work.
use Rattle.std.proofs.Common.{◌≡◌, ◌≢◌, ℕ, ◌≤◌, Bool, true, false, ◌&&◌, not, List, [], Contains, filter, flat_map, nat_eq, is_none, refl, ap, sym, subst, ◌∙◌, inl, inr}
use Rattle.std.specs.List.{AllByRecursion}
use Rattle.std.proofs.lemmas.Bool.{cases_eq, false≢true}
use Rattle.pico_base.specs.declared.numbers.Kind.{Kind}
use Rattle.pico_base.specs.declared.numbers.Name.{Name}
use Rattle.pico_base.specs.declared.numbers.Name.TheVariants.{Proc}
use Rattle.pico_base.specs.declared.reply.Entry.{Entry}
use Rattle.pico_base.specs.declared.script.Script.{Script}
use Rattle.rpc_frame.specs.declared.deed.Parcel.{Parcel}
use Rattle.rpc_frame.specs.declared.frame.Frame.{Frame}
use Rattle.number_maps.specs.Maps.{get}
use Rattle.waiting_model.specs.Calls.{is_withdrawal, waits_at}
use Rattle.node_model.specs.declared.held.Held.{Held}
use Rattle.node_model.specs.declared.held.Held.TheVariants.{Request, Ending}
use Rattle.node_model.specs.Bodies.{waiters_of}
use Rattle.node_model.specs.Caller.{Caller}
use Rattle.node_model.specs.Directory.{Directory, held_for, is_known}
use Rattle.world_model.specs.Node.{Node, Left}
use Rattle.world_model.specs.World.{World, node_count}
use Rattle.world_laws.specs.Places.{Beside}
use Rattle.world_laws.specs.Sights.{node_of, frames_to, directory_of, stage_of, is_born_in, is_born_stage}
use Rattle.world_laws.specs.Plays.{plays}
use Rattle.world_laws.specs.Names.{NameHolds, name_sight, forker, range_steps_of}
use Rattle.world_laws.specs.Callers.{CallHolds, call_sight, is_about, is_item_about, is_waiter_of}
use Rattle.world_laws.specs.Cancels.{AStrike, CancelIf, CancelSight, Nothing, Owing, Wakes, cancel_sight, is_cancel_of}
use Rattle.world_laws.specs.Wholes.{WholeIf}
use Rattle.world_laws.specs.Ways.{way_sight, knows_parent, under_way_of, IsParcelIn, left as left_in, sent as sent_in, kept as kept_in, at_hand}
use Rattle.world_laws.specs.Ranges.{KindHolds, kind_sight, FewRanges, KeysHold}
use Rattle.world_laws.specs.Families.{NodeHolds}
use Rattle.world_laws.specs.Invariant.{HoldsOwing, IsLeading, MayBe, FramesFit, process_deed}
use Rattle.world_laws.proofs.Stays.{IsMore, node-born, may-be-born, call-stays, way-stays}
use Rattle.world_laws.proofs.Cancels.{SameCancel, cancel-left-alone, cancel-stays, is_item_of, still-owed}
use Rattle.world_laws.proofs.Changes.{Changes, read-same, still-born}
use Rattle.world_laws.proofs.Filtered.{kept-of-same}
use Rattle.world_laws.proofs.Frames.{ArePlain, BringNoBirth, all-weaker, IsSameBut, plays-of-others, ranges-of-all-others}
use Rattle.world_laws.proofs.LeftAlone.{SameCaller, LeavesCall, call-left-alone, way-left-alone, parcel-was-there, sender-stays, family-left-alone, other-node-stays, frames-still-fit}
use Rattle.rule_laws.proofs.Nowhere.{nowhere-unused, still-unknown}

and-first : (a b : Bool) → (a && b) ≡ true → a ≡ true
and-first true b h = refl
and-first false b h = absurd (false≢true h)

call-item-of : (y : ℕ) (item : Held) → is_item_about y item ≡ true → is_item_of y item ≡ true
call-item-of y (Request asked) h = and-first (nat_eq asked.caller y) (not (is_withdrawal asked.call)) h
call-item-of y (Ending parcel) h = absurd (false≢true h)

-- where the items of a node are the same, so are those of its call
pub call-items-same : (y : ℕ) (xs ys : List Held) → filter (is_item_of y) xs ≡ filter (is_item_of y) ys
    → filter (is_item_about y) xs ≡ filter (is_item_about y) ys
call-items-same y xs ys same = kept-of-same (is_item_about y) (is_item_of y) (call-item-of y) xs ys same

-- the directory has the same nodes that leave; what is known is known; and of what it holds only the items of the
-- call's
-- node change
pub record SameButCall (x : ℕ) (d d' : Directory) : Type 0 where
  pub partings_are : (y : ℕ) → get d'.partings y ≡ get d.partings y
  pub known_still : (name : Name) → is_known d name ≡ true → is_known d' name ≡ true
  pub held_of_others : (y : ℕ) → y ≢ x → (name : Name)
      → filter (is_item_of y) (held_for d' name) ≡ filter (is_item_of y) (held_for d name)
  pub parcels_were : (pid : ℕ) (parcel : Parcel) → Contains (held_for d' (Proc pid)) (Ending parcel)
      → Contains (held_for d (Proc pid)) (Ending parcel)
  pub leads : IsLeading d'

-- the same directory, as where the event isn't the leader's
pub same-but-call : (x : ℕ) (d d' : Directory) → d' ≡ d → IsLeading d → SameButCall x d d'
same-but-call x d d' e leads =
    record {
      partings_are = λ y. ap (λ (z : Directory). get z.partings y) e;
      known_still = λ name h. ap (λ z. is_known z name) e ∙ h;
      held_of_others = λ y other name. ap (λ z. filter (is_item_of y) (held_for z name)) e;
      parcels_were = λ pid parcel. subst (λ z. Contains (held_for z (Proc pid)) (Ending parcel)) e;
      leads = subst (λ (z : Directory). IsLeading z) (sym e) leads;
    }

-- What a rule shows of such an event at node p, with the call of node x. Beside the world deeds and calls may be
-- elsewhere, and bodies others, as where a call parks; what is in line stays.
abbrev pub moved_beside : Beside → Beside → Beside
moved_beside b b' = record b' { lines = b.lines; kernel = b.kernel; places = b.places; pids = b.pids }

pub record IsCallMove (script : Script) (w w' : World) (hand hand' : List Held) (owes owes' : Owing) (b b' : Beside)
    (p : ℕ) (n : Node) (takes sends : List (ℕ × Frame)) (x : ℕ) : Type 0 where
  pub stage : n.stage ≡ stage_of w p
  pub under_way : n.stage ≡ Left → n.caller.under_way ≡ under_way_of w p
  -- where the node isn't the caller, it has the same of its own call
  pub own : p ≢ x → SameCaller (node_of w p) n
  pub queue_keys : n.leader.queue_keys ≡ (node_of w p).leader.queue_keys
  pub set_keys : n.leader.set_keys ≡ (node_of w p).leader.set_keys
  pub directory : SameButCall x (directory_of w) (directory_of w')
  pub node : NodeHolds script b.pids (is_born_in w) p n
  pub deeds : (pid : ℕ) → b'.deed (Proc pid) ≡ b.deed (Proc pid)
  pub calls : IsSameBut x b.call b'.call
  pub hand_of_others : (y : ℕ) → y ≢ x → filter (is_item_of y) hand' ≡ filter (is_item_of y) hand
  pub parcels_at_hand : (parcel : Parcel) → Contains hand' (Ending parcel) → Contains hand (Ending parcel)
  -- of those who wait, and of withdrawals
  pub whole : WholeIf owes w b → WholeIf owes' w' (moved_beside b b')
  pub waiters_of_others : (y : ℕ) → y ≢ x → (name : Name)
      → filter (is_waiter_of y) (waiters_of (b'.body name)) ≡ filter (is_waiter_of y) (waiters_of (b.body name))
  pub cancel_of_others : (y : ℕ) → y ≢ x → b'.cancel y ≡ b.cancel y
  pub owed_of_others : (y : ℕ) → y ≢ x
      → SameCancel (cancel_sight w hand b y) (cancel_sight w' hand' (moved_beside b b') y)
      → CancelIf y owes (cancel_sight w hand b y) → CancelIf y owes' (cancel_sight w' hand' (moved_beside b b') y)
  -- of the frames
  pub plain_taken : ArePlain takes
  pub plain_sent : ArePlain sends
  pub no_birth_taken : BringNoBirth takes
  pub no_birth_sent : BringNoBirth sends
  pub of_no_other : (y : ℕ) → y ≢ x → AllByRecursion (λ s. is_about y p s.0 s.1 ≡ false) takes
  pub sent_of_no_other : (y : ℕ) → y ≢ x → AllByRecursion (λ s. is_about y s.0 p s.1 ≡ false) sends
  pub no_cancel_taken : (y : ℕ) → y ≢ x → AllByRecursion (λ s. is_cancel_of y s.1 ≡ false) takes
  pub no_cancel_sent : (y : ℕ) → y ≢ x → AllByRecursion (λ s. is_cancel_of y s.1 ≡ false) sends
  pub may_be_sent : AllByRecursion (λ s. MayBe script (is_born_in w) s.0 p s.1) sends
  pub to_others : AllByRecursion (λ s. s.0 ≢ p) sends

-- where its process has the same marks, a call that is seen the same keeps what holds of its withdrawal
pub cancel-if-same : (p : ℕ) (owes : Owing) (x y : CancelSight) → x.alive ≡ y.alive → SameCancel x y
    → CancelIf p owes x → CancelIf p owes y
cancel-if-same p Nothing x y marks same h =
    cancel-stays p Nothing Nothing x y same
    (still-owed p Nothing x y marks (ap (λ (c : Caller). c.under_way) same.caller) h) h
cancel-if-same p (AStrike q) x y marks same h =
    cancel-stays p (AStrike q) (AStrike q) x y same
    (still-owed p (AStrike q) x y marks (ap (λ (c : Caller). c.under_way) same.caller) h) h
cancel-if-same p Wakes x y marks same h = tt

module _ (script : Script) (w w' : World) (hand hand' : List Held) (owes owes' : Owing) (b b' : Beside) (p : ℕ)
    (n : Node) (takes sends : List (ℕ × Frame)) (entries : List Entry) (x : ℕ)
    (low : 1 ≤ p) (high : p ≤ node_count script)
    (holds : HoldsOwing script w hand owes b) (c : Changes script p w w' n takes sends entries)
    (q : IsCallMove script w w' hand hand' owes owes' b b' p n takes sends x) where
  abbrev after : Beside
  after = moved_beside b b'

  directory : SameButCall x (directory_of w) (directory_of w')
  directory = q.directory

  -- the same nodes are born
  pub move-born : IsMore (is_born_in w) (is_born_in w')
  move-born = still-born script p w w' n takes sends entries c (λ h. ap is_born_stage q.stage ∙ h)

  move-nodes : (y : ℕ) → 1 ≤ y → y ≤ node_count script
      → NodeHolds script b.pids (is_born_in w') y (node_of w' y)
  move-nodes y low_y high_y =
      elim (cases_eq y p) [
        | inr d ↦
            other-node-stays script p w w' n takes sends entries c b.pids (is_born_in w) (is_born_in w') y d move-born
            (holds.nodes y low_y high_y)
        | inl e ↦
            subst (λ z. NodeHolds script b.pids (is_born_in w') z (node_of w' z)) (sym e)
            (subst (λ (m : Node). NodeHolds script b.pids (is_born_in w') p m) (sym c.here)
            (node-born script b.pids (is_born_in w) (is_born_in w') p n move-born q.node))
      ]

  move-frames : FramesFit script (is_born_in w') (frames_to w')
  move-frames =
      frames-still-fit script p w w' n takes sends entries c move-born holds.frames_fit
      (all-weaker (λ s. may-be-born script (is_born_in w) (is_born_in w') s.0 p s.1 move-born) sends q.may_be_sent)
      q.to_others

  move-other : (y : ℕ) → y ≢ x → LeavesCall w w' hand hand' b after p n y
  move-other y d =
      record {
        own = λ e. q.own (λ g. d (e ∙ g));
        place_is = refl;
        alive_is = refl;
        call_is = q.calls y d;
        held_is = λ name. call-items-same y (held_for (directory_of w') name) (held_for (directory_of w) name)
            (directory.held_of_others y d name);
        hand_is = call-items-same y hand' hand (q.hand_of_others y d);
        waiters_are = q.waiters_of_others y d;
      }

  move-keys : KeysHold (node_of w' 1).leader b.kernel
  move-keys =
      let keys : KeysHold (node_of w 1).leader b.kernel = holds.keys
      in record {
        queues = λ key. ap (λ m. get m key)
            (read-same script p w w' n takes sends entries c (λ (m : Node). m.leader.queue_keys) q.queue_keys 1)
            ∙ keys.queues key;
        sets = λ key. ap (λ m. get m key)
            (read-same script p w w' n takes sends entries c (λ (m : Node). m.leader.set_keys) q.set_keys 1)
            ∙ keys.sets key;
      }

  was-in : (parcel : Parcel) → IsParcelIn w' hand' parcel → IsParcelIn w' hand parcel
  was-in parcel (left_in y there) = left_in y there
  was-in parcel (sent_in y there) = sent_in y there
  was-in parcel (kept_in pid there) = kept_in pid there
  was-in parcel (at_hand there) = at_hand (q.parcels_at_hand parcel there)

  move-calls : CallHolds script x (is_born_in w') (call_sight w' hand' after x)
      → (y : ℕ) → 1 ≤ y → y ≤ node_count script → CallHolds script y (is_born_in w') (call_sight w' hand' after y)
  move-calls own y low_y high_y =
      elim (cases_eq y x) [
        | inl e ↦ subst (λ z. CallHolds script z (is_born_in w') (call_sight w' hand' after z)) (sym e) own
        | inr d ↦
            call-stays script y (is_born_in w) (is_born_in w') (call_sight w hand b y)
            (call_sight w' hand' after y) move-born
            (call-left-alone script p w w' n takes sends entries c hand hand' b after y (move-other y d)
            (q.of_no_other y d) (q.sent_of_no_other y d)) (holds.calls y low_y high_y)
      ]

  -- the withdrawals of others, once the names hold
  move-cancels : ((name : Name) → NameHolds script b.pids (is_born_in w') name (name_sight script w' hand' after name))
      → CancelIf x owes' (cancel_sight w' hand' after x)
      → (y : ℕ) → 1 ≤ y → y ≤ node_count script → CancelIf y owes' (cancel_sight w' hand' after y)
  move-cancels names own y low_y high_y =
      elim (cases_eq y x) [
        | inl e ↦ subst (λ z. CancelIf z owes' (cancel_sight w' hand' after z)) (sym e) own
        | inr d ↦
            q.owed_of_others y d
            (cancel-left-alone script p w w' n takes sends entries c hand hand' b after y
            (record {
              own = λ e. q.own (λ g. d (e ∙ g));
              call_is = q.calls y d;
              cancel_is = q.cancel_of_others y d;
              held_is = directory.held_of_others y d;
              hand_is = q.hand_of_others y d;
              nowhere = λ call is may l. record {
                node = l.node;
                is = q.calls y d ∙ l.is;
                leaves = ap is_none (directory.partings_are l.node) ∙ l.leaves;
                unknown = still-unknown script b.pids (is_born_in w') w' hand' after
                    (waits_at (node_of w y).pid call) (names (waits_at (node_of w y).pid call))
                    (nowhere-unused script w hand owes b holds y low_y high_y call is may l);
              };
            }) (q.of_no_other y d) (q.sent_of_no_other y d) (q.no_cancel_taken y d) (q.no_cancel_sent y d))
            (holds.cancels y low_y high_y)
      ]

  -- All holds after it, where it holds for the call, the names and the numbers.
  pub call-move-keeps : CallHolds script x (is_born_in w') (call_sight w' hand' after x)
      → CancelIf x owes' (cancel_sight w' hand' after x)
      → ((name : Name) → NameHolds script b.pids (is_born_in w') name (name_sight script w' hand' after name))
      → ((kind : Kind) → KindHolds (is_born_in w') (kind_sight w' b.kernel kind))
      → ((kind : Kind) → FewRanges script w' b'.call kind)
      → HoldsOwing script w' hand' owes' after
  call-move-keeps own cancel names kinds few =
      record {
        shape = c.shape;
        history = holds.history;
        whole = q.whole holds.whole;
        leading = directory.leads;
        pids = holds.pids;
        nodes = move-nodes;
        frames_fit = move-frames;
        names = names;
        calls = move-calls own;
        cancels = move-cancels names cancel;
        ways = λ y low_y high_y. way-stays script b.pids y (knows_parent script w b.pids y)
            (knows_parent script w' b.pids y) (way_sight w y) (way_sight w' y)
            (directory.known_still (Proc (b.pids (forker script y))))
            (way-left-alone script p w w' n takes sends entries c y (λ e. q.stage) (directory.partings_are y)
            q.plain_taken q.plain_sent) (holds.ways y low_y high_y);
        parcels = λ parcel there. sender-stays script p w w' n takes sends entries c b.pids parcel
            (λ left. (q.stage ∙ left, q.under_way (q.stage ∙ left)))
            (holds.parcels parcel
            (parcel-was-there script p w w' n takes sends entries c hand parcel q.plain_sent
            (λ pid. directory.parcels_were pid parcel) (was-in parcel there)));
        kinds = kinds;
        few = few;
        keys = move-keys;
        families = λ y forked. family-left-alone script p w w' n takes sends entries c b.pids b.places b.kernel
            (process_deed b.deed) (process_deed b'.deed) y q.deeds (λ e. q.stage) q.no_birth_taken q.no_birth_sent
            (holds.families y forked);
      }

  -- where no frame of the call is left in a stream, it doesn't matter for a name where it is
  pub steps-still : (used : Bool) (to : ℕ) → filter (is_about x to 1) (c.left to 1) ≡ [] → (name : Name)
      → plays used b'.call name (c.left to 1) ≡ plays used b.call name (c.left to 1)
  steps-still used to none name = plays-of-others used b.call b'.call x q.calls name to 1 (c.left to 1) none

  -- nor which calls were sent by range
  pub ranges-still : (used : Bool) (to : ℕ) → filter (is_about x to 1) (c.left to 1) ≡ [] → (name : Name)
      → flat_map (range_steps_of used b'.call name) (c.left to 1)
      ≡ flat_map (range_steps_of used b.call name) (c.left to 1)
  ranges-still used to none name = ranges-of-all-others used b.call b'.call x q.calls name to 1 (c.left to 1) none
