-- An event, or a part of one, that carries out one call: it has a line in the history, and the call moves; no process
-- comes to life or to its end. What is left to show is that call and its withdrawal, the names, the numbers that may be
-- new, the keys, and the node at work.
use Rattle.std.proofs.Common.{◌≡◌, ◌≢◌, ℕ, ◌+◌, ◌≤◌, Bool, true, false, ◌&&◌, List, [], length, sum_by, Contains, filter, flat_map, Some, is_none, refl, ap, sym, subst, ◌∙◌, inl, inr, arith}
use Rattle.std.specs.List.{AllByRecursion}
use Rattle.std.proofs.lemmas.Bool.{cases_eq, false≢true}
use Rattle.std.proofs.lemmas.List.{length-append}
use Rattle.pico_base.specs.declared.call.Call.{Call}
use Rattle.pico_base.specs.declared.numbers.Kind.{Kind}
use Rattle.pico_base.specs.declared.numbers.Name.{Name}
use Rattle.pico_base.specs.declared.numbers.Name.TheVariants.{Proc}
use Rattle.pico_base.specs.declared.reply.Entry.{Entry}
use Rattle.pico_base.specs.declared.script.Script.{Script}
use Rattle.rpc_frame.specs.declared.deed.Parcel.{Parcel}
use Rattle.rpc_frame.specs.declared.frame.Frame.{Frame}
use Rattle.kernel_model.specs.Kernel.{Kernel, living_at}
use Rattle.kernel_model.specs.Fitting.{Places}
use Rattle.entry_laws.specs.Entering.{HasHistory, is_used_name}
use Rattle.waiting_model.specs.Calls.{may_park, waits_at}
use Rattle.node_model.specs.declared.held.Held.{Held}
use Rattle.node_model.specs.declared.held.Held.TheVariants.{Ending}
use Rattle.node_model.specs.Kinds.{for_kind, is_object}
use Rattle.node_model.specs.Bodies.{body_in, waiters_of}
use Rattle.node_model.specs.Directory.{held_for, maker, stays}
use Rattle.world_model.specs.Node.{Node, Stage, Unborn, Left}
use Rattle.world_model.specs.World.{World, numbers, node_count}
use Rattle.world_laws.specs.Places.{CallPlace, DeedPlace, InCheckpoint, Beside}
use Rattle.world_laws.specs.Sights.{node_of, frames_to, directory_of, stage_of, is_born_in, is_born_stage}
use Rattle.world_laws.specs.Plays.{plays}
use Rattle.world_laws.specs.Names.{NameHolds, name_sight, forker, range_steps_of}
use Rattle.world_laws.specs.Callers.{CallHolds, call_sight, is_about, is_waiter_of}
use Rattle.world_laws.specs.Cancels.{CancelIf, LeadsNowhere, Owing, cancel_sight, is_cancel_of}
use Rattle.world_laws.specs.Wholes.{WholeIf}
use Rattle.world_laws.specs.Ways.{way_sight, knows_parent, under_way_of, IsParcelIn, left as left_in, sent as sent_in, kept as kept_in, at_hand}
use Rattle.world_laws.specs.Ranges.{KindHolds, kind_sight, FewRanges, KeysHold, has_lease, leases_on_way, one_for}
use Rattle.world_laws.specs.Families.{NodeHolds, FamilyHolds, IsAwaited, checkpoints_to}
use Rattle.world_laws.specs.Invariant.{HoldsOwing, MayBe, FramesFit, process_deed}
use Rattle.world_laws.proofs.Stays.{IsMore, node-born, may-be-born, call-stays, way-stays}
use Rattle.world_laws.proofs.Cancels.{SameCancel, cancel-left-alone, is_item_of}
use Rattle.world_laws.proofs.Changes.{Changes, still-born}
use Rattle.world_laws.proofs.Frames.{ArePlain, BringNoBirth, all-weaker, IsSameBut, plays-of-others, ranges-of-all-others}
use Rattle.world_laws.proofs.LeftAlone.{SameCaller, LeavesCall, call-left-alone, way-left-alone, parcel-was-there, sender-stays, family-left-alone, other-node-stays, frames-still-fit}
use Rattle.rule_laws.proofs.CallMoves.{SameButCall, call-items-same}
use Rattle.rule_laws.proofs.Nowhere.{nowhere-made, nowhere-unused, still-unknown}
use Rattle.rule_laws.proofs.own.Entries.{EntryLeaves, others-go-on, pids-after}
use Rattle.rule_laws.proofs.own.Others.{call-goes-on, family-after}

-- What stands beside the world afterwards: all may be other but the numbers of the nodes' processes.
abbrev pub entered_beside : Beside → Beside → Beside
entered_beside b b' = record b' { pids = b.pids }

-- What a rule shows of such an event at node p, with the call of node x: the line, and what it leaves of the kernel and
-- of
-- the places.
pub record IsEntryMove (script : Script) (w w' : World) (hand hand' : List Held) (owes owes' : Owing) (b b' : Beside)
    (p : ℕ) (n : Node) (takes sends : List (ℕ × Frame)) (x : ℕ) : Type 0 where
  pub entry : EntryLeaves b.kernel b.places (b.pids x) b'.kernel b'.places
  pub history : HasHistory script b'.lines b'.kernel b'.places
  pub keys : KeysHold (node_of w' 1).leader b'.kernel
  -- the caller's process was forked, and its node is born; processes whose Checkpoints are on their way keep their rows
  pub forked : b.pids x ≢ 0
  pub born : is_born_in w x ≡ true
  pub awaited : (q to : ℕ) → b.deed (Proc q) ≡ InCheckpoint to
      → body_in b'.kernel (Proc q) ≡ body_in b.kernel (Proc q)
  -- of the node
  pub stage : n.stage ≡ stage_of w p
  pub under_way : n.stage ≡ Left → n.caller.under_way ≡ under_way_of w p
  pub own : p ≢ x → SameCaller (node_of w p) n
  pub directory : SameButCall x (directory_of w) (directory_of w')
  pub node : NodeHolds script b.pids (is_born_in w) p n
  pub deeds : (pid : ℕ) → b'.deed (Proc pid) ≡ b.deed (Proc pid)
  pub calls : IsSameBut x b.call b'.call
  pub hand_of_others : (y : ℕ) → y ≢ x → filter (is_item_of y) hand' ≡ filter (is_item_of y) hand
  pub parcels_at_hand : (parcel : Parcel) → Contains hand' (Ending parcel) → Contains hand (Ending parcel)
  -- of those who wait, and of withdrawals
  pub whole : WholeIf owes w b → WholeIf owes' w' (entered_beside b b')
  pub waiters_of_others : (y : ℕ) → y ≢ x → (name : Name)
      → filter (is_waiter_of y) (waiters_of (b'.body name)) ≡ filter (is_waiter_of y) (waiters_of (b.body name))
  pub cancel_of_others : (y : ℕ) → y ≢ x → b'.cancel y ≡ b.cancel y
  pub owed_of_others : (y : ℕ) → y ≢ x
      → SameCancel (cancel_sight w hand b y) (cancel_sight w' hand' (entered_beside b b') y)
      → CancelIf y owes (cancel_sight w hand b y) → CancelIf y owes' (cancel_sight w' hand' (entered_beside b b') y)
  -- where a queue or set is made, the node whose number it has stays
  pub makers_stay : (name : Name) (node : ℕ) → is_used_name b.kernel name ≡ false → is_used_name b'.kernel name ≡ true
      → maker (directory_of w) name ≡ Some node → stays (directory_of w) node ≡ true
  -- of the frames
  pub plain_taken : ArePlain takes
  pub plain_sent : ArePlain sends
  pub no_birth_taken : BringNoBirth takes
  pub no_birth_sent : BringNoBirth sends
  pub of_no_other : (y : ℕ) → y ≢ x → AllByRecursion (λ s. is_about y p s.0 s.1 ≡ false) takes
  pub sent_of_no_other : (y : ℕ) → y ≢ x → AllByRecursion (λ s. is_about y s.0 p s.1 ≡ false) sends
  pub no_cancel_taken : (y : ℕ) → y ≢ x → AllByRecursion (λ s. is_cancel_of y s.1 ≡ false) takes
  pub no_cancel_sent : (y : ℕ) → y ≢ x → AllByRecursion (λ s. is_cancel_of y s.1 ≡ false) sends
  pub may_be_sent : AllByRecursion (λ s. MayBe script (is_born_in w) s.0 p s.1) sends
  pub to_others : AllByRecursion (λ s. s.0 ≢ p) sends

-- there are as few ranges as before where none was given out, also where the journal is longer
pub few-longer : (script : Script) (p : ℕ) (w w' : World) (n : Node) (takes sends : List (ℕ × Frame))
    (entries : List Entry) → Changes script p w w' n takes sends entries → (call call' : ℕ → CallPlace) (kind : Kind)
    → for_kind (directory_of w').ranges kind ≡ for_kind (directory_of w).ranges kind
    → ((y : ℕ) → has_lease kind (call' y) ≡ has_lease kind (call y)) → FewRanges script w call kind
    → FewRanges script w' call' kind
few-longer script p w w' n takes sends entries c call call' kind ranges same old =
    let was : length (for_kind (directory_of w).ranges kind) ≤ length w.journal + leases_on_way script call kind + 1 =
    old
    in let longer : length w'.journal ≡ length w.journal + length entries =
    ap length c.journal ∙ length-append w.journal entries
    in let many : length (for_kind (directory_of w').ranges kind) ≡ length (for_kind (directory_of w).ranges kind) =
    ap length ranges
    in let on_way : leases_on_way script call' kind ≡ leases_on_way script call kind =
    λ i. sum_by (λ y. one_for (same y i)) (numbers 1 (node_count script))
    in omega (arith, was, longer, many, on_way)

module _ (script : Script) (w w' : World) (hand hand' : List Held) (owes owes' : Owing) (b b' : Beside) (p : ℕ)
    (n : Node) (takes sends : List (ℕ × Frame)) (entries : List Entry) (x : ℕ) (low : 1 ≤ p)
    (high : p ≤ node_count script) (holds : HoldsOwing script w hand owes b)
    (c : Changes script p w w' n takes sends entries)
    (q : IsEntryMove script w w' hand hand' owes owes' b b' p n takes sends x) where
  abbrev after : Beside
  after = entered_beside b b'

  -- before, with the next kernel
  abbrev between : Beside
  between = record b { kernel = b'.kernel }

  abbrev next : Kernel
  next = b'.kernel

  abbrev places : Places
  places = b'.places

  entry : EntryLeaves b.kernel b.places (b.pids x) next places
  entry = q.entry

  directory : SameButCall x (directory_of w) (directory_of w')
  directory = q.directory

  -- another node has another process
  pub other-process : (y : ℕ) → y ≢ x → b.pids y ≢ b.pids x
  other-process y d e = d (sym (holds.pids.apart x y q.forked (sym e)))

  -- the same nodes are born
  pub entry-born : IsMore (is_born_in w) (is_born_in w')
  entry-born = still-born script p w w' n takes sends entries c (λ h. ap is_born_stage q.stage ∙ h)

  entry-nodes : (y : ℕ) → 1 ≤ y → y ≤ node_count script
      → NodeHolds script b.pids (is_born_in w') y (node_of w' y)
  entry-nodes y low_y high_y =
      elim (cases_eq y p) [
        | inr d ↦
            other-node-stays script p w w' n takes sends entries c b.pids (is_born_in w) (is_born_in w') y d
            entry-born (holds.nodes y low_y high_y)
        | inl e ↦
            subst (λ z. NodeHolds script b.pids (is_born_in w') z (node_of w' z)) (sym e)
            (subst (λ (m : Node). NodeHolds script b.pids (is_born_in w') p m) (sym c.here)
            (node-born script b.pids (is_born_in w) (is_born_in w') p n entry-born q.node))
      ]

  entry-frames : FramesFit script (is_born_in w') (frames_to w')
  entry-frames =
      frames-still-fit script p w w' n takes sends entries c entry-born holds.frames_fit
      (all-weaker (λ s. may-be-born script (is_born_in w) (is_born_in w') s.0 p s.1 entry-born) sends q.may_be_sent)
      q.to_others

  entry-other : (y : ℕ) → y ≢ x → LeavesCall w w' hand hand' between after p n y
  entry-other y d =
      record {
        own = λ e. q.own (λ g. d (e ∙ g));
        place_is = entry.places_stay (b.pids y) (other-process y d);
        alive_is = refl;
        call_is = q.calls y d;
        held_is = λ name. call-items-same y (held_for (directory_of w') name) (held_for (directory_of w) name)
            (directory.held_of_others y d name);
        hand_is = call-items-same y hand' hand (q.hand_of_others y d);
        waiters_are = q.waiters_of_others y d;
      }

  was-in : (parcel : Parcel) → IsParcelIn w' hand' parcel → IsParcelIn w' hand parcel
  was-in parcel (left_in y there) = left_in y there
  was-in parcel (sent_in y there) = sent_in y there
  was-in parcel (kept_in pid there) = kept_in pid there
  was-in parcel (at_hand there) = at_hand (q.parcels_at_hand parcel there)

  entry-calls : CallHolds script x (is_born_in w') (call_sight w' hand' after x)
      → (y : ℕ) → 1 ≤ y → y ≤ node_count script → CallHolds script y (is_born_in w') (call_sight w' hand' after y)
  entry-calls own y low_y high_y =
      elim (cases_eq y x) [
        | inl e ↦ subst (λ z. CallHolds script z (is_born_in w') (call_sight w' hand' after z)) (sym e) own
        | inr d ↦
            call-stays script y (is_born_in w) (is_born_in w') (call_sight w hand between y)
            (call_sight w' hand' after y) entry-born
            (call-left-alone script p w w' n takes sends entries c hand hand' between after y (entry-other y d)
            (q.of_no_other y d) (q.sent_of_no_other y d))
            (call-goes-on script y (is_born_in w) (call_sight w hand b y) (living_at next (b.pids y))
            (others-go-on b.kernel next b.places places (b.pids x) entry (b.pids y) (other-process y d))
            (holds.calls y low_y high_y))
      ]

  unborn-not : (stage : Stage) → is_born_stage stage ≡ true → stage ≡ Unborn → ⊥
  unborn-not stage born e = false≢true (sym (ap is_born_stage e) ∙ born)

  entry-families : (y : ℕ) → b.pids y ≢ 0
      → FamilyHolds script b.pids places next (process_deed b'.deed) (checkpoints_to script w' y) (stage_of w' y) y
  entry-families y forked =
      let old : FamilyHolds script b.pids b.places b.kernel (process_deed b.deed) (checkpoints_to script w y)
      (stage_of w y) y = holds.families y forked
      in family-left-alone script p w w' n takes sends entries c b.pids places next (process_deed b.deed)
      (process_deed b'.deed) y q.deeds (λ e. q.stage) q.no_birth_taken q.no_birth_sent
      (family-after script b.pids b.kernel next b.places places (b.pids x) entry (process_deed b.deed)
      (checkpoints_to script w y) (stage_of w y) y
      (λ to e. (
        q.awaited (b.pids y) to e,
        λ same. unborn-not (stage_of w x) q.born
            (ap (stage_of w) (holds.pids.apart x y q.forked (sym same))
            ∙ subst (λ (d : DeedPlace). IsAwaited (stage_of w y) d) e old.awaited),
      )) old)

  -- the withdrawals of others, once the names hold
  entry-cancels : ((name : Name)
      → NameHolds script b.pids (is_born_in w') name (name_sight script w' hand' after name))
      → CancelIf x owes' (cancel_sight w' hand' after x)
      → (y : ℕ) → 1 ≤ y → y ≤ node_count script → CancelIf y owes' (cancel_sight w' hand' after y)
  entry-cancels names own y low_y high_y =
      elim (cases_eq y x) [
        | inl e ↦ subst (λ z. CancelIf z owes' (cancel_sight w' hand' after z)) (sym e) own
        | inr d ↦
            q.owed_of_others y d
            (cancel-left-alone script p w w' n takes sends entries c hand hand' b after y
            (record {
              own = λ e. q.own (λ g. d (e ∙ g));
              call_is = q.calls y d;
              cancel_is = q.cancel_of_others y d;
              held_is = directory.held_of_others y d;
              hand_is = q.hand_of_others y d;
              nowhere = λ call is may l. record {
                node = l.node;
                is = q.calls y d ∙ l.is;
                leaves = ap is_none (directory.partings_are l.node) ∙ l.leaves;
                unknown = still-unknown script b.pids (is_born_in w') w' hand' after
                    (waits_at (node_of w y).pid call) (names (waits_at (node_of w y).pid call))
                    (not-made y low_y high_y call is may l (is_used_name next (waits_at (node_of w y).pid call)) refl);
              };
            }) (q.of_no_other y d) (q.sent_of_no_other y d) (q.no_cancel_taken y d) (q.no_cancel_sent y d))
            (holds.cancels y low_y high_y)
      ]
    where
      not-made : (y : ℕ) (low_y : 1 ≤ y) (high_y : y ≤ node_count script) (call : Call)
          (is : (node_of w y).caller.under_way ≡ Some call)
          (may : (may_park call && is_object (waits_at (node_of w y).pid call)) ≡ true)
          (l : LeadsNowhere (cancel_sight w hand b y) (waits_at (node_of w y).pid call)) → (used : Bool)
          → is_used_name next (waits_at (node_of w y).pid call) ≡ used
          → is_used_name next (waits_at (node_of w y).pid call) ≡ false
      not-made y low_y high_y call is may l false e = e
      not-made y low_y high_y call is may l true e =
          absurd
          (false≢true (sym l.leaves
          ∙ q.makers_stay (waits_at (node_of w y).pid call) l.node
          (nowhere-unused script w hand owes b holds y low_y high_y call is may l) e
          (nowhere-made script w hand owes b holds y low_y high_y call is may l)))

  -- All holds after it, where it holds for the call, the names and the numbers.
  pub entry-keeps : CallHolds script x (is_born_in w') (call_sight w' hand' after x)
      → CancelIf x owes' (cancel_sight w' hand' after x)
      → ((name : Name) → NameHolds script b.pids (is_born_in w') name (name_sight script w' hand' after name))
      → ((kind : Kind) → KindHolds (is_born_in w') (kind_sight w' next kind))
      → ((kind : Kind) → FewRanges script w' b'.call kind)
      → HoldsOwing script w' hand' owes' after
  entry-keeps own cancel names kinds few =
      record {
        shape = c.shape;
        history = q.history;
        whole = q.whole holds.whole;
        leading = directory.leads;
        pids = pids-after b.kernel next b.places places (b.pids x) entry script b.pids holds.pids;
        nodes = entry-nodes;
        frames_fit = entry-frames;
        names = names;
        calls = entry-calls own;
        cancels = entry-cancels names cancel;
        ways = λ y low_y high_y. way-stays script b.pids y (knows_parent script w b.pids y)
            (knows_parent script w' b.pids y) (way_sight w y) (way_sight w' y)
            (directory.known_still (Proc (b.pids (forker script y))))
            (way-left-alone script p w w' n takes sends entries c y (λ e. q.stage) (directory.partings_are y)
            q.plain_taken q.plain_sent) (holds.ways y low_y high_y);
        parcels = λ parcel there. sender-stays script p w w' n takes sends entries c b.pids parcel
            (λ left. (q.stage ∙ left, q.under_way (q.stage ∙ left)))
            (holds.parcels parcel
            (parcel-was-there script p w w' n takes sends entries c hand parcel q.plain_sent
            (λ pid. directory.parcels_were pid parcel) (was-in parcel there)));
        kinds = kinds;
        few = few;
        keys = q.keys;
        families = entry-families;
      }

  -- where no frame of the call is left in a stream, it doesn't matter for a name where it is
  pub steps-still : (used : Bool) (to : ℕ) → filter (is_about x to 1) (c.left to 1) ≡ [] → (name : Name)
      → plays used b'.call name (c.left to 1) ≡ plays used b.call name (c.left to 1)
  steps-still used to none name = plays-of-others used b.call b'.call x q.calls name to 1 (c.left to 1) none

  -- nor which calls were sent by range
  pub ranges-still : (used : Bool) (to : ℕ) → filter (is_about x to 1) (c.left to 1) ≡ [] → (name : Name)
      → flat_map (range_steps_of used b'.call name) (c.left to 1)
      ≡ flat_map (range_steps_of used b.call name) (c.left to 1)
  ranges-still used to none name = ranges-of-all-others used b.call b'.call x q.calls name to 1 (c.left to 1) none

  -- There are as few ranges as before where none was given out, and the journal is the longer.
  pub few-after : (kind : Kind) → for_kind (directory_of w').ranges kind ≡ for_kind (directory_of w).ranges kind
      → ((y : ℕ) → has_lease kind (b'.call y) ≡ has_lease kind (b.call y)) → FewRanges script w' b'.call kind
  few-after kind ranges same =
      few-longer script p w w' n takes sends entries c b.call b'.call kind ranges same (holds.few kind)
