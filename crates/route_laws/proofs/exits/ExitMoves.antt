-- An event that carries out an exit at a node: all holds after it, where it holds for the names and the calls.
use Rattle.std.proofs.Common.{◌≡◌, ◌≢◌, ℕ, ◌+◌, ◌≤◌, Bool, true, false, cond, List, [], ◌∷◌, length, sum_by, filter, refl, ap, sym, subst, ◌∙◌, inl, inr, arith, ◌++◌}
use Rattle.std.specs.List.{AllByRecursion}
use Rattle.std.proofs.lemmas.Bool.{cases_eq, false≢true}
use Rattle.std.proofs.lemmas.List.{length-append}
use Rattle.pico_base.specs.declared.call.Call.{Call}
use Rattle.pico_base.specs.declared.numbers.Kind.{Kind}
use Rattle.pico_base.specs.declared.numbers.Name.{Name}
use Rattle.pico_base.specs.declared.numbers.Name.TheVariants.{Proc}
use Rattle.pico_base.specs.declared.reply.Entry.{Entry}
use Rattle.pico_base.specs.declared.script.Script.{Script}
use Rattle.rpc_frame.specs.declared.deed.Parcel.{Parcel}
use Rattle.rpc_frame.specs.declared.frame.Frame.{Frame}
use Rattle.rpc_frame.specs.declared.frame.Frame.TheVariants as frames
use Rattle.number_maps.specs.Maps.{get, is_used, Numbered}
use Rattle.kernel_model.specs.Fitting.{Places}
use Rattle.kernel_model.specs.Kernel.{Kernel, Process, living_at}
use Rattle.waiting_model.specs.Kernel as whole_kernels
use Rattle.entry_laws.specs.Entering.{HasKeys}
use Rattle.entry_laws.proofs.Keys.{keys-kept}
use Rattle.key_table.specs.declared.Bound.{Bound}
use Rattle.node_model.specs.declared.held.Held.{Held}
use Rattle.node_model.specs.Kinds.{for_kind}
use Rattle.node_model.specs.Caller.{Caller}
use Rattle.node_model.specs.Directory.{is_known}
use Rattle.node_model.specs.Parcels.{ending_of}
use Rattle.world_model.specs.Node.{Node}
use Rattle.world_model.specs.World.{World, numbers, node_count, is_checkpoint}
use Rattle.world_laws.specs.Places.{DeedPlace, InTable, CallPlace, Beside, CancelPlace}
use Rattle.world_laws.specs.Sights.{node_of, frames_to, directory_of, stage_of, is_born_in, is_born_stage}
use Rattle.world_laws.specs.Names.{NameHolds, name_sight, forker}
use Rattle.world_laws.specs.Callers.{CallHolds, call_sight}
use Rattle.world_laws.specs.Ways.{way_sight, knows_parent, is_leaving_frame, is_recall_all, is_left_frame, IsParcelIn}
use Rattle.world_laws.specs.Ranges.{FewRanges, KeysHold, has_lease, leases_on_way, one_for, lease_in}
use Rattle.world_laws.specs.Families.{NodeHolds, FamilyHolds, IsWhereFor, checkpoints_to}
use Rattle.world_laws.specs.Invariant.{IsLeading, process_deed, HoldsOwing}
use Rattle.world_laws.specs.Deeds.{DeedsAreRead}
use Rattle.world_laws.proofs.Changes.{Changes, filter-is-list-map, made-same, still-born, read-same}
use Rattle.world_laws.proofs.Frames.{all-weaker}
use Rattle.world_laws.proofs.LeftAlone.{SameCaller, sender-stays, kind-left-alone, other-node-stays, frames-still-fit}
use Rattle.world_laws.proofs.Stays.{IsMore, SameWay, node-born, way-stays, kind-stays}
use Rattle.world_laws.specs.Cancels.{Owing, Wakes}
use Rattle.rule_laws.proofs.own.Others.{call-goes-on}
use Rattle.rule_laws.proofs.own.Bodies.{process_bodies}
use Rattle.route_laws.proofs.exits.DeedMoves.{ComesAsBefore}
use Rattle.route_laws.proofs.exits.Parcels.{HasParcel, parcel-forked, own-call, own-place}
use Rattle.route_laws.proofs.exits.EndLeaves.{EndLeaves, end-others, pids-after-end, family-after-end, ended-call}
use Rattle.route_laws.proofs.exits.Exits.{exit_is, next, places_then, exit_entry, exit-leaves, history-then, pid-is, end_row, parent_body, exit_line}
use Rattle.route_laws.proofs.exits.ExitDeeds.{deeds_after, rests-after}

-- an ExitTo is no other frame that the invariant looks for
abbrev pub is_exit : Frame → Bool
is_exit (frames.ExitTo parcel) = true
is_exit frame = false

not-test : (test : Frame → Bool) → ((parcel : Parcel) → test (frames.ExitTo parcel) ≡ false) → (frame : Frame)
    → is_exit frame ≡ true → filter test (frame ∷ []) ≡ []
not-test test none (frames.ExitTo parcel) h = ap (λ t. cond t (frames.ExitTo parcel ∷ []) []) (none parcel)
not-test test none frame h = absurd (false≢true h)

not-lease : (kind : Kind) (frame : Frame) → is_exit frame ≡ true → lease_in kind frame ≡ []
not-lease kind (frames.ExitTo parcel) h = refl
not-lease kind frame h = absurd (false≢true h)

-- what a rule shows of the node, the directory, and what it took, which can only be an ExitTo
pub record IsExitMove (script : Script) (w w' : World) (hand hand' : List Held) (b : Beside)
    (call : ℕ → CallPlace) (x : ℕ) (n : Node) (takes : List (ℕ × Frame)) : Type 0 where
  pub caller : SameCaller (node_of w x) n
  pub queue_keys : n.leader.queue_keys ≡ (node_of w x).leader.queue_keys
  pub set_keys : n.leader.set_keys ≡ (node_of w x).leader.set_keys
  pub node : NodeHolds script b.pids (is_born_in w) x n
  pub partings_are : (y : ℕ) → get (directory_of w').partings y ≡ get (directory_of w).partings y
  pub ranges_are : (kind : Kind) → for_kind (directory_of w').ranges kind ≡ for_kind (directory_of w).ranges kind
  pub known_still : (name : Name) → is_known (directory_of w) name ≡ true → is_known (directory_of w') name ≡ true
  pub leads : IsLeading (directory_of w')
  pub exits_taken : AllByRecursion (λ s. is_exit s.1 ≡ true) takes
  pub parcels_were : (q : Parcel) → IsParcelIn w' hand' q → IsParcelIn w hand q
  pub leases : (kind : Kind) (y : ℕ) → has_lease kind (call y) ≡ has_lease kind (b.call y)

module _ (script : Script) (w : World) (hand : List Held) {owes : Owing} (b : Beside)
    (holds : HoldsOwing script w hand owes b)
    (parcel : Parcel) (c : ℕ) (call : Call) (place : DeedPlace)
    (parcel_is : HasParcel script w b parcel c call place) (reads : DeedsAreRead b.kernel b.body) (x : ℕ)
    (parent_at : b.deed (Proc parcel.parent) ≡ InTable x) where
  abbrev k : Kernel
  k = b.kernel

  abbrev after : Kernel
  after = next script w hand b holds parcel c call place parcel_is reads x parent_at

  abbrev places_now : Places
  places_now = places_then script w hand b holds parcel c call place parcel_is reads x parent_at

  abbrev leaves : EndLeaves k b.places parcel.pid parcel.parent
      (end_row script w hand b holds parcel c call place parcel_is reads x parent_at)
      (parent_body script w hand b holds parcel c call place parcel_is reads x parent_at) (ending_of parcel.call) after
      places_now
  leaves = exit-leaves script w hand b holds parcel c call place parcel_is reads x parent_at

  pid-of : parcel.pid ≡ b.pids c
  pid-of = pid-is script w hand b holds parcel c call place parcel_is reads x parent_at

  -- ---- the calls, once the exit is in the history

  -- with the next kernel and places
  abbrev pub between : Beside
  between = record b { kernel = after; places = places_now }

  own-ended : CallHolds script c (is_born_in w) (call_sight w hand b c)
      → CallHolds script c (is_born_in w) (call_sight w hand between c)
  own-ended h =
      subst (λ p. CallHolds script c (is_born_in w)
      (record (call_sight w hand b c) { place = get places_now p; alive = living_at after p })) pid-of
      (ended-call k after b.places places_now parcel.pid parcel.parent _ _ _ leaves script c (is_born_in w)
      (call_sight w hand b c) (own-place script w hand b holds parcel c call place parcel_is) h call
      parcel_is.under_way (own-call script w hand b holds parcel c call place parcel_is))

  other-goes-on : (y : ℕ) → y ≢ c → CallHolds script y (is_born_in w) (call_sight w hand b y)
      → CallHolds script y (is_born_in w) (call_sight w hand between y)
  other-goes-on y other h =
      subst (λ p. CallHolds script y (is_born_in w)
      (record (call_sight w hand b y) { place = p; alive = living_at after (b.pids y) }))
      (sym (leaves.places_stay (b.pids y) apart))
      (call-goes-on script y (is_born_in w) (call_sight w hand b y) (living_at after (b.pids y))
      (end-others k after b.places places_now parcel.pid parcel.parent _ _ _ leaves (b.pids y) apart) h)
    where
      apart : b.pids y ≢ parcel.pid
      apart e =
          let pids = holds.pids
          in other (sym (pids.apart c y (parcel-forked script w hand b holds parcel c call place parcel_is)
          (sym pid-of ∙ sym e)))

  -- Each call holds with them: the one that ended its process has done so, and the others go on.
  pub calls-between : (y : ℕ) → 1 ≤ y → y ≤ node_count script
      → CallHolds script y (is_born_in w) (call_sight w hand between y)
  calls-between y low high =
      elim (cases_eq y c) [
        | inl e ↦
            subst (λ z. CallHolds script z (is_born_in w) (call_sight w hand between z)) (sym e)
            (own-ended (subst (λ z. CallHolds script z (is_born_in w) (call_sight w hand b z)) e
            (holds.calls y low high)))
        | inr d ↦ other-goes-on y d (holds.calls y low high)
      ]

  -- ---- the event

  module _ (moved : DeedPlace → DeedPlace) (stays_in : moved (InTable x) ≡ InTable x)
      (still : (d : DeedPlace) → ComesAsBefore d (moved d))
      (where_moved : (g : ℕ) (v : Process) (d : DeedPlace) → IsWhereFor g d v → IsWhereFor g (moved d) v)
      (calls : ℕ → CallPlace) (cancels : ℕ → CancelPlace) (whole : whole_kernels.Kernel) (w' : World)
      (hand' : List Held) (n : Node) (takes : List (ℕ × Frame))
      (changes : Changes script x w w' n takes []
      (exit_entry script w hand b holds parcel c call place parcel_is reads x parent_at ∷ []))
      (q : IsExitMove script w w' hand hand' b calls x n takes) where
    abbrev entries : List Entry
    entries = exit_entry script w hand b holds parcel c call place parcel_is reads x parent_at ∷ []

    -- what is beside the world then
    abbrev pub exit_beside : Beside
    exit_beside =
        record {
          lines = b.lines
              ++ exit_line script w hand b holds parcel c call place parcel_is reads x parent_at ∷ [];
          kernel = after;
          places = places_now;
          whole = whole;
          pids = b.pids;
          deed = deeds_after script w hand b holds parcel c call place parcel_is reads x parent_at moved stays_in still
              where_moved;
          call = calls;
          body = process_bodies after b.body;
          cancel = cancels;
        }

    same : SameCaller (node_of w x) n
    same = q.caller

    -- the same nodes are born
    pub exit-born : IsMore (is_born_in w) (is_born_in w')
    exit-born = still-born script x w w' n takes [] entries changes (λ h. ap is_born_stage same.stage ∙ h)

    stage-same : (y : ℕ) → stage_of w' y ≡ stage_of w y
    stage-same y = read-same script x w w' n takes [] entries changes (λ (m : Node). m.stage) same.stage y

    -- a test that no ExitTo passes keeps the same of each stream
    kept-same : (test : Frame → Bool) → ((p : Parcel) → test (frames.ExitTo p) ≡ false) → (to sender : ℕ)
        → filter test (frames_to w' to sender) ≡ filter test (frames_to w to sender)
    kept-same test none to sender =
        made-same script x w w' n takes [] entries changes (λ t s fs. filter test fs)
        (λ t s. filter-is-list-map test) (all-weaker (λ s. not-test test none s.1) takes q.exits_taken) tt to sender

    exit-nodes : (y : ℕ) → 1 ≤ y → y ≤ node_count script
        → NodeHolds script b.pids (is_born_in w') y (node_of w' y)
    exit-nodes y low high =
        elim (cases_eq y x) [
          | inr d ↦
              other-node-stays script x w w' n takes [] entries changes b.pids (is_born_in w) (is_born_in w') y d
              exit-born (holds.nodes y low high)
          | inl e ↦
              subst (λ z. NodeHolds script b.pids (is_born_in w') z (node_of w' z)) (sym e)
              (subst (λ (m : Node). NodeHolds script b.pids (is_born_in w') x m) (sym changes.here)
              (node-born script b.pids (is_born_in w) (is_born_in w') x n exit-born q.node))
        ]

    way-same : (y : ℕ) → SameWay (way_sight w y) (way_sight w' y)
    way-same y =
        record {
          stage = sym (stage-same y);
          parting = sym (q.partings_are y);
          leavings = sym (kept-same is_leaving_frame (λ p. refl) 1 y);
          recalls = sym (kept-same is_recall_all (λ p. refl) y 1);
          lefts = sym (kept-same is_left_frame (λ p. refl) 1 y);
        }

    exit-keys : KeysHold (node_of w' 1).leader after
    exit-keys =
        let keys : HasKeys (node_of w 1).leader.queue_keys (node_of w 1).leader.set_keys k = holds.keys
        in let e = exit_is script w hand b holds parcel c call place parcel_is reads x parent_at
        in let kept : HasKeys (node_of w 1).leader.queue_keys (node_of w 1).leader.set_keys after =
        keys-kept (node_of w 1).leader.queue_keys (node_of w 1).leader.set_keys k after e.keys keys
        in subst (λ (qs : Numbered Bound). HasKeys qs (node_of w' 1).leader.set_keys after)
        (sym (read-same script x w w' n takes [] entries changes (λ (m : Node). m.leader.queue_keys) q.queue_keys 1))
        (subst (λ (ss : Numbered Bound). HasKeys (node_of w 1).leader.queue_keys ss after)
        (sym (read-same script x w w' n takes [] entries changes (λ (m : Node). m.leader.set_keys) q.set_keys 1))
        kept)

    exit-few : (kind : Kind) → FewRanges script w' calls kind
    exit-few kind =
        let old : length (for_kind (directory_of w).ranges kind)
        ≤ length w.journal + leases_on_way script b.call kind + 1 = holds.few kind
        in let longer : length w'.journal ≡ length w.journal + length entries =
        ap length changes.journal ∙ length-append w.journal entries
        in let many : length (for_kind (directory_of w').ranges kind) ≡ length (for_kind (directory_of w).ranges kind) =
        ap length (q.ranges_are kind)
        in let on_way : leases_on_way script calls kind ≡ leases_on_way script b.call kind =
        λ i. sum_by (λ y. one_for (q.leases kind y i)) (numbers 1 (node_count script))
        in omega (arith, old, longer, many, on_way)

    exit-families : (y : ℕ) → b.pids y ≢ 0
        → FamilyHolds script b.pids places_now after (process_deed exit_beside.deed) (checkpoints_to script w' y)
        (stage_of w' y) y
    exit-families y forked =
        let pids = holds.pids
        in subst (λ s. FamilyHolds script b.pids places_now after (process_deed exit_beside.deed)
        (checkpoints_to script w' y) s y) (sym (stage-same y))
        (subst (λ fs. FamilyHolds script b.pids places_now after (process_deed exit_beside.deed) fs (stage_of w y) y)
        (sym (kept-same is_checkpoint (λ p. refl) y (forker script y)))
        (family-after-end k after b.places places_now parcel.pid parcel.parent _ _ _ leaves script b.pids c
        (process_deed b.deed) (process_deed exit_beside.deed)
        (rests-after script w hand b holds parcel c call place parcel_is reads x parent_at moved stays_in still
        where_moved) (checkpoints_to script w y) (stage_of w y) y forked pids.apart (holds.families y forked)))

    -- All holds after it, but for the kernel in which callers wait, and for withdrawals.
    pub exit-keeps : ((name : Name)
        → NameHolds script b.pids (is_born_in w') name (name_sight script w' hand' exit_beside name))
        → ((y : ℕ) → 1 ≤ y → y ≤ node_count script
        → CallHolds script y (is_born_in w') (call_sight w' hand' exit_beside y))
        → HoldsOwing script w' hand' Wakes exit_beside
    exit-keeps names calls_now =
        record {
          shape = changes.shape;
          history = history-then script w hand b holds parcel c call place parcel_is reads x parent_at;
          whole = tt;
          leading = q.leads;
          pids = pids-after-end k after b.places places_now parcel.pid parcel.parent _ _ _ leaves script b.pids
              holds.pids;
          nodes = exit-nodes;
          frames_fit = frames-still-fit script x w w' n takes [] entries changes exit-born holds.frames_fit tt tt;
          names = names;
          calls = calls_now;
          cancels = λ y low high. tt;
          ways = λ y low high. way-stays script b.pids y (knows_parent script w b.pids y)
              (knows_parent script w' b.pids y) (way_sight w y) (way_sight w' y)
              (q.known_still (Proc (b.pids (forker script y)))) (way-same y) (holds.ways y low high);
          parcels = λ p there. sender-stays script x w w' n takes [] entries changes b.pids p
              (λ left. (same.stage ∙ left, ap (λ (m : Caller). m.under_way) same.caller))
              (holds.parcels p (q.parcels_were p there));
          kinds = λ kind. kind-stays (is_born_in w) (is_born_in w') _ _ exit-born
              (kind-left-alone script x w w' n takes [] entries changes k after kind
              (λ number. ap (λ u. is_used u number) (leaves.used kind))
              (ap (λ m. for_kind m kind) same.leases) (q.ranges_are kind)
              (all-weaker (λ s. not-lease kind s.1) takes q.exits_taken) tt) (holds.kinds kind);
          few = exit-few;
          keys = exit-keys;
          families = exit-families;
        }
