-- An event that carries out no call, moves none, and brings no process to life or to its end. It moves deeds of queues
-- and sets, or tells the leader where a name is. What is left to show is the names, and the node at work.
use Rattle.std.proofs.Common.{◌≡◌, ◌≢◌, ℕ, ◌≤◌, true, false, List, [], Contains, filter, is_none, refl, ap, sym, subst, ◌∙◌, inl, inr, append-nil}
use Rattle.std.specs.List.{AllByRecursion}
use Rattle.std.proofs.lemmas.Bool.{cases_eq}
use Rattle.pico_base.specs.declared.numbers.Kind.{Kind}
use Rattle.pico_base.specs.declared.numbers.Name.{Name}
use Rattle.pico_base.specs.declared.numbers.Name.TheVariants.{Proc}
use Rattle.pico_base.specs.declared.script.Script.{Script}
use Rattle.rpc_frame.specs.declared.frame.Frame.{Frame}
use Rattle.number_maps.specs.Maps.{get}
use Rattle.waiting_model.specs.Calls.{waits_at}
use Rattle.node_model.specs.declared.held.Held.{Held}
use Rattle.node_model.specs.declared.held.Held.TheVariants.{Ending}
use Rattle.node_model.specs.Caller.{Caller}
use Rattle.node_model.specs.Kinds.{for_kind}
use Rattle.node_model.specs.Directory.{Directory, held_for, is_known}
use Rattle.world_model.specs.Node.{Node}
use Rattle.world_model.specs.World.{World, node_count}
use Rattle.world_laws.specs.Places.{DeedPlace, Beside}
use Rattle.world_laws.specs.Sights.{node_of, frames_to, directory_of, is_born_in, is_born_stage}
use Rattle.world_laws.specs.Names.{NameHolds, name_sight, forker}
use Rattle.world_laws.specs.Callers.{call_sight, is_about, is_item_about}
use Rattle.world_laws.specs.Cancels.{CancelIf, Owing, cancel_sight, is_cancel_of}
use Rattle.world_laws.specs.Wholes.{HasMarks, WholeIf, under_way_at}
use Rattle.world_laws.specs.Ways.{way_sight, knows_parent}
use Rattle.world_laws.specs.Ranges.{kind_sight, KeysHold}
use Rattle.world_laws.specs.Families.{NodeHolds}
use Rattle.world_laws.specs.Invariant.{HoldsOwing, IsLeading, MayBe, FramesFit, process_deed}
use Rattle.world_laws.proofs.Stays.{IsMore, node-born, may-be-born, call-stays, way-stays, kind-stays}
use Rattle.world_laws.proofs.Cancels.{cancel-left-alone, is_item_of}
use Rattle.world_laws.proofs.Changes.{Changes, read-same, still-born}
use Rattle.world_laws.proofs.Frames.{ArePlain, BringNoBirth, BringNoLease, all-weaker}
use Rattle.world_laws.proofs.LeftAlone.{SameCaller, LeavesCall, call-left-alone, way-left-alone, parcel-was-there, sender-stays, kind-left-alone, family-left-alone, other-node-stays, frames-still-fit, few-still}
use Rattle.world_laws.proofs.Wholes.{whole-left-alone}
use Rattle.rule_laws.proofs.CallMoves.{cancel-if-same}
use Rattle.rule_laws.proofs.Nowhere.{nowhere-unused, still-unknown}

-- the directory says the same but for where names are, and what it holds for them is the same
pub record SameButPlaces (d d' : Directory) : Type 0 where
  pub partings_are : (x : ℕ) → get d'.partings x ≡ get d.partings x
  pub ranges_are : (kind : Kind) → for_kind d'.ranges kind ≡ for_kind d.ranges kind
  pub known_still : (name : Name) → is_known d name ≡ true → is_known d' name ≡ true
  pub held_is : (name : Name) → held_for d' name ≡ held_for d name
  pub leads : IsLeading d'

-- the same directory, as where the event isn't the leader's
pub same-but-places : (d d' : Directory) → d' ≡ d → IsLeading d → SameButPlaces d d'
same-but-places d d' e leads =
    record {
      partings_are = λ x. ap (λ (y : Directory). get y.partings x) e;
      ranges_are = λ kind. ap (λ (y : Directory). for_kind y.ranges kind) e;
      known_still = λ name h. ap (λ y. is_known y name) e ∙ h;
      held_is = λ name. ap (λ y. held_for y name) e;
      leads = subst (λ (y : Directory). IsLeading y) (sym e) leads;
    }

-- what a rule shows of such an event at node p
pub record IsQuiet (script : Script) (w w' : World) (b : Beside) (deed : Name → DeedPlace) (p : ℕ) (n : Node)
    (takes sends : List (ℕ × Frame)) : Type 0 where
  pub caller : SameCaller (node_of w p) n
  pub queue_keys : n.leader.queue_keys ≡ (node_of w p).leader.queue_keys
  pub set_keys : n.leader.set_keys ≡ (node_of w p).leader.set_keys
  pub directory : SameButPlaces (directory_of w) (directory_of w')
  pub node : NodeHolds script b.pids (is_born_in w) p n
  -- processes' deeds are where they were
  pub deeds : (pid : ℕ) → deed (Proc pid) ≡ b.deed (Proc pid)
  -- of the frames
  pub plain_taken : ArePlain takes
  pub plain_sent : ArePlain sends
  pub no_birth_taken : BringNoBirth takes
  pub no_birth_sent : BringNoBirth sends
  pub no_lease_taken : BringNoLease takes
  pub no_lease_sent : BringNoLease sends
  pub of_no_call : (x : ℕ) → AllByRecursion (λ s. is_about x p s.0 s.1 ≡ false) takes
  pub sent_of_no_call : (x : ℕ) → AllByRecursion (λ s. is_about x s.0 p s.1 ≡ false) sends
  pub no_cancel_taken : (x : ℕ) → AllByRecursion (λ s. is_cancel_of x s.1 ≡ false) takes
  pub no_cancel_sent : (x : ℕ) → AllByRecursion (λ s. is_cancel_of x s.1 ≡ false) sends
  pub may_be_sent : AllByRecursion (λ s. MayBe script (is_born_in w) s.0 p s.1) sends
  pub to_others : AllByRecursion (λ s. s.0 ≢ p) sends

module _ (script : Script) (w w' : World) (hand : List Held) (owes : Owing) (b : Beside) (deed : Name → DeedPlace)
    (p : ℕ) (n : Node) (takes sends : List (ℕ × Frame)) (low : 1 ≤ p) (high : p ≤ node_count script)
    (holds : HoldsOwing script w hand owes b) (c : Changes script p w w' n takes sends [])
    (q : IsQuiet script w w' b deed p n takes sends) where
  abbrev after : Beside
  after = record b { deed = deed }

  same-caller : SameCaller (node_of w p) n
  same-caller = q.caller

  directory : SameButPlaces (directory_of w) (directory_of w')
  directory = q.directory

  -- the same nodes are born
  pub quiet-born : IsMore (is_born_in w) (is_born_in w')
  quiet-born =
      still-born script p w w' n takes sends [] c (λ h. ap is_born_stage same-caller.stage ∙ h)

  same-under-way : (x : ℕ) → under_way_at w' x ≡ under_way_at w x
  same-under-way x =
      read-same script p w w' n takes sends [] c (λ (m : Node). m.caller.under_way)
      (ap (λ (m : Caller). m.under_way) same-caller.caller) x

  quiet-whole : WholeIf owes w' after
  quiet-whole =
      whole-left-alone w w' b after owes
      (record {
        journal_is = c.journal ∙ append-nil w.journal;
        lines_are = refl;
        kernel_is = refl;
        whole_is = refl;
        pids_are = λ x. refl;
        bodies_are = λ name. refl;
        marks_still = λ x a lives. subst (λ o. HasMarks (b.call x) o a) (sym (same-under-way x));
      }) holds.whole

  quiet-nodes : (x : ℕ) → 1 ≤ x → x ≤ node_count script
      → NodeHolds script b.pids (is_born_in w') x (node_of w' x)
  quiet-nodes x low_x high_x =
      elim (cases_eq x p) [
        | inr d ↦
            other-node-stays script p w w' n takes sends [] c b.pids (is_born_in w) (is_born_in w') x d quiet-born
            (holds.nodes x low_x high_x)
        | inl e ↦
            subst (λ y. NodeHolds script b.pids (is_born_in w') y (node_of w' y)) (sym e)
            (subst (λ (m : Node). NodeHolds script b.pids (is_born_in w') p m) (sym c.here)
            (node-born script b.pids (is_born_in w) (is_born_in w') p n quiet-born q.node))
      ]

  quiet-frames : FramesFit script (is_born_in w') (frames_to w')
  quiet-frames =
      frames-still-fit script p w w' n takes sends [] c quiet-born holds.frames_fit
      (all-weaker
      (λ s. may-be-born script (is_born_in w) (is_born_in w') s.0 p s.1 quiet-born)
      sends q.may_be_sent)
      q.to_others

  quiet-call : (x : ℕ) → LeavesCall w w' hand hand b after p n x
  quiet-call x =
      record {
        own = λ e. same-caller;
        place_is = refl;
        alive_is = refl;
        call_is = refl;
        held_is = λ name. ap (filter (is_item_about x)) (directory.held_is name);
        hand_is = refl;
        waiters_are = λ name. refl;
      }

  quiet-keys : KeysHold (node_of w' 1).leader b.kernel
  quiet-keys =
      let keys : KeysHold (node_of w 1).leader b.kernel = holds.keys
      in record {
        queues = λ key. ap (λ m. get m key)
            (read-same script p w w' n takes sends [] c (λ (m : Node). m.leader.queue_keys) q.queue_keys 1)
            ∙ keys.queues key;
        sets = λ key. ap (λ m. get m key)
            (read-same script p w w' n takes sends [] c (λ (m : Node). m.leader.set_keys) q.set_keys 1)
            ∙ keys.sets key;
      }

  -- the withdrawals, once the names hold
  quiet-cancels : ((name : Name)
      → NameHolds script b.pids (is_born_in w') name (name_sight script w' hand after name))
      → (x : ℕ) → 1 ≤ x → x ≤ node_count script → CancelIf x owes (cancel_sight w' hand after x)
  quiet-cancels names x low_x high_x =
      cancel-if-same x owes (cancel_sight w hand b x) (cancel_sight w' hand after x) refl
      (cancel-left-alone script p w w' n takes sends [] c hand hand b after x
      (record {
        own = λ e. same-caller;
        call_is = refl;
        cancel_is = refl;
        held_is = λ name. ap (filter (is_item_of x)) (directory.held_is name);
        hand_is = refl;
        nowhere = λ call is may l. record {
          node = l.node;
          is = l.is;
          leaves = ap is_none (directory.partings_are l.node) ∙ l.leaves;
          unknown = still-unknown script b.pids (is_born_in w') w' hand after (waits_at (node_of w x).pid call)
              (names (waits_at (node_of w x).pid call))
              (nowhere-unused script w hand owes b holds x low_x high_x call is may l);
        };
      }) (q.of_no_call x) (q.sent_of_no_call x) (q.no_cancel_taken x) (q.no_cancel_sent x))
      (holds.cancels x low_x high_x)

  -- All holds after it, where it holds for the names.
  pub quiet-keeps : ((name : Name)
      → NameHolds script b.pids (is_born_in w') name (name_sight script w' hand after name))
      → HoldsOwing script w' hand owes after
  quiet-keeps names =
      record {
        shape = c.shape;
        history = holds.history;
        whole = quiet-whole;
        leading = directory.leads;
        pids = holds.pids;
        nodes = quiet-nodes;
        frames_fit = quiet-frames;
        names = names;
        calls = λ x low_x high_x. call-stays script x (is_born_in w) (is_born_in w') (call_sight w hand b x)
            (call_sight w' hand after x) quiet-born
            (call-left-alone script p w w' n takes sends [] c hand hand b after x (quiet-call x) (q.of_no_call x)
            (q.sent_of_no_call x)) (holds.calls x low_x high_x);
        cancels = quiet-cancels names;
        ways = λ x low_x high_x. way-stays script b.pids x (knows_parent script w b.pids x)
            (knows_parent script w' b.pids x) (way_sight w x) (way_sight w' x)
            (directory.known_still (Proc (b.pids (forker script x))))
            (way-left-alone script p w w' n takes sends [] c x (λ e. same-caller.stage) (directory.partings_are x)
            q.plain_taken q.plain_sent) (holds.ways x low_x high_x);
        parcels = λ parcel there. sender-stays script p w w' n takes sends [] c b.pids parcel
            (λ left. (
              same-caller.stage ∙ left,
              ap (λ (m : Caller). m.under_way) same-caller.caller,
            ))
            (holds.parcels parcel
            (parcel-was-there script p w w' n takes sends [] c hand parcel q.plain_sent
            (λ pid. subst (λ items. Contains items (Ending parcel)) (directory.held_is (Proc pid))) there));
        kinds = λ kind. kind-stays (is_born_in w) (is_born_in w') (kind_sight w b.kernel kind)
            (kind_sight w' b.kernel kind) quiet-born
            (kind-left-alone script p w w' n takes sends [] c b.kernel b.kernel kind (λ number. refl)
            (ap (λ m. for_kind m kind) same-caller.leases) (directory.ranges_are kind) (q.no_lease_taken kind)
            (q.no_lease_sent kind))
            (holds.kinds kind);
        few = λ kind. few-still script p w w' n takes sends [] c b.call b.call kind refl (directory.ranges_are kind)
            (λ x. refl) (holds.few kind);
        keys = quiet-keys;
        families = λ x forked. family-left-alone script p w w' n takes sends [] c b.pids b.places b.kernel
            (process_deed b.deed) (process_deed deed) x q.deeds
            (λ e. same-caller.stage) q.no_birth_taken q.no_birth_sent
            (holds.families x forked);
      }
