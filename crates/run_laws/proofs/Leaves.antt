-- A node other than the leader starts the call that ends its process: it leaves, and all holds as before.
use Rattle.std.proofs.Common.{◌≡◌, ◌≢◌, ℕ, ◌≤◌, Bool, true, false, if◌then◌else◌, List, [], ◌∷◌, ◌++◌, filter, Contains, None, refl, ap, sym, subst, ◌∙◌, inl, inr, arith, append-nil}
use Rattle.std.proofs.lemmas.Bool.{cases_eq, eq-eqb, ne_eqb}
use Rattle.pico_base.specs.declared.call.Home.TheVariants as homes
use Rattle.pico_base.specs.declared.numbers.Kind.{Kind}
use Rattle.pico_base.specs.declared.numbers.Name.TheVariants.{Proc}
use Rattle.pico_base.specs.declared.script.Event.TheVariants as events
use Rattle.pico_base.specs.declared.script.Script.{Script}
use Rattle.pico_base.specs.Home.{home_of}
use Rattle.rpc_frame.specs.declared.deed.Parcel.{Parcel}
use Rattle.rpc_frame.specs.declared.frame.Frame.{Frame}
use Rattle.rpc_frame.specs.declared.frame.Frame.TheVariants as frames
use Rattle.number_maps.specs.Maps.{get}
use Rattle.kernel_model.specs.Script.{IsSoundScript}
use Rattle.node_model.specs.declared.held.Held.TheVariants.{Ending}
use Rattle.node_model.specs.Directory.{Directory, held_for, is_known}
use Rattle.node_model.specs.Kinds.{for_kind}
use Rattle.world_model.specs.Node.{Leaving, Left, Living, Node, Stage, can_run}
use Rattle.world_model.specs.World.{World, node_count, is_checkpoint}
use Rattle.world_laws.specs.Places.{Beside, DeedPlace, Ends, call_in}
use Rattle.world_laws.specs.Sights.{directory_of, frames_to, is_born_in, node_of, stage_of}
use Rattle.world_laws.specs.Names.{forker}
use Rattle.world_laws.specs.Families.{FamilyHolds, IsAwaited, IsBorn, checkpoints_to}
use Rattle.world_laws.specs.Invariant.{Holds, IsLeading, process_deed}
use Rattle.world_laws.specs.Ranges.{FewRanges, KeysHold, KindHolds, has_lease, kind_sight}
use Rattle.world_laws.specs.Ways.{IsHere, IsParcelIn, Shows, Way, WaySight, at_hand, collected, gone, here, is_leaving_frame, is_left_frame, is_recall_all, kept as kept_in, knows_parent, left as left_in, over, sent as sent_in, tells, way_sight}
use Rattle.world_laws.proofs.Changes.{Changes, filter-is-list-map, frames_if, made-after, made-same, read-same, sent, stayed}
use Rattle.world_laws.proofs.LeftAlone.{family-left-alone, few-still, frames-still-fit, kind-left-alone, sender-stays, was-there}
use Rattle.world_laws.proofs.Stays.{IsMore, SameWay, kind-stays, way-stays}
use Rattle.world_laws.proofs.Steps.{run-steps}
use Rattle.rule_laws.proofs.own.Moved.{AfterRun, is_still}
use Rattle.rule_laws.proofs.own.OwnCases.{Keeps}
use Rattle.rule_laws.proofs.own.Runs.{Starts}
use Rattle.run_laws.proofs.LeavingNames.{leaving-name}
use Rattle.run_laws.proofs.LeavingStarts.{leaves-by-rule, leaving_beside, leaving_frame, leaving_node, leaving_sends, leaving_step, leaving_world, leaving-born, leaving-calls, leaving-cancels, leaving-changes, leaving-directory, leaving-nodes, leaving-whole}

living-not-left : (stage : Stage) → stage ≡ Living → stage ≡ Left → ⊥
living-not-left stage e h = absurd (cc)

living-not-leaving : (stage : Stage) → stage ≡ Living → stage ≡ Leaving → ⊥
living-not-leaving stage e h = absurd (cc)

-- the way of a process that makes calls
way-here : (script : Script) (pids : ℕ → ℕ) (c : ℕ) (knows : Bool) (x : WaySight) → x.stage ≡ Living
    → Way script pids c knows x → IsHere x
way-here script pids c knows x e (here h) = h
way-here script pids c knows x e (tells h) = absurd (living-not-leaving x.stage e h.stage)
way-here script pids c knows x e (collected h) = absurd (living-not-leaving x.stage e h.stage)
way-here script pids c knows x e (over h) = absurd (living-not-left x.stage e h.stage)
way-here script pids c knows x e (gone h) = absurd (living-not-left x.stage e h.stage)

module _ (script : Script) (sound : IsSoundScript script) (w : World) (b : Beside) (holds : Holds script w [] b) (p : ℕ)
    (low : 1 ≤ p) (high : p ≤ node_count script) (can : can_run (node_of w p) ≡ true) (s : Starts script w b p)
    (other : p ≢ 1) (home : home_of (node_of w p).pid s.call ≡ homes.Parent) where
  abbrev n : Node
  n = leaving_node script sound w b holds p low high can s other home

  abbrev frame : Frame
  frame = leaving_frame script sound w b holds p low high can s other home

  abbrev sends : List (ℕ × Frame)
  sends = leaving_sends script sound w b holds p low high can s other home

  abbrev next : World
  next = leaving_world script sound w b holds p low high can s other home

  abbrev moved : Beside
  moved = leaving_beside script sound w b holds p low high can s other home

  abbrev changes : Changes script p w next n [] sends []
  changes = leaving-changes script sound w b holds p low high can s other home

  same-there : directory_of next ≡ directory_of w
  same-there = leaving-directory script sound w b holds p low high can s other home

  more : IsMore (is_born_in w) (is_born_in next)
  more = leaving-born script sound w b holds p low high can s other home

  -- ---- the ways

  was-here : IsHere (way_sight w p)
  was-here =
      way-here script b.pids p (knows_parent script w b.pids p) (way_sight w p) s.stage
      (holds.ways p (omega (arith, low, other)) high)

  frame-is : frame ≡ frames.Leaving (b.pids p) (b.pids (forker script p)) (forker script p)
  frame-is =
      let birth : IsBorn script b.pids p (node_of w p).pid (node_of w p).parent (node_of w p).parent_node = s.birth
      in λ i. frames.Leaving (birth.pid_is i) (birth.parent_is other i) (birth.parent_node_is other i)

  leavings-now : filter is_leaving_frame (frames_to next 1 p) ≡ frame ∷ []
  leavings-now =
      let shown : Shows (way_sight w p) [] [] None = was-here.shows
      in made-after script p w next n [] sends [] changes (λ t q fs. filter is_leaving_frame fs)
      (λ t q. filter-is-list-map is_leaving_frame) 1 p
      ∙ ap (λ fs. fs ++ filter is_leaving_frame (sent p sends 1 p))
      (stayed script p w next n [] sends [] changes (λ t q fs. filter is_leaving_frame fs)
      (λ t q. filter-is-list-map is_leaving_frame) tt 1 p
      ∙ shown.has_leavings)
      ∙ ap (λ t. filter is_leaving_frame (frames_if t (frame ∷ []))) (eq-eqb p p refl)

  recalls-same : (y : ℕ) → filter is_recall_all (frames_to next y 1) ≡ filter is_recall_all (frames_to w y 1)
  recalls-same y =
      made-same script p w next n [] sends [] changes (λ t q fs. filter is_recall_all fs)
      (λ t q. filter-is-list-map is_recall_all) tt (refl, tt) y 1

  lefts-same : (y : ℕ) → filter is_left_frame (frames_to next 1 y) ≡ filter is_left_frame (frames_to w 1 y)
  lefts-same y =
      made-same script p w next n [] sends [] changes (λ t q fs. filter is_left_frame fs)
      (λ t q. filter-is-list-map is_left_frame) tt (refl, tt) 1 y

  way-tells : Way script b.pids p (knows_parent script next b.pids p) (way_sight next p)
  way-tells =
      let shown : Shows (way_sight w p) [] [] None = was-here.shows
      in tells
      (record {
        stage = ap (λ (m : Node). m.stage) changes.here;
        shows = record {
          has_leavings = leavings-now ∙ ap (λ f. f ∷ []) frame-is;
          has_recalls = recalls-same p ∙ shown.has_recalls;
          has_parting = ap (λ (d : Directory). get d.partings p) same-there ∙ shown.has_parting;
        };
        lefts = lefts-same p ∙ was-here.lefts;
      })

  leavings-elsewhere : (y : ℕ) → y ≢ p
      → filter is_leaving_frame (frames_to next 1 y) ≡ filter is_leaving_frame (frames_to w 1 y)
  leavings-elsewhere y d =
      made-after script p w next n [] sends [] changes (λ t q fs. filter is_leaving_frame fs)
      (λ t q. filter-is-list-map is_leaving_frame) 1 y
      ∙ ap (λ t. filter is_leaving_frame (changes.left 1 y) ++ filter is_leaving_frame (frames_if t (frame ∷ [])))
      (ne_eqb y p d)
      ∙ append-nil (filter is_leaving_frame (changes.left 1 y))
      ∙ stayed script p w next n [] sends [] changes (λ t q fs. filter is_leaving_frame fs)
      (λ t q. filter-is-list-map is_leaving_frame) tt 1 y

  way-same : (y : ℕ) → y ≢ p → SameWay (way_sight w y) (way_sight next y)
  way-same y d =
      record {
        stage = sym (ap (λ (m : Node). m.stage) (changes.others y d));
        parting = sym (ap (λ (z : Directory). get z.partings y) same-there);
        leavings = sym (leavings-elsewhere y d);
        recalls = sym (recalls-same y);
        lefts = sym (lefts-same y);
      }

  ways-now : (y : ℕ) → 2 ≤ y → y ≤ node_count script
      → Way script b.pids y (knows_parent script next b.pids y) (way_sight next y)
  ways-now y low_y high_y =
      elim (cases_eq y p) [
        | inl e ↦
            subst (λ z. Way script b.pids z (knows_parent script next b.pids z) (way_sight next z)) (sym e) way-tells
        | inr d ↦
            way-stays script b.pids y (knows_parent script w b.pids y) (knows_parent script next b.pids y)
            (way_sight w y) (way_sight next y)
            (λ h. ap (λ z. is_known z (Proc (b.pids (forker script y)))) same-there ∙ h) (way-same y d)
            (holds.ways y low_y high_y)
      ]

  -- ---- the parcels

  leaving-is-left : (parcel : Parcel) → frame ≡ frames.Left parcel → ⊥
  leaving-is-left parcel h = cc

  leaving-is-exit : (parcel : Parcel) → frame ≡ frames.ExitTo parcel → ⊥
  leaving-is-exit parcel h = cc

  parcel-was : (parcel : Parcel) → IsParcelIn next [] parcel → IsParcelIn w [] parcel
  parcel-was parcel (left_in y there) =
      elim (was-there script p w next n [] sends [] changes (λ t g. frame ≡ g) (refl, tt) 1 y (frames.Left parcel)
      there) [
        | inl old ↦ left_in y old
        | inr new ↦ absurd (leaving-is-left parcel new.1)
      ]
  parcel-was parcel (sent_in y there) =
      elim (was-there script p w next n [] sends [] changes (λ t g. frame ≡ g) (refl, tt) y 1 (frames.ExitTo parcel)
      there) [
        | inl old ↦ sent_in y old
        | inr new ↦ absurd (leaving-is-exit parcel new.1)
      ]
  parcel-was parcel (kept_in pid there) =
      kept_in pid (subst (λ d. Contains (held_for d (Proc pid)) (Ending parcel)) same-there there)
  parcel-was parcel (at_hand there) = at_hand there

  -- ---- the families

  checkpoints-same : checkpoints_to script next p ≡ checkpoints_to script w p
  checkpoints-same =
      made-same script p w next n [] sends [] changes (λ t q fs. filter is_checkpoint fs)
      (λ t q. filter-is-list-map is_checkpoint) tt (refl, tt) p (forker script p)

  own-family : b.pids p ≢ 0 → FamilyHolds script b.pids b.places b.kernel (process_deed b.deed)
      (checkpoints_to script next p) (stage_of next p) p
  own-family forked =
      let old : FamilyHolds script b.pids b.places b.kernel (process_deed b.deed) (checkpoints_to script w p)
      (stage_of w p) p = holds.families p forked
      in subst (λ stage. FamilyHolds script b.pids b.places b.kernel (process_deed b.deed)
      (checkpoints_to script next p) stage p) (sym (ap (λ (m : Node). m.stage) changes.here))
      (subst (λ fs. FamilyHolds script b.pids b.places b.kernel (process_deed b.deed) fs Leaving p)
      (sym checkpoints-same)
      (record {
        process = old.process;
        is = old.is;
        child = old.child;
        where_it_is = old.where_it_is;
        with_parent = old.with_parent;
        checkpoint = old.checkpoint;
        fresh = old.fresh;
        awaited = subst (λ (d : DeedPlace). IsAwaited Leaving d) (sym s.deed) tt;
        children = old.children;
      }))

  families-now : (y : ℕ) → b.pids y ≢ 0 → FamilyHolds script b.pids b.places b.kernel (process_deed b.deed)
      (checkpoints_to script next y) (stage_of next y) y
  families-now y forked =
      elim (cases_eq y p) [
        | inl e ↦
            subst (λ z. FamilyHolds script b.pids b.places b.kernel (process_deed b.deed)
            (checkpoints_to script next z) (stage_of next z) z) (sym e)
            (own-family (λ none. forked (ap b.pids e ∙ none)))
        | inr d ↦
            family-left-alone script p w next n [] sends [] changes b.pids b.places b.kernel (process_deed b.deed)
            (process_deed b.deed) y (λ pid. refl) (λ e. absurd (d e)) tt (refl, tt) (holds.families y forked)
      ]

  -- ---- numbers and keys

  numbers-now : (kind : Kind) → KindHolds (is_born_in next) (kind_sight next b.kernel kind)
  numbers-now kind =
      kind-stays (is_born_in w) (is_born_in next) _ _ more
      (kind-left-alone script p w next n [] sends [] changes b.kernel b.kernel kind (λ number. refl) refl
      (ap (λ (d : Directory). for_kind d.ranges kind) same-there) tt (refl, tt)) (holds.kinds kind)

  lease-same : (kind : Kind) (y : ℕ) → has_lease kind (call_in b.call p Ends y) ≡ has_lease kind (b.call y)
  lease-same kind y =
      elim (cases_eq p y) [
        | inl e ↦
            ap (λ t. has_lease kind (if t then Ends else b.call y)) (eq-eqb p y e)
            ∙ sym (subst (λ z. has_lease kind (b.call z) ≡ false) e (ap (has_lease kind) s.idle))
        | inr d ↦ ap (λ t. has_lease kind (if t then Ends else b.call y)) (ne_eqb p y d)
      ]

  few-now : (kind : Kind) → FewRanges script next moved.call kind
  few-now kind =
      few-still script p w next n [] sends [] changes b.call moved.call kind refl
      (ap (λ (d : Directory). for_kind d.ranges kind) same-there) (lease-same kind) (holds.few kind)

  keys-now : KeysHold (node_of next 1).leader b.kernel
  keys-now =
      let keys : KeysHold (node_of w 1).leader b.kernel = holds.keys
      in record {
        queues = λ key. ap (λ m. get m key)
            (read-same script p w next n [] sends [] changes (λ (m : Node). m.leader.queue_keys) refl 1)
            ∙ keys.queues key;
        sets = λ key. ap (λ m. get m key)
            (read-same script p w next n [] sends [] changes (λ (m : Node). m.leader.set_keys) refl 1)
            ∙ keys.sets key;
      }

  -- ---- the whole

  leaving-holds : Holds script next [] moved
  leaving-holds =
      record {
        shape = changes.shape;
        history = holds.history;
        whole = leaving-whole script sound w b holds p low high can s other home;
        leading = subst (λ (d : Directory). IsLeading d) (sym same-there) holds.leading;
        pids = holds.pids;
        nodes = leaving-nodes script sound w b holds p low high can s other home;
        frames_fit = frames-still-fit script p w next n [] sends [] changes more holds.frames_fit (refl, tt)
            ((λ e. other (sym e)), tt);
        names = leaving-name script sound w b holds p low high can s other home;
        calls = leaving-calls script sound w b holds p low high can s other home;
        cancels = leaving-cancels script sound w b holds p low high can s other home;
        ways = ways-now;
        parcels = λ parcel there. sender-stays script p w next n [] sends [] changes b.pids parcel
            (λ left. absurd (living-not-left (stage_of w p) s.stage left))
            (holds.parcels parcel (parcel-was parcel there));
        kinds = numbers-now;
        few = few-now;
        keys = keys-now;
        families = families-now;
      }

  -- The node leaves, and all holds.
  pub leave-starts : Keeps script w (events.Run p) (AfterRun b p)
  leave-starts =
      record {
        beside = moved;
        keeps = record {
          next = next;
          is_step = run-steps script w p (leaving_step script sound w b holds p low high can s other home) holds.shape
              low high (leaves-by-rule script sound w b holds p low high can s other home);
          holds = leaving-holds;
        };
        after = inr (record { place = Ends; calls = λ y. is_still refl; fits = tt });
      }
