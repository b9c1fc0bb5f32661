-- What a node's turn doesn't concern stays as it was: each lemma says for one part of the invariant what a rule has to
-- show of the frames taken and sent, of the node, of the directory, and of what stands beside the world.
use Rattle.std.proofs.Common.{◌≡◌, ◌≢◌, ◌⊎◌, ℕ, ◌+◌, ◌≤◌, Bool, true, false, ◌&&◌, not, List, [], ◌∷◌, ◌++◌, length, filter, flat_map, sum_by, nat_eq, Contains, is_some, refl, ap, sym, subst, ◌∙◌, inl, inr, append-nil}
use Rattle.std.specs.List.{AllByRecursion}
use Rattle.std.proofs.lemmas.Bool.{cases_eq, eq-eqb, ne_eqb, false≢true}
use Rattle.std.proofs.lemmas.List.Elements.{Contains-append_cases, Contains-append_right}
use Rattle.pico_base.specs.declared.numbers.Kind.{Kind}
use Rattle.pico_base.specs.declared.numbers.Name.{Name}
use Rattle.pico_base.specs.declared.numbers.Name.TheVariants.{Proc}
use Rattle.pico_base.specs.declared.reply.Entry.{Entry}
use Rattle.pico_base.specs.declared.script.Script.{Script}
use Rattle.rpc_frame.specs.declared.deed.Parcel.{Parcel}
use Rattle.rpc_frame.specs.declared.frame.Frame.{Frame}
use Rattle.rpc_frame.specs.declared.frame.Frame.TheVariants as frames
use Rattle.number_maps.specs.Maps.{get}
use Rattle.kernel_model.specs.Kernel.{Kernel, living_at}
use Rattle.kernel_model.specs.Fitting.{Places}
use Rattle.kernel_model.specs.Footprint.{used_of}
use Rattle.number_maps.specs.Maps.{is_used}
use Rattle.entry_laws.specs.Entering.{is_used_name}
use Rattle.node_model.specs.declared.held.Held.{Held}
use Rattle.node_model.specs.declared.held.Held.TheVariants.{Ending}
use Rattle.node_model.specs.Kinds.{get_named, for_kind}
use Rattle.node_model.specs.Directory.{Directory, place_of, maker, stays, held_for, is_parcel_with}
use Rattle.node_model.specs.Bodies.{body_in, waiters_of}
use Rattle.world_model.specs.Node.{Node, Left}
use Rattle.world_model.specs.Census.{brings}
use Rattle.world_model.specs.World.{World, numbers, node_count, is_checkpoint}
use Rattle.world_laws.specs.Places.{CallPlace, DeedPlace, Beside}
use Rattle.world_laws.specs.Sights.{node_of, frames_to, directory_of, stage_of, is_born_in}
use Rattle.world_laws.specs.Plays.{begin, has_any, is_checkpoint_of, plays, placed_in, news}
use Rattle.world_laws.specs.Names.{name_sight, held_at, comes_to, is_maker, range_steps_of, forker}
use Rattle.world_laws.specs.Callers.{call_sight, is_about, is_item_about, is_waiter_of}
use Rattle.world_laws.specs.Ways.{way_sight, is_leaving_frame, is_recall_all, is_left_frame, under_way_of, IsParcelIn, left as left_in, sent as sent_in, kept as kept_in, at_hand, HasSender}
use Rattle.world_laws.specs.Ranges.{kind_sight, lease_in, lease_at, has_lease, leases_on_way, FewRanges, one_for}
use Rattle.world_laws.specs.Families.{NodeHolds, FamilyHolds, checkpoints_to}
use Rattle.world_laws.specs.Invariant.{MayBe, FramesFit}
use Rattle.world_laws.proofs.Sends.{frame_if, frames_with}
use Rattle.world_laws.proofs.Stays.{IsMore, SameName, SameCall, SameWay, SameKind, node-born, may-be-born}
use Rattle.world_laws.proofs.Changes.{Changes, frames_if, taken, sent, IsListMap, filter-is-list-map, flat_map-is-list-map, stayed, only-stayed, made-same, read-same}
use Rattle.world_laws.proofs.Frames.{all-weaker, contains-none, sent-is, concerns, no-deed, no-checkpoint, no-steps, no-ranges, no-places, no-news, not-about, is_plain, ArePlain, BringNoBirth, no-leaving, no-recall-all, no-left, no-birth, no-lease}

-- ---- what a rule shows of the rest

-- the directory says the same of a name, and of the parcels that have its deed
pub record DirectoryLeaves (d d' : Directory) (name : Name) : Type 0 where
  pub place_is : place_of d' name ≡ place_of d name
  pub maker_is : maker d' name ≡ maker d name
  pub stays_is : (x : ℕ) → stays d' x ≡ stays d x
  pub kept_is : (pid : ℕ)
      → filter (is_parcel_with name) (held_for d' (Proc pid)) ≡ filter (is_parcel_with name) (held_for d (Proc pid))

-- it is the same directory, as where the event isn't the leader's
pub same-directory : (d d' : Directory) → d' ≡ d → (name : Name) → DirectoryLeaves d d' name
same-directory d d' e name =
    record {
      place_is = ap (λ x. place_of x name) e;
      maker_is = ap (λ x. maker x name) e;
      stays_is = λ n. ap (λ x. stays x n) e;
      kept_is = λ pid. ap (λ x. filter (is_parcel_with name) (held_for x (Proc pid))) e;
    }

-- what an event leaves of a name
pub record LeavesName (w w' : World) (hand hand' : List Held) (b b' : Beside) (p : ℕ) (n : Node)
    (left : ℕ → ℕ → List Frame) (name : Name) : Type 0 where
  pub directory : DirectoryLeaves (directory_of w) (directory_of w') name
  pub used_is : is_used_name b'.kernel name ≡ is_used_name b.kernel name
  pub part_is : body_in b'.kernel name ≡ body_in b.kernel name
  pub body_is : b'.body name ≡ b.body name
  pub deed_is : b'.deed name ≡ b.deed name
  pub held_is : get_named n.deeds name ≡ held_at w name p
  pub begins_is : (holds comes : Bool) → begin n.stage holds comes ≡ begin (stage_of w p) holds comes
  pub hand_is : filter (is_parcel_with name) hand' ≡ filter (is_parcel_with name) hand
  pub steps_are : (used : Bool) (h : ℕ) → plays used b'.call name (left h 1) ≡ plays used b.call name (left h 1)
  pub ranges_are : (used : Bool) (h : ℕ)
      → flat_map (range_steps_of used b'.call name) (left h 1) ≡ flat_map (range_steps_of used b.call name) (left h 1)

-- none of the frames is about the name
abbrev pub AreNotAbout : Name → List (ℕ × Frame) → Type 0
AreNotAbout name pairs = AllByRecursion (λ s. concerns name s.1 ≡ false) pairs

-- what a node keeps of its caller
pub record SameCaller (n m : Node) : Type 0 where
  pub number : m.number ≡ n.number
  pub pid : m.pid ≡ n.pid
  pub stage : m.stage ≡ n.stage
  pub caller : m.caller ≡ n.caller
  pub leases : m.leases ≡ n.leases

-- what an event leaves of a node's call
pub record LeavesCall (w w' : World) (hand hand' : List Held) (b b' : Beside) (p : ℕ) (n : Node) (x : ℕ) : Type 0 where
  pub own : x ≡ p → SameCaller (node_of w p) n
  pub place_is : get b'.places (b'.pids x) ≡ get b.places (b.pids x)
  pub alive_is : living_at b'.kernel (b'.pids x) ≡ living_at b.kernel (b.pids x)
  pub call_is : b'.call x ≡ b.call x
  pub held_is : (name : Name)
      → filter (is_item_about x) (held_for (directory_of w') name)
      ≡ filter (is_item_about x) (held_for (directory_of w) name)
  pub hand_is : filter (is_item_about x) hand' ≡ filter (is_item_about x) hand
  pub waiters_are : (name : Name)
      → filter (is_waiter_of x) (waiters_of (b'.body name)) ≡ filter (is_waiter_of x) (waiters_of (b.body name))

module _ (script : Script) (p : ℕ) (w w' : World) (n : Node) (takes sends : List (ℕ × Frame)) (entries : List Entry)
    (c : Changes script p w w' n takes sends entries) where
  -- ---- names

  abbrev same-made : {A : Type 0} → (f : ℕ → ℕ → List Frame → List A) → ((to sender : ℕ) → IsListMap (f to sender))
      → AllByRecursion (λ s. f p s.0 (s.1 ∷ []) ≡ []) takes → AllByRecursion (λ s. f s.0 p (s.1 ∷ []) ≡ []) sends
      → (to sender : ℕ) → f to sender (frames_to w' to sender) ≡ f to sender (frames_to w to sender)
  same-made = made-same script p w w' n takes sends entries c

  -- a name that no frame is about is seen the same
  pub name-left-alone : (hand hand' : List Held) (b b' : Beside) (name : Name)
      → LeavesName w w' hand hand' b b' p n c.left name → AreNotAbout name takes → AreNotAbout name sends
      → SameName (name_sight script w hand b name) (name_sight script w' hand' b' name)
  name-left-alone hand hand' b b' name l none_taken none_sent =
      let d : DirectoryLeaves (directory_of w) (directory_of w') name = l.directory
      in record {
        place = sym d.place_is;
        maker = sym d.maker_is;
        stays = λ x. sym (d.stays_is x);
        used = sym l.used_is;
        part = sym l.part_is;
        body = sym l.body_is;
        deed = sym l.deed_is;
        held = λ h. sym (held-same h);
        brought = λ to sender. sym (same-made (λ t s fs. filter (brings name) fs)
            (λ t s. filter-is-list-map (brings name))
            (all-weaker (λ s. no-deed name s.1) takes none_taken)
            (all-weaker (λ s. no-deed name s.1) sends none_sent) to sender);
        kept = λ pid. sym (d.kept_is pid);
        hand = sym l.hand_is;
        begins = λ h. sym (begins-same h);
        steps = λ h. sym (steps-same h);
        ranges = λ h. sym (ranges-same h);
        placed = λ q. sym (same-made (λ t s fs. placed_in name fs)
            (λ t s. flat_map-is-list-map _)
            (all-weaker (λ s. no-places name s.1) takes none_taken)
            (all-weaker (λ s. no-places name s.1) sends none_sent) 1 q);
        news = λ q. sym (news-same q);
      }
    where
      held-same : (h : ℕ) → held_at w' name h ≡ held_at w name h
      held-same h =
          read-same script p w w' n takes sends entries c (λ (m : Node). get_named m.deeds name) l.held_is h

      comes-same : (h : ℕ) → comes_to script w' name h ≡ comes_to script w name h
      comes-same h =
          ap (λ fs. not (nat_eq (forker script h) 1) && has_any fs)
          (same-made (λ t s fs. filter (is_checkpoint_of name) fs)
          (λ t s. filter-is-list-map (is_checkpoint_of name))
          (all-weaker (λ s. no-checkpoint name s.1) takes none_taken)
          (all-weaker (λ s. no-checkpoint name s.1) sends none_sent) h (forker script h))

      begins-same : (h : ℕ)
          → begin (stage_of w' h) (is_some (held_at w' name h)) (comes_to script w' name h)
          ≡ begin (stage_of w h) (is_some (held_at w name h)) (comes_to script w name h)
      begins-same h =
          ap (begin (stage_of w' h) (is_some (held_at w' name h))) (comes-same h)
          ∙ read-same script p w w' n takes sends entries c
          (λ (m : Node). begin m.stage (is_some (get_named m.deeds name)) (comes_to script w name h))
          (ap (λ o. begin n.stage (is_some o) (comes_to script w name h)) l.held_is
          ∙ l.begins_is (is_some (held_at w name p)) (comes_to script w name h)) h

      steps-same : (h : ℕ)
          → plays (is_used_name b'.kernel name) b'.call name (frames_to w' h 1)
          ≡ plays (is_used_name b.kernel name) b.call name (frames_to w h 1)
      steps-same h =
          ap (λ u. plays u b'.call name (frames_to w' h 1)) l.used_is
          ∙ only-stayed script p w w' n takes sends entries c
          (λ t s fs. plays (is_used_name b.kernel name) b'.call name fs)
          (λ t s. flat_map-is-list-map _)
          (all-weaker (λ s. no-steps (is_used_name b.kernel name) b'.call name s.1) sends none_sent) h 1
          ∙ l.steps_are (is_used_name b.kernel name) h
          ∙ stayed script p w w' n takes sends entries c (λ t s fs. plays (is_used_name b.kernel name) b.call name fs)
          (λ t s. flat_map-is-list-map _)
          (all-weaker (λ s. no-steps (is_used_name b.kernel name) b.call name s.1) takes none_taken) h 1

      ranges-same : (h : ℕ)
          → flat_map (range_steps_of (is_used_name b'.kernel name) b'.call name) (frames_to w' h 1)
          ≡ flat_map (range_steps_of (is_used_name b.kernel name) b.call name) (frames_to w h 1)
      ranges-same h =
          ap (λ u. flat_map (range_steps_of u b'.call name) (frames_to w' h 1)) l.used_is
          ∙ only-stayed script p w w' n takes sends entries c
          (λ t s fs. flat_map (range_steps_of (is_used_name b.kernel name) b'.call name) fs)
          (λ t s. flat_map-is-list-map _)
          (all-weaker (λ s. no-ranges (is_used_name b.kernel name) b'.call name s.1) sends none_sent) h 1
          ∙ l.ranges_are (is_used_name b.kernel name) h
          ∙ stayed script p w w' n takes sends entries c
          (λ t s fs. flat_map (range_steps_of (is_used_name b.kernel name) b.call name) fs)
          (λ t s. flat_map-is-list-map _)
          (all-weaker (λ s. no-ranges (is_used_name b.kernel name) b.call name s.1) takes none_taken) h 1

      news-same : (q : ℕ)
          → news name (is_used_name b'.kernel name && is_maker (maker (directory_of w') name) q) (frames_to w' 1 q)
          ≡ news name (is_used_name b.kernel name && is_maker (maker (directory_of w) name) q) (frames_to w 1 q)
      news-same q =
          let d : DirectoryLeaves (directory_of w) (directory_of w') name = l.directory
          in ap (λ u. news name (u && is_maker (maker (directory_of w') name) q) (frames_to w' 1 q)) l.used_is
          ∙ ap (λ m. news name (is_used_name b.kernel name && is_maker m q) (frames_to w' 1 q)) d.maker_is
          ∙ same-made
          (λ t s fs. news name (is_used_name b.kernel name && is_maker (maker (directory_of w) name) s) fs)
          (λ t s. flat_map-is-list-map _)
          (all-weaker (λ s. no-news name _ s.1) takes none_taken)
          (all-weaker (λ s. no-news name _ s.1) sends none_sent) 1 q

  -- ---- calls

  with-node : (m : Node) → SameCaller (node_of w p) m → (q : Node) → q ≡ m → SameCaller (node_of w p) q
  with-node m s q e = subst (λ (z : Node). SameCaller (node_of w p) z) (sym e) s

  itself : (m q : Node) → q ≡ m → SameCaller m q
  itself m q e =
      record {
        number = ap (λ (z : Node). z.number) e;
        pid = ap (λ (z : Node). z.pid) e;
        stage = ap (λ (z : Node). z.stage) e;
        caller = ap (λ (z : Node). z.caller) e;
        leases = ap (λ (z : Node). z.leases) e;
      }

  -- a node has the same caller where the node at work has
  pub caller-left-alone : (x : ℕ) → (x ≡ p → SameCaller (node_of w p) n) → SameCaller (node_of w x) (node_of w' x)
  caller-left-alone x own =
      elim (cases_eq x p) [
        | inl e ↦
            subst (λ y. SameCaller (node_of w y) (node_of w' y)) (sym e) (with-node n (own e) (node_of w' p) c.here)
        | inr d ↦ itself (node_of w x) (node_of w' x) (c.others x d)
      ]

  -- a call that no frame is about is seen the same
  pub call-left-alone : (hand hand' : List Held) (b b' : Beside) (x : ℕ)
      → LeavesCall w w' hand hand' b b' p n x
      → AllByRecursion (λ s. is_about x p s.0 s.1 ≡ false) takes
      → AllByRecursion (λ s. is_about x s.0 p s.1 ≡ false) sends
      → SameCall (call_sight w hand b x) (call_sight w' hand' b' x)
  call-left-alone hand hand' b b' x l none_taken none_sent =
      let m : SameCaller (node_of w x) (node_of w' x) = caller-left-alone x l.own
      in record {
        number = sym m.number;
        pid = sym m.pid;
        stage = sym m.stage;
        caller = sym m.caller;
        leases = sym m.leases;
        place = sym l.place_is;
        alive = sym l.alive_is;
        call = sym l.call_is;
        frames_about = λ to sender. sym (same-made (λ t s fs. filter (is_about x t s) fs)
            (λ t s. filter-is-list-map (is_about x t s))
            (all-weaker (λ s. not-about x p s.0 s.1) takes none_taken)
            (all-weaker (λ s. not-about x s.0 p s.1) sends none_sent) to sender);
        held = λ name. sym (l.held_is name);
        hand = sym l.hand_is;
        waiters = λ name. sym (l.waiters_are name);
      }

  -- ---- ways, parcels, kinds and families

  -- so is a way, where nothing of an end was taken or sent
  pub way-left-alone : (x : ℕ) → (x ≡ p → n.stage ≡ stage_of w p)
      → get (directory_of w').partings x ≡ get (directory_of w).partings x
      → ArePlain takes → ArePlain sends → SameWay (way_sight w x) (way_sight w' x)
  way-left-alone x own parting plain_taken plain_sent =
      record {
        stage = sym (stage-same (cases_eq x p));
        parting = sym parting;
        leavings = sym (same-made (λ t s fs. filter is_leaving_frame fs)
            (λ t s. filter-is-list-map is_leaving_frame)
            (all-weaker (λ s. no-leaving s.1) takes plain_taken)
            (all-weaker (λ s. no-leaving s.1) sends plain_sent) 1 x);
        recalls = sym (same-made (λ t s fs. filter is_recall_all fs)
            (λ t s. filter-is-list-map is_recall_all)
            (all-weaker (λ s. no-recall-all s.1) takes plain_taken)
            (all-weaker (λ s. no-recall-all s.1) sends plain_sent) x 1);
        lefts = sym (same-made (λ t s fs. filter is_left_frame fs)
            (λ t s. filter-is-list-map is_left_frame)
            (all-weaker (λ s. no-left s.1) takes plain_taken)
            (all-weaker (λ s. no-left s.1) sends plain_sent) 1 x);
      }
    where
      stage-same : (x ≡ p) ⊎ (x ≢ p) → stage_of w' x ≡ stage_of w x
      stage-same (inl e) =
          subst (λ y. stage_of w' y ≡ stage_of w y) (sym e) (ap (λ (m : Node). m.stage) c.here ∙ own e)
      stage-same (inr d) = ap (λ (m : Node). m.stage) (c.others x d)

  -- a frame on its way was there, or it was sent
  pub was-there : (P : ℕ → Frame → Type 0) → AllByRecursion (λ s. P s.0 s.1) sends → (to sender : ℕ) (frame : Frame)
      → Contains (frames_to w' to sender) frame
      → Contains (frames_to w to sender) frame ⊎ ((sender ≡ p) × P to frame)
  was-there P all to sender frame there =
      elim (Contains-append_cases (c.left to sender) (sent p sends to sender) frame
      (subst (λ fs. Contains fs frame) (c.after to sender) there)) [
        | inl stayed_there ↦
            inl
            (subst (λ fs. Contains fs frame) (sym (c.before to sender))
            (Contains-append_right (taken p takes to sender) (c.left to sender) frame stayed_there))
        | inr new ↦
            elim (cases_eq sender p) [
              | inl e ↦
                  inr (
                    e,
                    sent-is P sends all to frame
                        (subst (λ b. Contains (frames_if b (frames_with to sends)) frame) (eq-eqb sender p e) new),
                  )
              | inr d ↦
                  absurd
                  (contains-none frame
                  (subst (λ b. Contains (frames_if b (frames_with to sends)) frame) (ne_eqb sender p d) new))
            ]
      ]

  -- then each parcel was there before
  pub parcel-was-there : (hand : List Held) (parcel : Parcel) → ArePlain sends
      → ((pid : ℕ) → Contains (held_for (directory_of w') (Proc pid)) (Ending parcel)
      → Contains (held_for (directory_of w) (Proc pid)) (Ending parcel))
      → IsParcelIn w' hand parcel → IsParcelIn w hand parcel
  parcel-was-there hand parcel plain held (left_in x there) =
      elim (was-there (λ to f. is_plain f ≡ true) plain 1 x (frames.Left parcel) there) [
        | inl old ↦ left_in x old
        | inr new ↦ absurd (false≢true new.1)
      ]
  parcel-was-there hand parcel plain held (sent_in x there) =
      elim (was-there (λ to f. is_plain f ≡ true) plain x 1 (frames.ExitTo parcel) there) [
        | inl old ↦ sent_in x old
        | inr new ↦ absurd (false≢true new.1)
      ]
  parcel-was-there hand parcel plain held (kept_in pid there) = kept_in pid (held pid there)
  parcel-was-there hand parcel plain held (at_hand there) = at_hand there

  -- each parcel's node has left, and nothing changes there
  pub sender-stays : (pids : ℕ → ℕ) (parcel : Parcel)
      → (stage_of w p ≡ Left → (n.stage ≡ Left) × (n.caller.under_way ≡ under_way_of w p))
      → HasSender script pids (stage_of w) (under_way_of w) parcel
      → HasSender script pids (stage_of w') (under_way_of w') parcel
  sender-stays pids parcel still h =
      let both : (stage_of w' h.node ≡ Left) × (under_way_of w' h.node ≡ under_way_of w h.node) =
      stays-left h.node h.stage (cases_eq h.node p)
      in record {
        node = h.node;
        call = h.call;
        stage = both.0;
        ends_by = both.1 ∙ h.ends_by;
        is_of = h.is_of;
      }
    where
      stays-left : (x : ℕ) → stage_of w x ≡ Left → (x ≡ p) ⊎ (x ≢ p)
          → (stage_of w' x ≡ Left) × (under_way_of w' x ≡ under_way_of w x)
      stays-left x is_left (inl e) =
          subst (λ y. (stage_of w' y ≡ Left) × (under_way_of w' y ≡ under_way_of w y)) (sym e)
          (let new = still (subst (λ y. stage_of w y ≡ Left) e is_left)
          in (ap (λ (m : Node). m.stage) c.here ∙ new.0, ap (λ (m : Node). m.caller.under_way) c.here ∙ new.1))
      stays-left x is_left (inr d) = (
        ap (λ (m : Node). m.stage) (c.others x d) ∙ is_left,
        ap (λ (m : Node). m.caller.under_way) (c.others x d),
      )

  -- a kind is seen the same where no numbers were taken or sent
  pub kind-left-alone : (k k' : Kernel) (kind : Kind)
      → ((number : ℕ) → is_used (used_of k' kind) number ≡ is_used (used_of k kind) number)
      → for_kind n.leases kind ≡ lease_at w kind p
      → for_kind (directory_of w').ranges kind ≡ for_kind (directory_of w).ranges kind
      → AllByRecursion (λ s. lease_in kind s.1 ≡ []) takes → AllByRecursion (λ s. lease_in kind s.1 ≡ []) sends
      → SameKind (kind_sight w k kind) (kind_sight w' k' kind)
  kind-left-alone k k' kind used own ranges plain_taken plain_sent =
      record {
        used = λ number. sym (used number);
        leases = λ h. sym (read-same script p w w' n takes sends entries c
            (λ (m : Node). for_kind m.leases kind) own h);
        coming = λ h. sym (same-made (λ t s fs. flat_map (lease_in kind) fs)
            (λ t s. flat_map-is-list-map (lease_in kind))
            (all-weaker (λ s. no-lease kind s.1) takes plain_taken)
            (all-weaker (λ s. no-lease kind s.1) sends plain_sent) h 1);
        ranges = sym ranges;
      }

  -- a family stays where no Checkpoint was taken or sent, and deeds of processes are where they were
  pub family-left-alone : (pids : ℕ → ℕ) (places : Places) (k : Kernel) (deed deed' : ℕ → DeedPlace) (x : ℕ)
      → ((pid : ℕ) → deed' pid ≡ deed pid) → (x ≡ p → n.stage ≡ stage_of w p) → BringNoBirth takes → BringNoBirth sends
      → FamilyHolds script pids places k deed (checkpoints_to script w x) (stage_of w x) x
      → FamilyHolds script pids places k deed' (checkpoints_to script w' x) (stage_of w' x) x
  family-left-alone pids places k deed deed' x same own plain_taken plain_sent h =
      subst (λ stage. FamilyHolds script pids places k deed' (checkpoints_to script w' x) stage x)
      (sym (stage-same (cases_eq x p)))
      (subst (λ fs. FamilyHolds script pids places k deed' fs (stage_of w x) x)
      (sym (same-made (λ t s fs. filter is_checkpoint fs)
      (λ t s. filter-is-list-map is_checkpoint)
      (all-weaker (λ s. no-birth s.1) takes plain_taken)
      (all-weaker (λ s. no-birth s.1) sends plain_sent) x (forker script x)))
      (subst (λ (f : ℕ → DeedPlace). FamilyHolds script pids places k f (checkpoints_to script w x) (stage_of w x) x)
      (λ i pid. sym (same pid) i) h))
    where
      stage-same : (x ≡ p) ⊎ (x ≢ p) → stage_of w' x ≡ stage_of w x
      stage-same (inl e) =
          subst (λ y. stage_of w' y ≡ stage_of w y) (sym e) (ap (λ (m : Node). m.stage) c.here ∙ own e)
      stage-same (inr d) = ap (λ (m : Node). m.stage) (c.others x d)

  -- ---- nodes and frames

  -- any other node is as it was
  pub other-node-stays : (pids : ℕ → ℕ) (born more : ℕ → Bool) (x : ℕ) → x ≢ p → IsMore born more
      → NodeHolds script pids born x (node_of w x) → NodeHolds script pids more x (node_of w' x)
  other-node-stays pids born more x d m h =
      subst (λ (z : Node). NodeHolds script pids more x z) (sym (c.others x d))
      (node-born script pids born more x (node_of w x) m h)

  -- what is sent may be sent, and to others
  pub frames-still-fit : IsMore (is_born_in w) (is_born_in w')
      → FramesFit script (is_born_in w) (frames_to w)
      → AllByRecursion (λ s. MayBe script (is_born_in w') s.0 p s.1) sends → AllByRecursion (λ s. s.0 ≢ p) sends
      → FramesFit script (is_born_in w') (frames_to w')
  frames-still-fit more old may others =
      record {
        may_be = λ to sender frame there. elim (was-there (λ t f. MayBe script (is_born_in w') t p f) may to
            sender frame there) [
              | inl was ↦
                  may-be-born script (is_born_in w) (is_born_in w') to sender frame more
                  (old.may_be to sender frame was)
              | inr new ↦ subst (λ s. MayBe script (is_born_in w') to s frame) (sym new.0) new.1
            ];
        none_to_itself = λ x. c.after x x
            ∙ ap (λ fs. fs ++ sent p sends x x) (none-left x)
            ∙ none-sent-to x (cases_eq x p);
      }
    where
      back : {A : Type 0} (xs ys : List A) → xs ++ ys ≡ [] → ys ≡ []
      back [] ys h = h
      back (x ∷ xs) ys h = absurd (not-empty x (xs ++ ys) h)
        where
          not-empty : {A : Type 0} (x : A) (xs : List A) → x ∷ xs ≡ [] → ⊥
          not-empty x xs h = cc

      none-left : (x : ℕ) → c.left x x ≡ []
      none-left x = back (taken p takes x x) (c.left x x) (sym (c.before x x) ∙ old.none_to_itself x)

      not-to : (pairs : List (ℕ × Frame)) → AllByRecursion (λ s. s.0 ≢ p) pairs → frames_with p pairs ≡ []
      not-to [] all = refl
      not-to (s ∷ pairs) all =
          ap (λ b. frame_if b s.1 ++ frames_with p pairs) (ne_eqb p s.0 (λ e. all.0 (sym e))) ∙ not-to pairs all.1

      none-sent-to : (x : ℕ) → (x ≡ p) ⊎ (x ≢ p) → sent p sends x x ≡ []
      none-sent-to x (inl e) =
          ap (λ b. frames_if b (frames_with x sends)) (eq-eqb x p e)
          ∙ subst (λ y. frames_with y sends ≡ []) (sym e) (not-to sends others)
      none-sent-to x (inr d) = ap (λ b. frames_if b (frames_with x sends)) (ne_eqb x p d)

  -- ---- ranges

  -- there are as few ranges as before where none was given out
  pub few-still : (call call' : ℕ → CallPlace) (kind : Kind) → entries ≡ []
      → for_kind (directory_of w').ranges kind ≡ for_kind (directory_of w).ranges kind
      → ((x : ℕ) → has_lease kind (call' x) ≡ has_lease kind (call x))
      → FewRanges script w call kind → FewRanges script w' call' kind
  few-still call call' kind none ranges same h =
      subst (λ (f : ℕ → Bool). length (for_kind (directory_of w').ranges kind)
      ≤ length w'.journal + sum_by (λ x. one_for (f x)) (numbers 1 (node_count script)) + 1)
      (λ i x. sym (same x) i)
      (subst (λ r. length r ≤ length w'.journal + leases_on_way script call kind + 1) (sym ranges)
      (subst (λ j. length (for_kind (directory_of w).ranges kind) ≤ length j + leases_on_way script call kind + 1)
      (sym (c.journal ∙ ap (λ es. w.journal ++ es) none ∙ append-nil w.journal)) h))
