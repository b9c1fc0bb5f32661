-- The exit of an ExitTo, at the node where the parent's deed is: all holds once it is carried out, but for the kernel
-- in which callers wait.
use Rattle.std.proofs.Common.{◌≡◌, ◌≢◌, ℕ, ◌≤◌, Bool, true, false, ◌&&◌, ◌||◌, not, cond, if◌then◌else◌, List, [], ◌∷◌, ◌++◌, map, filter, flat_map, nat_eq, Some, None, is_some, Contains, refl, ap, sym, subst, ◌∙◌, inl, inr}
use Rattle.std.specs.List.{list_any}
use Rattle.std.proofs.lemmas.Bool.{cases_eq, ne_eqb, false≢true}
use Rattle.pico_base.specs.declared.numbers.Name.{Name}
use Rattle.pico_base.specs.declared.numbers.Name.TheVariants.{Proc, Msg, Sem}
use Rattle.pico_base.specs.declared.reply.Entry.{Entry}
use Rattle.pico_base.specs.declared.script.Script.{Script}
use Rattle.rpc_frame.specs.declared.deed.PackedDeed.{PackedDeed}
use Rattle.rpc_frame.specs.declared.deed.Parcel.{Parcel}
use Rattle.rpc_frame.specs.declared.frame.Frame.{Frame}
use Rattle.rpc_frame.specs.declared.frame.Frame.TheVariants as frames
use Rattle.number_maps.specs.Maps.{get, is_used}
use Rattle.kernel_model.specs.Kernel.{Kernel}
use Rattle.waiting_model.specs.Kernel as whole_kernels
use Rattle.entry_laws.specs.Entering.{is_used_name}
use Rattle.node_model.specs.declared.held.Held.TheVariants.{Ending}
use Rattle.node_model.specs.Kinds.{kind_of, number_of, is_object, is_same_name, get_named, for_kind}
use Rattle.node_model.specs.Directory.{Directory, has_deed_of, held_for, is_known}
use Rattle.node_model.specs.Leases.{leases_hold}
use Rattle.node_model.specs.Bodies.{Body, Deeds, body_in}
use Rattle.world_model.specs.Node.{Node, is_leader, is_born}
use Rattle.world_model.specs.Step.{step_to}
use Rattle.world_model.specs.Lives.{take_exit}
use Rattle.world_model.specs.Ends.{names_in, enter_exit, exit_here}
use Rattle.world_model.specs.Census.{brings}
use Rattle.world_model.specs.World.{World, node_count}
use Rattle.world_laws.specs.Places.{DeedPlace, Unmade, InTable, InExitTo, Beside}
use Rattle.world_laws.specs.Sights.{node_of, frames_to, directory_of, stage_of, is_born_in}
use Rattle.world_laws.specs.Plays.{Hold, Has, PlayStep, Comes, IsNeeded, play, plays, steps_if, begin, is_there, is_checkpoint_of, has_any, placed_in, news}
use Rattle.world_laws.specs.Names.{NameSight, name_sight, NameHolds, OneIf, IsBringer, IsItemWith, PlaysTo, is_stream_of, is_kept_for, is_hand_place, node_in, held_as, held_at, comes_to, range_steps_of, forker, is_maker, belief_of}
use Rattle.world_laws.specs.Callers.{CallHolds, call_sight, is_item_about, is_waiter_of}
use Rattle.world_laws.specs.Ways.{IsParcelIn, left as left_in, sent as sent_in, kept as kept_in, at_hand, under_way_of, HasSender}
use Rattle.world_laws.specs.Ranges.{kind_sight}
use Rattle.world_laws.specs.Families.{NodeHolds}
use Rattle.world_laws.specs.Invariant.{IsLeading, HoldsOwing}
use Rattle.world_laws.specs.Deeds.{DeedsAreRead}
use Rattle.world_laws.proofs.Changes.{Changes, filter-is-list-map, flat_map-is-list-map, made-same, only-stayed, directory-same}
use Rattle.world_laws.proofs.Heads.{rest-stays, others-stay}
use Rattle.world_laws.proofs.LeftAlone.{LeavesCall, DirectoryLeaves, same-directory, name-left-alone, call-left-alone, was-there}
use Rattle.world_laws.proofs.Named.{name-cases, same-name, other-name}
use Rattle.world_laws.proofs.NameFacts.{has_left, begins-with, play-comes, play-needs, held-here, held-elsewhere, holder-is-born}
use Rattle.world_laws.proofs.Numbers.{used-is-taken}
use Rattle.world_laws.proofs.Stays.{IsMore, SameName, name-stays, call-stays}
use Rattle.world_laws.proofs.Steps.{Heads}
use Rattle.world_laws.specs.Cancels.{Owing, Wakes}
use Rattle.rule_laws.proofs.own.Rebodied.{rebodied, name-rebodied, IsBodyOf}
use Rattle.rule_laws.proofs.own.Alone.{process-is-body, process-unchanged, process-waiters}
use Rattle.route_laws.proofs.exits.Arrivals.{is_one_of, has-is-one}
use Rattle.route_laws.proofs.exits.Parcels.{HasParcel, is-used-there, in-parcel-made, no-object-in}
use Rattle.route_laws.proofs.exits.EndLeaves.{EndLeaves}
use Rattle.route_laws.proofs.exits.Exits.{next, exit_entry, deeds_then, ends_as, exit-leaves, exit_is, exits}
use Rattle.route_laws.proofs.exits.Exits as at_exit
use Rattle.route_laws.proofs.exits.ExitDeeds.{node_then, node-after-exit, then-in-parcel, then-parent, then-other, body-other}
use Rattle.route_laws.proofs.exits.ExitMoves.{IsExitMove, exit_beside, exit-born, between, calls-between, exit-keeps}
use Rattle.route_laws.proofs.exits.SentParcels.{sent-sender, parcel-sent, parent-here, not-left, not-leader, above-leader, stream-is, none-behind}

-- ---- a name, as it is seen

-- its deed was on its way to the node, and is in its table
abbrev pub come_in : NameSight → ℕ → Body → Body → (ℕ → Hold) → (ℕ → List PlayStep) → NameSight
come_in s x part body begins steps =
    record s {
      part = part;
      body = body;
      deed = InTable x;
      held = held_as (InTable x) body;
      brought = λ to sender. [];
      begins = begins;
      steps = steps;
    }

-- what there is to show for it
pub record ComesIn (s : NameSight) (c x : ℕ) (begins : ℕ → Hold) (steps : ℕ → List PlayStep) : Type 0 where
  pub deed : s.deed ≡ InExitTo c x
  pub used : s.used ≡ true
  pub other : x ≢ 1
  pub plays : (h : ℕ) → 2 ≤ h → PlaysTo (begins h) (steps h) (is_there h (belief_of s))

-- all holds of it
pub name-comes-in : (script : Script) (pids : ℕ → ℕ) (born : ℕ → Bool) (name : Name) (s : NameSight) (c x : ℕ)
    (part body : Body) (begins : ℕ → Hold) (steps : ℕ → List PlayStep) → IsBodyOf script part body
    → ComesIn s c x begins steps → NameHolds script pids born name s
    → NameHolds script pids born name (come_in s x part body begins steps)
name-comes-in script pids born name s c x part body begins steps is r h =
    record {
      parts = is.parts;
      callers = is.callers;
      made = (λ e. absurd (not-unmade e), λ u. absurd (false≢true (sym u ∙ r.used)));
      place_fits = refl;
      tables = λ q. refl;
      streams = λ to sender. refl;
      kept = λ pid. subst (λ d. OneIf (is_kept_for (forker script) pids d pid)
          (IsItemWith name s.body (pids (node_in d))) (s.kept pid)) r.deed (h.kept pid);
      in_hand = subst (λ d. OneIf (is_hand_place d) (IsItemWith name s.body (pids (node_in d))) s.hand) r.deed
          h.in_hand;
      known = h.known;
      believed = h.believed;
      plays = r.plays;
      leader = ap is_some (held-elsewhere x 1 body (λ e. r.other (sym e)))
          ∙ sym (ap is_some (h.tables 1 ∙ ap (λ d. held_as d s.body 1) r.deed)) ∙ h.leader;
      told = h.told;
      found = h.found;
      unplaced = h.unplaced;
      ranged = h.ranged;
      leased = h.leased;
      bound = h.bound;
      items = h.items;
    }
  where
    not-unmade : InTable x ≡ Unmade → ⊥
    not-unmade e = cc

-- where another play agrees all holds with it
pub name-replayed : (script : Script) (pids : ℕ → ℕ) (born : ℕ → Bool) (name : Name) (s : NameSight)
    (steps : ℕ → List PlayStep)
    → ((h : ℕ) → 2 ≤ h → PlaysTo (s.begins h) (steps h) (is_there h (belief_of s)))
    → NameHolds script pids born name s → NameHolds script pids born name (record s { steps = steps })
name-replayed script pids born name s steps agrees h =
    record {
      parts = h.parts;
      callers = h.callers;
      made = h.made;
      place_fits = h.place_fits;
      tables = h.tables;
      streams = h.streams;
      kept = h.kept;
      in_hand = h.in_hand;
      known = h.known;
      believed = h.believed;
      plays = agrees;
      leader = h.leader;
      told = h.told;
      found = h.found;
      unplaced = h.unplaced;
      ranged = h.ranged;
      leased = h.leased;
      bound = h.bound;
      items = h.items;
    }

-- what is so of no name of a parcel is so of none of its deeds
pub none-held-of : (test : Name → Bool) (ds : List PackedDeed)
    → ((name : Name) → is_one_of name (map (λ (deed : PackedDeed). deed.name) ds) ≡ true → test name ≡ false)
    → list_any test (map (λ (deed : PackedDeed). deed.name) ds) ≡ false
none-held-of test [] none = refl
none-held-of test (d ∷ ds) none =
    ap (λ t. t || list_any test (map (λ (deed : PackedDeed). deed.name) ds))
    (none d.name
    (ap (λ t. t || is_one_of d.name (map (λ (deed : PackedDeed). deed.name) ds)) (same-name d.name d.name refl)))
    ∙ none-held-of test ds
    (λ name e. none name (or-later (is_same_name name d.name)
    (is_one_of name (map (λ (deed : PackedDeed). deed.name) ds)) e))
  where
    or-later : (p q : Bool) → q ≡ true → (p || q) ≡ true
    or-later true q e = refl
    or-later false q e = e

-- ---- the event

module _ (script : Script) (w : World) {owes : Owing} (b : Beside) (holds : HoldsOwing script w [] owes b)
    (reads : DeedsAreRead b.kernel b.body) (x : ℕ) (parcel : Parcel) (rest : List Frame)
    (h : Heads script w x 1 (frames.ExitTo parcel) rest) where
  abbrev frame : Frame
  frame = frames.ExitTo parcel

  abbrev n : Node
  n = node_of w x

  abbrev pub exit_sender : HasSender script b.pids (stage_of w) (under_way_of w) parcel
  exit_sender = sent-sender script w b holds x parcel rest h

  abbrev c : ℕ
  c = exit_sender.node

  abbrev pub exit_parcel : HasParcel script w b parcel exit_sender.node exit_sender.call (InExitTo exit_sender.node x)
  exit_parcel = parcel-sent script w b holds x parcel rest h

  abbrev parcel_is : HasParcel script w b parcel c exit_sender.call (InExitTo c x)
  parcel_is = exit_parcel

  abbrev pub exit_parent_at : b.deed (Proc parcel.parent) ≡ InTable x
  exit_parent_at = parent-here script w b holds x parcel rest h

  abbrev at : b.deed (Proc parcel.parent) ≡ InTable x
  at = exit_parent_at

  other : x ≢ 1
  other = not-leader script w b holds x parcel rest h

  abbrev after : Kernel
  after = next script w [] b holds parcel c exit_sender.call (InExitTo c x) parcel_is reads x at

  abbrev held_then : Deeds
  held_then = deeds_then script w [] b holds parcel c exit_sender.call (InExitTo c x) parcel_is reads x at

  node-holds : NodeHolds script b.pids (is_born_in w) x n
  node-holds = holds.nodes x h.low h.high

  used : (name : Name) → has_deed_of name parcel ≡ true → is_used_name b.kernel name ≡ true
  used name e =
      is-used-there script w [] b name holds
      (in-parcel-made script w [] b holds parcel c exit_sender.call (InExitTo c x) parcel_is name e)

  none-leased : list_any (leases_hold n.leases) (names_in parcel) ≡ false
  none-leased =
      none-held-of (leases_hold n.leases) parcel.deeds
      (λ name e. used-is-taken (is_born_in w) (kind_sight w b.kernel (kind_of name)) (holds.kinds (kind_of name))
      (number_of name) x h.low (used name (sym (has-is-one name parcel) ∙ e)))

  all-true : (leads born leased : Bool) → leads ≡ false → born ≡ true → leased ≡ false
      → ((not leads && (born && true)) && not leased) ≡ true
  all-true leads born leased a c d = rw (a, c, d) refl

  -- the rule carries out the exit
  pub exit-to-rule : take_exit script n 1 parcel
      ≡ Some (enter_exit script (step_to n) parcel
      (ends_as script w [] b holds parcel exit_sender.node exit_sender.call (InExitTo exit_sender.node x) exit_parcel
      reads x exit_parent_at))
  exit-to-rule =
      ap (λ t. if t then exit_here script (step_to n) parcel else None)
      (all-true (is_leader n) (is_born n) (list_any (leases_hold n.leases) (names_in parcel))
      (ne_eqb n.number 1 (λ e. other (sym node-holds.number ∙ e)))
      (holder-is-born x n (Proc parcel.parent) _ n.stage node-holds.holds
      (at_exit.parent-here script w [] b holds parcel c exit_sender.call (InExitTo c x) parcel_is reads x at))
      none-leased)
      ∙ exits script w [] b holds parcel c exit_sender.call (InExitTo c x) parcel_is reads x at (step_to n) refl

  -- the entry, and the node then
  abbrev pub exit_to_entry : Entry
  exit_to_entry =
      exit_entry script w [] b holds parcel exit_sender.node exit_sender.call (InExitTo exit_sender.node x) exit_parcel
      reads x exit_parent_at

  abbrev pub exit_to_node : Node
  exit_to_node =
      node_then script w [] b holds parcel exit_sender.node exit_sender.call (InExitTo exit_sender.node x) exit_parcel
      reads x exit_parent_at

  -- ---- once the process has ended, with this kernel in which callers wait

  module _ (whole : whole_kernels.Kernel) (w2 : World)
      (changes : Changes script x w w2 exit_to_node ((1, frames.ExitTo parcel) ∷ []) [] (exit_to_entry ∷ [])) where
    abbrev takes : List (ℕ × Frame)
    takes = (1, frame) ∷ []

    abbrev entries : List Entry
    entries = exit_to_entry ∷ []

    abbrev now : Node
    now = exit_to_node

    directory-now : directory_of w2 ≡ directory_of w
    directory-now = directory-same script x w w2 now takes [] entries changes other

    parcel-before : (q : Parcel) → IsParcelIn w2 [] q → IsParcelIn w [] q
    parcel-before q (left_in y there) =
        elim (was-there script x w w2 now takes [] entries changes (λ t f. ⊥) tt 1 y (frames.Left q) there) [
          | inl old ↦ left_in y old
          | inr new ↦ absurd new.1
        ]
    parcel-before q (sent_in y there) =
        elim (was-there script x w w2 now takes [] entries changes (λ t f. ⊥) tt y 1 (frames.ExitTo q) there) [
          | inl old ↦ sent_in y old
          | inr new ↦ absurd new.1
        ]
    parcel-before q (kept_in pid there) =
        kept_in pid (subst (λ z. Contains (held_for z (Proc pid)) (Ending q)) directory-now there)
    parcel-before q (at_hand there) = at_hand there

    -- and it is of this kind
    pub is-exit-move : IsExitMove script w w2 [] [] b b.call x exit_to_node ((1, frames.ExitTo parcel) ∷ [])
    is-exit-move =
        record {
          caller = record { number = refl; pid = refl; stage = refl; caller = refl; leases = refl };
          queue_keys = refl;
          set_keys = refl;
          node = node-after-exit script w [] b holds parcel c exit_sender.call (InExitTo c x) parcel_is reads x at
              node-holds;
          partings_are = λ y. ap (λ (z : Directory). get z.partings y) directory-now;
          ranges_are = λ kind. ap (λ (z : Directory). for_kind z.ranges kind) directory-now;
          known_still = λ name e. ap (λ z. is_known z name) directory-now ∙ e;
          leads = subst (λ (z : Directory). IsLeading z) (sym directory-now) holds.leading;
          exits_taken = (refl, tt);
          parcels_were = parcel-before;
          leases = λ kind y. refl;
        }

    -- what is beside the world then
    abbrev pub exit_taken : Beside
    exit_taken =
        exit_beside script w [] b holds parcel c exit_sender.call (InExitTo c x) parcel_is reads x at (λ d. d) refl
        (λ d to e. e) (λ g v d z. z) b.call b.cancel whole w2 [] now takes changes is-exit-move

    more : IsMore (is_born_in w) (is_born_in w2)
    more =
        exit-born script w [] b holds parcel c exit_sender.call (InExitTo c x) parcel_is reads x at (λ d. d) refl
        (λ d to e. e) (λ g v d z. z) b.call b.cancel whole w2 [] now takes changes is-exit-move

    -- ---- the names

    objects : (name : Name) → is_object name ≡ true → body_in after name ≡ body_in b.kernel name
    objects =
        let e = exit_is script w [] b holds parcel c exit_sender.call (InExitTo c x) parcel_is reads x at
        in e.bodies_are.objects

    body-then : (name : Name) → IsBodyOf script (body_in after name) (exit_taken.body name)
    body-then = process-is-body script w [] owes b holds after objects

    part-other : (name : Name) → has_deed_of name parcel ≡ false → name ≢ Proc parcel.parent
        → body_in after name ≡ body_in b.kernel name
    part-other = body-other script w [] b holds parcel c exit_sender.call (InExitTo c x) parcel_is reads x at

    module _ (name : Name) where
      abbrev s : NameSight
      s = name_sight script w [] b name

      abbrev t : NameSight
      t = name_sight script w2 [] exit_taken name

      seen : NameHolds script b.pids (is_born_in w) name s
      seen = holds.names name

      used-same : t.used ≡ s.used
      used-same =
          let l : EndLeaves b.kernel b.places parcel.pid parcel.parent _ _ _ after _ =
          exit-leaves script w [] b holds parcel c exit_sender.call (InExitTo c x) parcel_is reads x at
          in ap (λ u. is_used u (number_of name)) (l.used (kind_of name))

      directory-is : DirectoryLeaves (directory_of w) (directory_of w2) name
      directory-is = same-directory (directory_of w) (directory_of w2) directory-now name

      comes-now : (q : ℕ) → comes_to script w2 name q ≡ comes_to script w name q
      comes-now q =
          ap (λ fs. not (nat_eq (forker script q) 1) && has_any fs)
          (made-same script x w w2 now takes [] entries changes (λ t s fs. filter (is_checkpoint_of name) fs)
          (λ t s. filter-is-list-map (is_checkpoint_of name)) (refl, tt) tt q (forker script q))

      ranges-now : (q : ℕ) → s.ranges q ≡ t.ranges q
      ranges-now q =
          sym (ap (λ u. flat_map (range_steps_of u b.call name) (frames_to w2 q 1)) used-same
          ∙ made-same script x w w2 now takes [] entries changes
          (λ z r fs. flat_map (range_steps_of s.used b.call name) fs) (λ z r. flat_map-is-list-map _) (refl, tt) tt q 1)

      placed-now : (q : ℕ) → s.placed q ≡ t.placed q
      placed-now q =
          sym (made-same script x w w2 now takes [] entries changes (λ t s fs. placed_in name fs)
          (λ t s. flat_map-is-list-map _) (refl, tt) tt 1 q)

      news-now : (q : ℕ) → s.news q ≡ t.news q
      news-now q =
          ap (λ u. news name (u && is_maker s.maker q) (frames_to w 1 q)) (sym used-same)
          ∙ ap (λ m. news name (t.used && is_maker m q) (frames_to w 1 q)) (sym directory-is.maker_is)
          ∙ sym (made-same script x w w2 now takes [] entries changes
          (λ z r fs. news name (t.used && is_maker t.maker r) fs) (λ t s. flat_map-is-list-map _) (refl, tt) tt 1 q)

      held-else : (q : ℕ) → q ≢ x → held_at w2 name q ≡ held_at w name q
      held-else q away = ap (λ (m : Node). get_named m.deeds name) (changes.others q away)

      held-one : held_at w2 name x ≡ get_named held_then name
      held-one = ap (λ (m : Node). get_named m.deeds name) changes.here

      stage-one : stage_of w2 x ≡ stage_of w x
      stage-one = ap (λ (m : Node). m.stage) changes.here

      -- what is on its way is what stayed
      steps-stayed : (q : ℕ) → t.steps q ≡ plays s.used b.call name (changes.left q 1)
      steps-stayed q =
          ap (λ u. plays u b.call name (frames_to w2 q 1)) used-same
          ∙ only-stayed script x w w2 now takes [] entries changes (λ z r fs. plays s.used b.call name fs)
          (λ z r. flat_map-is-list-map _) tt q 1

      -- to other nodes comes what came
      steps-else : (q : ℕ) → q ≢ x → t.steps q ≡ s.steps q
      steps-else q away =
          steps-stayed q
          ∙ others-stay script x 1 w w2 now frame [] entries changes (λ z r fs. plays s.used b.call name fs)
          (λ z r. flat_map-is-list-map _) q 1 (inl away)

      -- and to this one what came behind it
      steps-one : s.steps x ≡ plays s.used b.call name (frame ∷ []) ++ t.steps x
      steps-one =
          rest-stays script x 1 w w2 now frame [] entries changes (λ z r fs. plays s.used b.call name fs)
          (λ z r. flat_map-is-list-map _)
          ∙ ap (λ ss. plays s.used b.call name (frame ∷ []) ++ ss) (sym (steps-stayed x))

      begins-else : (q : ℕ) → q ≢ x → s.begins q ≡ t.begins q
      begins-else q away =
          (λ i. begin (ap (λ (m : Node). m.stage) (sym (changes.others q away)) i)
          (is_some (sym (held-else q away) i)) (sym (comes-now q) i))

      plays-else : (q : ℕ) → q ≢ x → 2 ≤ q → PlaysTo (t.begins q) (t.steps q) (is_there q (belief_of s))
      plays-else q away low =
          subst (λ z. PlaysTo z (t.steps q) (is_there q (belief_of s))) (begins-else q away)
          (subst (λ ss. PlaysTo (s.begins q) ss (is_there q (belief_of s))) (sym (steps-else q away))
          (seen.plays q low))

      held-now : (d : DeedPlace) → d ≡ InTable x → (body : Body) → get_named held_then name ≡ Some body
          → ((q : ℕ) → q ≢ x → s.held q ≡ None) → (q : ℕ) → held_as d body q ≡ held_at w2 name q
      held-now d is body there none q =
          ap (λ z. held_as z body q) is
          ∙ elim (cases_eq q x) [
            | inl g ↦
                subst (λ y. held_as (InTable x) body y ≡ held_at w2 name y) (sym g)
                (held-here x body ∙ sym (held-one ∙ there))
            | inr away ↦ held-elsewhere x q body away ∙ sym (held-else q away ∙ none q away)
          ]

      seen-as : (z : NameSight) → z ≡ record s {
        part = t.part;
        body = t.body;
        deed = t.deed;
        held = t.held;
        brought = t.brought;
        begins = t.begins;
        steps = t.steps;
      } → SameName z t
      seen-as z e =
          subst (λ (y : NameSight). SameName y t) (sym e)
          (record {
            part = refl;
            place = sym directory-is.place_is;
            maker = sym directory-is.maker_is;
            stays = λ q. sym (directory-is.stays_is q);
            used = sym used-same;
            body = refl;
            deed = refl;
            held = λ q. refl;
            brought = λ to r. refl;
            kept = λ pid. sym (directory-is.kept_is pid);
            hand = refl;
            begins = λ q. refl;
            steps = λ q. refl;
            ranges = ranges-now;
            placed = placed-now;
            news = news-now;
          })

      -- a name of the parcel

      module _ (e : has_deed_of name parcel ≡ true) where
        deed-was : b.deed name ≡ InExitTo c x
        deed-was = parcel_is.deeds name e

        deed-now : exit_taken.deed name ≡ InTable x
        deed-now = ap (λ u. if u then InTable x else b.deed name) e

        comes-first : s.steps x ≡ Comes ∷ t.steps x
        comes-first =
            steps-one
            ∙ ap (λ u. ((if u then Comes ∷ [] else steps_if (is_same_name name (Proc parcel.parent)) IsNeeded) ++ [])
            ++ t.steps x) e

        begins-here : get_named held_then name ≡ Some t.body → t.begins x ≡ Has
        begins-here there =
            ap (λ o. begin (stage_of w2 x) (is_some o) (comes_to script w2 name x)) (held-one ∙ there)
            ∙ begins-with (stage_of w2 x) true (comes_to script w2 name x)
            (ap has_left stage-one ∙ not-left script w b holds x parcel rest h) refl

        plays-now : get_named held_then name ≡ Some t.body → (q : ℕ) → 2 ≤ q
            → PlaysTo (t.begins q) (t.steps q) (is_there q (belief_of s))
        plays-now there q low =
            elim (cases_eq q x) [
              | inr away ↦ plays-else q away low
              | inl g ↦
                  let old : PlaysTo (s.begins x) (s.steps x) (is_there x (belief_of s)) =
                  seen.plays x (above-leader script w b holds x parcel rest h)
                  in let come = play-comes (s.begins x) old.last (t.steps x)
                  (ap (play (s.begins x)) (sym comes-first) ∙ old.plays)
                  in subst (λ y. PlaysTo (t.begins y) (t.steps y) (is_there y (belief_of s))) (sym g)
                  (record {
                    last = old.last;
                    plays = ap (λ z. play z (t.steps x)) (begins-here there) ∙ come.1;
                    agrees = old.agrees;
                  })
            ]

        brought-none : (to r : ℕ) → [] ≡ t.brought to r
        brought-none to r =
            sym (only-stayed script x w w2 now takes [] entries changes (λ t s fs. filter (brings name) fs)
            (λ t s. filter-is-list-map (brings name)) tt to r ∙ left-none)
          where
            away : (nat_eq to x && nat_eq r 1) ≡ false → filter (brings name) (frames_to w to r) ≡ []
            away none =
                subst (λ u. OneIf u (IsBringer b.pids name s.body (InExitTo c x)) (s.brought to r)) none
                (subst (λ d. OneIf (is_stream_of (forker script) d to r) (IsBringer b.pids name s.body d)
                (s.brought to r)) deed-was (seen.streams to r))

            and-false : (u : Bool) → (u && false) ≡ false
            and-false true = refl
            and-false false = refl

            tails-same : (f g : Frame) (xs ys : List Frame) → f ∷ xs ≡ g ∷ ys → xs ≡ ys
            tails-same f g xs ys z = cc

            here-none : filter (brings name) (changes.left x 1) ≡ []
            here-none =
                tails-same frame frame (filter (brings name) (changes.left x 1)) []
                (sym (ap (λ u. cond u (frame ∷ []) [] ++ filter (brings name) (changes.left x 1)) e)
                ∙ sym (rest-stays script x 1 w w2 now frame [] entries changes (λ t s fs. filter (brings name) fs)
                (λ t s. filter-is-list-map (brings name)))
                ∙ ap (filter (brings name)) (stream-is script w b holds x parcel rest h)
                ∙ ap (λ u. cond u (frame ∷ filter (brings name) rest) (filter (brings name) rest)) e
                ∙ ap (λ fs. frame ∷ fs) (none-behind script w b holds x parcel rest h name e))

            left-none : filter (brings name) (changes.left to r) ≡ []
            left-none =
                elim (cases_eq to x) [
                  | inr u ↦
                      others-stay script x 1 w w2 now frame [] entries changes (λ t s fs. filter (brings name) fs)
                      (λ t s. filter-is-list-map (brings name)) to r (inl u)
                      ∙ away (ap (λ z. z && nat_eq r 1) (ne_eqb to x u))
                  | inl g ↦
                      elim (cases_eq r 1) [
                        | inr u ↦
                            others-stay script x 1 w w2 now frame [] entries changes
                            (λ t s fs. filter (brings name) fs) (λ t s. filter-is-list-map (brings name)) to r (inr u)
                            ∙ away (ap (λ z. nat_eq to x && z) (ne_eqb r 1 u) ∙ and-false (nat_eq to x))
                        | inl k ↦
                            subst (λ y. filter (brings name) (changes.left y r) ≡ []) (sym g)
                            (subst (λ z. filter (brings name) (changes.left x z) ≡ []) (sym k) here-none)
                      ]
                ]

        name-in-parcel : get_named held_then name ≡ Some t.body
            → NameHolds script b.pids (is_born_in w2) name t
        name-in-parcel there =
            name-stays script b.pids (is_born_in w) (is_born_in w2) name _ _ more
            (seen-as (come_in s x t.part t.body t.begins t.steps)
            (λ i. record s {
              part = t.part;
              body = t.body;
              deed = sym deed-now i;
              held = λ q. held-now (InTable x) refl t.body there
                  (λ y u. seen.tables y ∙ ap (λ d. held_as d s.body y) deed-was) q i;
              brought = λ to r. brought-none to r i;
              begins = t.begins;
              steps = t.steps;
            }))
            (name-comes-in script b.pids (is_born_in w) name s c x t.part t.body t.begins t.steps (body-then name)
            (record { deed = deed-was; used = used name e; other = other; plays = plays-now there }) seen)

      -- the parent

      module _ (e : has_deed_of name parcel ≡ false) (is : name ≡ Proc parcel.parent) where
        deed-here : b.deed name ≡ InTable x
        deed-here = ap b.deed is ∙ at

        deed-still : exit_taken.deed name ≡ b.deed name
        deed-still = ap (λ u. if u then InTable x else b.deed name) e

        there : get_named held_then name ≡ Some t.body
        there =
            subst (λ m. get_named held_then m ≡ Some (exit_taken.body m)) (sym is)
            (then-parent script w [] b holds parcel c exit_sender.call (InExitTo c x) parcel_is reads x at)

        held-was : held_at w name x ≡ Some s.body
        held-was = seen.tables x ∙ ap (λ d. held_as d s.body x) deed-here ∙ held-here x s.body

        begins-same : (q : ℕ) → s.begins q ≡ t.begins q
        begins-same q =
            elim (cases_eq q x) [
              | inr away ↦ begins-else q away
              | inl g ↦
                  subst (λ y. s.begins y ≡ t.begins y) (sym g)
                  (λ i. begin (sym stage-one i)
                  ((ap is_some held-was ∙ sym (ap is_some (held-one ∙ there))) i) (sym (comes-now x) i))
            ]

        needed-first : s.steps x ≡ IsNeeded ∷ t.steps x
        needed-first =
            steps-one
            ∙ ap (λ u. ((if u then Comes ∷ [] else steps_if (is_same_name name (Proc parcel.parent)) IsNeeded) ++ [])
            ++ t.steps x) e
            ∙ ap (λ u. (steps_if u IsNeeded ++ []) ++ t.steps x) (same-name name (Proc parcel.parent) is)

        plays-needed : (q : ℕ) → 2 ≤ q → PlaysTo (s.begins q) (t.steps q) (is_there q (belief_of s))
        plays-needed q low =
            elim (cases_eq q x) [
              | inr away ↦
                  subst (λ ss. PlaysTo (s.begins q) ss (is_there q (belief_of s))) (sym (steps-else q away))
                  (seen.plays q low)
              | inl g ↦
                  let old : PlaysTo (s.begins x) (s.steps x) (is_there x (belief_of s)) =
                  seen.plays x (above-leader script w b holds x parcel rest h)
                  in let need = play-needs (s.begins x) old.last (t.steps x)
                  (ap (play (s.begins x)) (sym needed-first) ∙ old.plays)
                  in subst (λ y. PlaysTo (s.begins y) (t.steps y) (is_there y (belief_of s))) (sym g)
                  (record {
                    last = old.last;
                    plays = ap (λ z. play z (t.steps x)) need.0 ∙ need.1;
                    agrees = old.agrees;
                  })
            ]

        brought-same : (to r : ℕ) → s.brought to r ≡ t.brought to r
        brought-same to r =
            sym (made-same script x w w2 now takes [] entries changes (λ t s fs. filter (brings name) fs)
            (λ t s. filter-is-list-map (brings name)) (ap (λ u. cond u (frame ∷ []) []) e, tt) tt to r)

        name-of-parent : NameHolds script b.pids (is_born_in w2) name t
        name-of-parent =
            name-stays script b.pids (is_born_in w) (is_born_in w2) name _ _ more
            (seen-as (record (rebodied s t.part t.body) { steps = t.steps })
            (λ i. record s {
              part = t.part;
              body = t.body;
              deed = sym deed-still i;
              held = λ q. held-now (b.deed name) deed-here t.body there
                  (λ y u. seen.tables y ∙ ap (λ d. held_as d s.body y) deed-here ∙ held-elsewhere x y s.body u) q i;
              brought = λ to r. brought-same to r i;
              begins = λ q. begins-same q i;
              steps = t.steps;
            }))
            (name-replayed script b.pids (is_born_in w) name (rebodied s t.part t.body) t.steps plays-needed
            (name-rebodied script b.pids (is_born_in w) name s x t.part t.body (body-then name) deed-here seen))

      -- any other

      name-of-another : has_deed_of name parcel ≡ false → name ≢ Proc parcel.parent
          → NameHolds script b.pids (is_born_in w2) name t
      name-of-another e away =
          name-stays script b.pids (is_born_in w) (is_born_in w2) name s t more
          (name-left-alone script x w w2 now takes [] entries changes [] [] b exit_taken name
          (record {
            directory = directory-is;
            used_is = used-same;
            part_is = part-other name e away;
            body_is = process-unchanged script w [] owes b holds after objects name (part-other name e away);
            deed_is = ap (λ u. if u then InTable x else b.deed name) e;
            held_is = then-other script w [] b holds parcel c exit_sender.call (InExitTo c x) parcel_is reads x at name
                e away;
            begins_is = λ holds_it comes. refl;
            hand_is = refl;
            steps_are = λ u q. refl;
            ranges_are = λ u q. refl;
          })
          (ap (λ u. u || is_same_name name (Proc parcel.parent)) e ∙ other-name name (Proc parcel.parent) away, tt) tt)
          seen

    no-object : (name : Name) → is_object name ≡ true → has_deed_of name parcel ≡ true → ⊥
    no-object name g e =
        false≢true
        (sym (no-object-in script w [] b holds parcel c exit_sender.call (InExitTo c x) parcel_is name g) ∙ e)

    names-by : (name : Name) → has_deed_of name parcel ≡ true → get_named held_then name ≡ Some (exit_taken.body name)
    names-by (Proc q) e =
        then-in-parcel script w [] b holds parcel c exit_sender.call (InExitTo c x) parcel_is reads x at q e
    names-by (Msg id) e = absurd (no-object (Msg id) refl e)
    names-by (Sem id) e = absurd (no-object (Sem id) refl e)

    exit-names : (name : Name) → NameHolds script b.pids (is_born_in w2) name (name_sight script w2 [] exit_taken name)
    exit-names name = by-test (has_deed_of name parcel) refl
      where
        by-test : (u : Bool) → has_deed_of name parcel ≡ u
            → NameHolds script b.pids (is_born_in w2) name (name_sight script w2 [] exit_taken name)
        by-test true e = name-in-parcel name e (names-by name e)
        by-test false e =
            elim (name-cases name (Proc parcel.parent)) [
              | inl is ↦ name-of-parent name e is
              | inr away ↦ name-of-another name e away
            ]

    -- ---- the calls

    abbrev middle : Beside
    middle = between script w [] b holds parcel c exit_sender.call (InExitTo c x) parcel_is reads x at

    leaves-call : (y : ℕ) → LeavesCall w w2 [] [] middle exit_taken x now y
    leaves-call y =
        record {
          waiters_are = λ name. ap (filter (is_waiter_of y))
              (process-waiters script w [] owes b holds after objects name);
          own = λ e. record { number = refl; pid = refl; stage = refl; caller = refl; leases = refl };
          place_is = refl;
          alive_is = refl;
          call_is = refl;
          held_is = λ name. ap (λ z. filter (is_item_about y) (held_for z name)) directory-now;
          hand_is = refl;
        }

    calls-then : (y : ℕ) → 1 ≤ y → y ≤ node_count script
        → CallHolds script y (is_born_in w2) (call_sight w2 [] exit_taken y)
    calls-then y low high =
        call-stays script y (is_born_in w) (is_born_in w2) (call_sight w [] middle y) (call_sight w2 [] exit_taken y)
        more
        (call-left-alone script x w w2 now takes [] entries changes [] [] middle exit_taken y (leaves-call y) (refl, tt)
        tt)
        (calls-between script w [] b holds parcel c exit_sender.call (InExitTo c x) parcel_is reads x at y low high)

    -- The exit is carried out, and all holds but for the kernel in which callers wait. It may wake the parent.
    pub exit-to-ended : HoldsOwing script w2 [] Wakes exit_taken
    exit-to-ended =
        exit-keeps script w [] b holds parcel c exit_sender.call (InExitTo c x) parcel_is reads x at (λ d. d) refl
        (λ d to e. e) (λ g v d z. z) b.call b.cancel whole w2 [] now takes changes is-exit-move exit-names calls-then
