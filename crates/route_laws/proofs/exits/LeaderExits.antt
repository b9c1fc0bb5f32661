-- The exit of the first parcel in the leader's hand is carried out at the leader, where the parent's deed is: the
-- parcel's names rest there, and what was held for them is in the hand.
use Rattle.std.proofs.Common.{◌≡◌, ◌≢◌, ℕ, ◌≤◌, Bool, true, false, ◌&&◌, not, if◌then◌else◌, List, [], ◌∷◌, filter, flat_map, nat_eq, Option, Some, None, is_none, is_some, Contains, refl, ap, sym, subst, ◌∙◌, inl, inr, arith}
use Rattle.std.proofs.lemmas.Bool.{cases_eq, ne_eqb, false≢true}
use Rattle.pico_base.specs.declared.numbers.Name.{Name}
use Rattle.pico_base.specs.declared.numbers.Name.TheVariants.{Proc, Msg, Sem}
use Rattle.pico_base.specs.declared.reply.Entry.{Entry}
use Rattle.pico_base.specs.declared.script.Script.{Script}
use Rattle.rpc_frame.specs.declared.deed.Parcel.{Parcel}
use Rattle.rpc_frame.specs.declared.frame.Frame.TheVariants as frames
use Rattle.number_maps.specs.Maps.{get, is_used}
use Rattle.kernel_model.specs.Kernel.{Kernel, Process}
use Rattle.waiting_model.specs.Kernel as whole_kernels
use Rattle.node_model.specs.declared.held.Held.{Held}
use Rattle.node_model.specs.declared.held.Held.TheVariants.{Ending}
use Rattle.node_model.specs.Kinds.{kind_of, number_of, is_object, get_named, for_kind}
use Rattle.node_model.specs.Directory.{Directory, At, place_of, maker, maker_in, stays, has_deed_of, is_parcel_with, held_for, is_known}
use Rattle.node_model.specs.Bodies.{Body, Deeds, body_in}
use Rattle.world_model.specs.Node.{Node}
use Rattle.world_model.specs.Step.{with_directory}
use Rattle.world_model.specs.Census.{brings}
use Rattle.world_model.specs.World.{World, node_count}
use Rattle.world_laws.specs.Places.{DeedPlace, Unmade, InTable, InHand, CallPlace, Beside, CancelPlace}
use Rattle.world_laws.specs.Sights.{node_of, frames_to, directory_of, stage_of, is_born_in}
use Rattle.world_laws.specs.Plays.{Hold, plays, begin, is_there, is_checkpoint_of, has_any, believed, placed_in, news}
use Rattle.world_laws.specs.Names.{NameSight, name_sight, NameHolds, PlaysTo, held_as, held_at, comes_to, range_steps_of, forker, is_maker, maker_tells}
use Rattle.world_laws.specs.Callers.{CallHolds, call_sight, is_about, is_item_about, is_waiter_of}
use Rattle.world_laws.specs.Ways.{IsParcelIn, left as left_in, sent as sent_in, kept as kept_in, at_hand, under_way_of, HasSender}
use Rattle.world_laws.specs.Families.{NodeHolds, IsWhereFor}
use Rattle.world_laws.specs.Invariant.{IsLeading, HoldsOwing}
use Rattle.world_laws.specs.Deeds.{DeedsAreRead}
use Rattle.world_laws.proofs.Changes.{Changes, filter-is-list-map, flat_map-is-list-map, made-same, read-same}
use Rattle.world_laws.proofs.Named.{name-cases}
use Rattle.world_laws.proofs.NameFacts.{IsHeldAt, held-there, held-here, held-elsewhere}
use Rattle.world_laws.proofs.LeftAlone.{was-there}
use Rattle.world_laws.proofs.Stays.{IsMore, SameName, SameCall, name-stays, call-stays}
use Rattle.world_laws.specs.Cancels.{Owing, Wakes}
use Rattle.rule_laws.proofs.Nodes.{node-with-directory}
use Rattle.rule_laws.proofs.own.Rebodied.{name-rebodied, IsBodyOf}
use Rattle.rule_laws.proofs.own.Alone.{process-is-body, process-unchanged, process-waiters}
use Rattle.route_laws.proofs.exits.Arrivals.{Arrives, arrived-known, held-kept, still-there}
use Rattle.route_laws.proofs.exits.Released.{call_released, deed_released, released_name, name-released, released_call, call-comes}
use Rattle.route_laws.proofs.exits.Parcels.{HasParcel, hand-sender, parcel-in-hand, is-used-there, in-parcel-made, no-object-in}
use Rattle.route_laws.proofs.exits.Hands.{names, hand_then, parcel-apart, held_with, seen-held, in-hand-then, none-in-hand, kept-then, none-kept-then, place-then, place-still, parcel-was, kept-in-hand}
use Rattle.route_laws.proofs.exits.Onward.{plays-released, ranges-released}
use Rattle.route_laws.proofs.exits.SentOn.{hand-not-brought, hand-plays}
use Rattle.route_laws.proofs.exits.SentAll.{no-lease-released}
use Rattle.route_laws.proofs.exits.DeedMoves.{where-released, comes-released}
use Rattle.route_laws.proofs.exits.Exits.{next, exit_entry, deeds_then, exit-leaves, exit_is}
use Rattle.route_laws.proofs.exits.ExitDeeds.{node_then, node-after-exit, then-in-parcel, then-parent, then-other, body-other}
use Rattle.route_laws.proofs.exits.ExitMoves.{IsExitMove, exit_beside, exit-born, between, calls-between, exit-keeps}
use Rattle.route_laws.proofs.exits.Cancelled.{cancel_released}

-- ---- a name of the parcel

-- it was in hand, no other node will have it, and it rests at the leader now
abbrev pub rested : NameSight → Body → Body → (ℕ → Hold) → NameSight
rested x part body begins =
    record x {
      place = Some (At 1);
      part = part;
      body = body;
      deed = InTable 1;
      held = held_as (InTable 1) body;
      kept = λ pid. [];
      hand = [];
      begins = begins;
    }

-- what there is to show for it
pub record RestsHere (x : NameSight) (begins : ℕ → Hold) : Type 0 where
  pub used : x.used ≡ true
  pub brought : (to sender : ℕ) → x.brought to sender ≡ []
  pub others : (h : ℕ) → 2 ≤ h → PlaysTo (begins h) (x.steps h) false

-- all holds of it
pub name-rests : (script : Script) (pids : ℕ → ℕ) (born : ℕ → Bool) (name : Name) (x : NameSight) (part body : Body)
    (begins : ℕ → Hold) → IsBodyOf script part body → RestsHere x begins → NameHolds script pids born name x
    → NameHolds script pids born name (rested x part body begins)
name-rests script pids born name x part body begins is r h =
    record {
      parts = is.parts;
      callers = is.callers;
      made = (λ e. absurd (not-unmade e), λ u. absurd (false≢true (sym u ∙ r.used)));
      place_fits = refl;
      tables = λ q. refl;
      streams = λ to sender. r.brought to sender;
      kept = λ pid. refl;
      in_hand = refl;
      known = λ e. r.used;
      believed = λ used. refl;
      plays = λ q low. subst (λ t. PlaysTo (begins q) (x.steps q) t) (sym (ne_eqb 1 q (λ e. omega (arith, e, low))))
          (r.others q low);
      leader = refl;
      told = h.told;
      found = λ q low. refl;
      unplaced = λ used e. absurd (false≢true (sym (ap is_some e)));
      ranged = h.ranged;
      leased = h.leased;
      bound = λ to e. absurd (false≢true (ap is_some e));
      items = tt;
    }
  where
    not-unmade : InTable 1 ≡ Unmade → ⊥
    not-unmade e = cc

some-true : {A : Type 0} (o : Option A) → is_some o ≡ true → (v : A) × (o ≡ Some v)
some-true None h = absurd (false≢true h)
some-true (Some v) h = (v, refl)

-- a name that the leader believes at itself is in its table
pub at-leader : (script : Script) (w : World) (hand : List Held) {owes : Owing} (b : Beside) (name : Name) → HoldsOwing
    script w hand owes b
    → place_of (directory_of w) name ≡ Some (At 1) → b.deed name ≡ InTable 1
at-leader script w hand b name holds place =
    let x : NameSight = name_sight script w hand b name
    in let known : NameHolds script b.pids (is_born_in w) name x = holds.names name
    in let held = some-true (held_at w name 1)
    (known.leader ∙ ap (λ o. is_there 1 (believed o (maker_tells x x.maker))) place)
    in let at : IsHeldAt (b.deed name) (b.body name) 1 held.0 =
    held-there (b.deed name) (b.body name) 1 held.0 (sym (known.tables 1) ∙ held.1)
    in at.deed_is

module _ (script : Script) (w : World) (items : List Held) (parcel : Parcel) {owes : Owing} (b : Beside)
    (holds : HoldsOwing script w (Ending parcel ∷ items) owes b) (reads : DeedsAreRead b.kernel b.body)
    (some_node : 1 ≤ node_count script)
    (place : place_of (directory_of w) (Proc parcel.parent) ≡ Some (At 1)) where
  abbrev before : List Held
  before = Ending parcel ∷ items

  abbrev of : List Name
  of = names script w items parcel b holds

  abbrev dir : Directory
  dir = directory_of w

  abbrev sender : HasSender script b.pids (stage_of w) (under_way_of w) parcel
  sender = hand-sender script w items parcel b holds

  abbrev c : ℕ
  c = sender.node

  -- the first parcel in hand
  abbrev pub leader_parcel : HasParcel script w b parcel c sender.call (InHand c)
  leader_parcel = parcel-in-hand script w items parcel b holds

  -- the parent's deed is in the leader's table
  pub parent-at-leader : b.deed (Proc parcel.parent) ≡ InTable 1
  parent-at-leader = at-leader script w before b (Proc parcel.parent) holds place

  abbrev after : Kernel
  after = next script w before b holds parcel c sender.call (InHand c) leader_parcel reads 1 parent-at-leader

  abbrev held_then : Deeds
  held_then =
      deeds_then script w before b holds parcel c sender.call (InHand c) leader_parcel reads 1 parent-at-leader

  abbrev node_now : Node
  node_now =
      node_then script w before b holds parcel c sender.call (InHand c) leader_parcel reads 1 parent-at-leader

  -- the entry of the exit
  abbrev pub leader_entry : Entry
  leader_entry =
      exit_entry script w before b holds parcel c sender.call (InHand c) leader_parcel reads 1 parent-at-leader

  abbrev moved : DeedPlace → DeedPlace
  moved = deed_released script b.pids of

  module _ (d2 : Directory) (arrives : Arrives (directory_of w) d2 (names script w items parcel b holds) 1)
      (whole : whole_kernels.Kernel) (w' : World)
      (changes : Changes script 1 w w' (with_directory (node_then script w (Ending parcel ∷ items) b holds parcel
      (hand-sender script w items parcel b holds).node (hand-sender script w items parcel b holds).call
      (InHand (hand-sender script w items parcel b holds).node) (parcel-in-hand script w items parcel b holds) reads
      1 parent-at-leader) d2) [] [] (leader_entry ∷ [])) where
    abbrev n : Node
    n = with_directory node_now d2

    abbrev entries : List Entry
    entries = leader_entry ∷ []

    abbrev hand_now : List Held
    hand_now = hand_then script w items parcel b holds

    abbrev calls_now : ℕ → CallPlace
    calls_now p = call_released of (b.call p)

    abbrev cancels_now : ℕ → CancelPlace
    cancels_now p = cancel_released of (b.cancel p)

    directory-now : directory_of w' ≡ d2
    directory-now = ap (λ (m : Node). m.leader.directory) changes.here

    parcel-before : (q : Parcel) → IsParcelIn w' hand_now q → IsParcelIn w before q
    parcel-before q (left_in y there) =
        elim (was-there script 1 w w' n [] [] entries changes (λ t f. ⊥) tt 1 y (frames.Left q) there) [
          | inl old ↦ left_in y old
          | inr new ↦ absurd new.1
        ]
    parcel-before q (sent_in y there) =
        elim (was-there script 1 w w' n [] [] entries changes (λ t f. ⊥) tt y 1 (frames.ExitTo q) there) [
          | inl old ↦ sent_in y old
          | inr new ↦ absurd new.1
        ]
    parcel-before q (kept_in pid there) =
        kept_in pid
        (still-there dir d2 of 1 arrives (Proc pid) (Ending q)
        (subst (λ z. Contains (held_for z (Proc pid)) (Ending q)) directory-now there))
    parcel-before q (at_hand there) = parcel-was script w items parcel b holds q there

    node-holds : NodeHolds script b.pids (is_born_in w) 1 n
    node-holds =
        node-with-directory script b.pids (is_born_in w) 1 node_now d2 refl
        (node-after-exit script w before b holds parcel c sender.call (InHand c) leader_parcel reads 1
        parent-at-leader (holds.nodes 1 (omega arith) some_node))

    -- the event is of this kind
    pub is-exit-move : IsExitMove script w w' before hand_now b calls_now 1 n []
    is-exit-move =
        record {
          caller = record { number = refl; pid = refl; stage = refl; caller = refl; leases = refl };
          queue_keys = refl;
          set_keys = refl;
          node = node-holds;
          partings_are = λ y. ap (λ (z : Directory). get z.partings y) directory-now
              ∙ ap (λ partings. get partings y) arrives.partings_are;
          ranges_are = λ kind. ap (λ (z : Directory). for_kind z.ranges kind) directory-now
              ∙ ap (λ r. for_kind r kind) arrives.ranges_are;
          known_still = λ name e. ap (λ z. is_known z name) directory-now
              ∙ arrived-known dir d2 of 1 arrives name e;
          leads = subst (λ (z : Directory). IsLeading z) (sym directory-now) arrives.leads;
          exits_taken = tt;
          parcels_were = parcel-before;
          leases = λ kind y. no-lease-released of kind (b.call y);
        }

    -- what comes into the hand is where it may be
    pub where-moved : (g : ℕ) (v : Process) (d : DeedPlace) → IsWhereFor g d v → IsWhereFor g (moved d) v
    where-moved g v d h = where-released script b.pids of g v d h

    -- what is beside the world then
    abbrev pub leader_beside : Beside
    leader_beside =
        exit_beside script w before b holds parcel c sender.call (InHand c) leader_parcel reads 1 parent-at-leader moved
        refl (comes-released script b.pids of) where-moved calls_now cancels_now whole w' hand_now n [] changes
        is-exit-move

    more : IsMore (is_born_in w) (is_born_in w')
    more =
        exit-born script w before b holds parcel c sender.call (InHand c) leader_parcel reads 1 parent-at-leader moved
        refl (comes-released script b.pids of) where-moved calls_now cancels_now whole w' hand_now n [] changes
        is-exit-move

    -- ---- the names

    objects : (name : Name) → is_object name ≡ true → body_in after name ≡ body_in b.kernel name
    objects =
        let e = exit_is script w before b holds parcel c sender.call (InHand c) leader_parcel reads 1 parent-at-leader
        in e.bodies_are.objects

    body-then : (name : Name) → IsBodyOf script (body_in after name) (leader_beside.body name)
    body-then = process-is-body script w before owes b holds after objects

    part-other : (name : Name) → has_deed_of name parcel ≡ false → name ≢ Proc parcel.parent
        → body_in after name ≡ body_in b.kernel name
    part-other =
        body-other script w before b holds parcel c sender.call (InHand c) leader_parcel reads 1 parent-at-leader

    module _ (name : Name) where
      abbrev s : NameSight
      s = name_sight script w before b name

      seen : NameHolds script b.pids (is_born_in w) name s
      seen = holds.names name

      abbrev t : NameSight
      t = name_sight script w' hand_now leader_beside name

      used-same : t.used ≡ s.used
      used-same =
          let l = exit-leaves script w before b holds parcel c sender.call (InHand c) leader_parcel reads 1
          parent-at-leader
          in ap (λ u. is_used u (number_of name)) (l.used (kind_of name))

      maker-same : t.maker ≡ s.maker
      maker-same =
          ap (λ z. maker z name) directory-now
          ∙ ap (λ ranges. maker_in (for_kind ranges (kind_of name)) (number_of name)) arrives.ranges_are

      stays-same : (q : ℕ) → t.stays q ≡ s.stays q
      stays-same q =
          ap (λ z. stays z q) directory-now ∙ ap (λ partings. is_none (get partings q)) arrives.partings_are

      comes-now : (q : ℕ) → comes_to script w' name q ≡ comes_to script w name q
      comes-now q =
          ap (λ fs. not (nat_eq (forker script q) 1) && has_any fs)
          (made-same script 1 w w' n [] [] entries changes (λ t s fs. filter (is_checkpoint_of name) fs)
          (λ t s. filter-is-list-map (is_checkpoint_of name)) tt tt q (forker script q))

      brought-now : (to sender : ℕ) → s.brought to sender ≡ t.brought to sender
      brought-now to sender =
          sym (made-same script 1 w w' n [] [] entries changes (λ t s fs. filter (brings name) fs)
          (λ t s. filter-is-list-map (brings name)) tt tt to sender)

      steps-now : (q : ℕ) → s.steps q ≡ t.steps q
      steps-now q =
          sym (ap (λ used. plays used calls_now name (frames_to w' q 1)) used-same
          ∙ plays-released of s.used b.call name (frames_to w' q 1)
          ∙ made-same script 1 w w' n [] [] entries changes (λ t r fs. plays s.used b.call name fs)
          (λ t s. flat_map-is-list-map _) tt tt q 1)

      ranges-now : (q : ℕ) → s.ranges q ≡ t.ranges q
      ranges-now q =
          sym (ap (λ used. flat_map (range_steps_of used calls_now name) (frames_to w' q 1)) used-same
          ∙ ranges-released of s.used b.call name (frames_to w' q 1)
          ∙ made-same script 1 w w' n [] [] entries changes
          (λ t r fs. flat_map (range_steps_of s.used b.call name) fs) (λ t s. flat_map-is-list-map _) tt tt q 1)

      placed-now : (q : ℕ) → s.placed q ≡ t.placed q
      placed-now q =
          sym (made-same script 1 w w' n [] [] entries changes (λ t s fs. placed_in name fs)
          (λ t s. flat_map-is-list-map _) tt tt 1 q)

      news-now : (q : ℕ) → s.news q ≡ t.news q
      news-now q =
          ap (λ u. news name (u && is_maker s.maker q) (frames_to w 1 q)) (sym used-same)
          ∙ ap (λ m. news name (t.used && is_maker m q) (frames_to w 1 q)) (sym maker-same)
          ∙ sym (made-same script 1 w w' n [] [] entries changes
          (λ z r fs. news name (t.used && is_maker t.maker r) fs) (λ t s. flat_map-is-list-map _) tt tt 1 q)

      held-else : (q : ℕ) → q ≢ 1 → held_at w' name q ≡ held_at w name q
      held-else q other = ap (λ (m : Node). get_named m.deeds name) (changes.others q other)

      held-one : held_at w' name 1 ≡ get_named held_then name
      held-one = ap (λ (m : Node). get_named m.deeds name) changes.here

      -- a name of the parcel

      module _ (e : has_deed_of name parcel ≡ true) where
        deed-was : b.deed name ≡ InHand c
        deed-was = leader_parcel.deeds name e

        held-now : (body : Body) → get_named held_then name ≡ Some body → (q : ℕ)
            → held_as (InTable 1) body q ≡ held_at w' name q
        held-now body is q =
            elim (cases_eq q 1) [
              | inl g ↦
                  subst (λ y. held_as (InTable 1) body y ≡ held_at w' name y) (sym g)
                  (held-here 1 body ∙ sym (held-one ∙ is))
              | inr other ↦
                  held-elsewhere 1 q body other
                  ∙ sym (held-else q other ∙ seen.tables q ∙ ap (λ d. held_as d s.body q) deed-was)
            ]

        begins-else : (q : ℕ) → 2 ≤ q → s.begins q ≡ t.begins q
        begins-else q low =
            let other : q ≢ 1 = λ g. omega (arith, g, low)
            in (λ i. begin (ap (λ (m : Node). m.stage) (sym (changes.others q other)) i)
            (is_some (sym (held-else q other) i)) (sym (comes-now q) i))

        rests-here : RestsHere s t.begins
        rests-here =
            record {
              used = is-used-there script w before b name holds
                  (in-parcel-made script w before b holds parcel c sender.call (InHand c) leader_parcel name e);
              brought = hand-not-brought script w before b holds name c deed-was;
              others = λ q low. subst (λ z. PlaysTo z (s.steps q) false) (begins-else q low)
                  (hand-plays script w before b holds name c deed-was q low);
            }

        rest-seen : get_named held_then name ≡ Some t.body → SameName (rested s t.part t.body t.begins) t
        rest-seen is =
            record {
              part = refl;
              place = sym (ap (λ z. place_of z name) directory-now
                  ∙ place-then script w items parcel b holds 1 d2 arrives name e);
              maker = sym maker-same;
              stays = λ q. sym (stays-same q);
              used = sym used-same;
              body = refl;
              deed = sym (ap (λ t. if t then InTable 1 else moved (b.deed name)) e);
              held = held-now t.body is;
              brought = brought-now;
              kept = λ pid. sym (ap (λ z. filter (is_parcel_with name) (held_for z (Proc pid))) directory-now
                  ∙ none-kept-then script w items parcel b holds 1 d2 arrives name e pid);
              hand = sym (none-in-hand script w items parcel b holds name e);
              begins = λ q. refl;
              steps = steps-now;
              ranges = ranges-now;
              placed = placed-now;
              news = news-now;
            }

        name-in-parcel : get_named held_then name ≡ Some t.body
            → NameHolds script b.pids (is_born_in w') name t
        name-in-parcel is =
            name-stays script b.pids (is_born_in w) (is_born_in w') name _ _ more (rest-seen is)
            (name-rests script b.pids (is_born_in w) name s t.part t.body t.begins (body-then name) rests-here seen)

      -- any other

      module _ (e : has_deed_of name parcel ≡ false) where
        abbrev y : NameSight
        y = released_name script b.pids of s (held_with script w items parcel b holds name)

        released : NameHolds script b.pids (is_born_in w) name y
        released =
            name-released script b.pids of (is_born_in w) name s (held_with script w items parcel b holds name)
            (parcel-apart script w items parcel b holds) (seen-held script w items parcel b holds name) seen

        begins-by : is_some (get_named held_then name) ≡ is_some (held_at w name 1) → (q : ℕ) → s.begins q ≡ t.begins q
        begins-by same q =
            ap (begin (stage_of w q) (is_some (held_at w name q))) (sym (comes-now q))
            ∙ sym (read-same script 1 w w' n [] [] entries changes
            (λ (m : Node). begin m.stage (is_some (get_named m.deeds name)) (comes_to script w' name q))
            (ap (λ o. begin (stage_of w 1) o (comes_to script w' name q)) same) q)

        seen-as : (part z : Body) (held : ℕ → Option Body) → part ≡ t.part → z ≡ t.body
            → ((q : ℕ) → held q ≡ t.held q)
            → is_some (get_named held_then name) ≡ is_some (held_at w name 1)
            → SameName (record y { part = part; body = z; held = held }) t
        seen-as part z held part_is body_is held_is same =
            record {
              part = part_is;
              place = sym (ap (λ d. place_of d name) directory-now
                  ∙ place-still script w items parcel b holds 1 d2 arrives name e);
              maker = sym maker-same;
              stays = λ q. sym (stays-same q);
              used = sym used-same;
              body = body_is;
              deed = sym (ap (λ t. if t then InTable 1 else moved (b.deed name)) e);
              held = held_is;
              brought = brought-now;
              kept = λ pid. sym (ap (λ d. filter (is_parcel_with name) (held_for d (Proc pid))) directory-now
                  ∙ kept-then script w items parcel b holds 1 d2 arrives name pid);
              hand = sym (in-hand-then script w items parcel b holds name e);
              begins = begins-by same;
              steps = steps-now;
              ranges = ranges-now;
              placed = placed-now;
              news = news-now;
            }

        name-of-another : name ≢ Proc parcel.parent → NameHolds script b.pids (is_born_in w') name t
        name-of-another other =
            let held = then-other script w before b holds parcel c sender.call (InHand c) leader_parcel reads 1
            parent-at-leader name e other
            in name-stays script b.pids (is_born_in w) (is_born_in w') name _ _ more
            (seen-as s.part s.body s.held (sym (part-other name e other))
            (sym (process-unchanged script w before owes b holds after objects name (part-other name e other)))
            (λ q. sym (read-same script 1 w w' n [] [] entries changes (λ (m : Node). get_named m.deeds name) held q))
            (ap is_some held)) released

        name-of-parent : name ≡ Proc parcel.parent → NameHolds script b.pids (is_born_in w') name t
        name-of-parent is =
            name-stays script b.pids (is_born_in w) (is_born_in w') name _ _ more
            (seen-as t.part t.body (held_as (moved (b.deed name)) t.body) refl refl held-now
            (ap is_some held-is ∙ sym (ap is_some held-was)))
            (name-rebodied script b.pids (is_born_in w) name y 1 t.part t.body (body-then name) at released)
          where
            deed-is : b.deed name ≡ InTable 1
            deed-is = ap b.deed is ∙ parent-at-leader

            at : moved (b.deed name) ≡ InTable 1
            at = ap moved deed-is

            held-is : get_named held_then name ≡ Some t.body
            held-is =
                subst (λ m. get_named held_then m ≡ Some (leader_beside.body m)) (sym is)
                (then-parent script w before b holds parcel c sender.call (InHand c) leader_parcel reads 1
                parent-at-leader)

            held-was : held_at w name 1 ≡ Some s.body
            held-was = seen.tables 1 ∙ ap (λ d. held_as d s.body 1) deed-is ∙ held-here 1 s.body

            held-now : (q : ℕ) → held_as (moved (b.deed name)) t.body q ≡ held_at w' name q
            held-now q =
                ap (λ d. held_as d t.body q) at
                ∙ elim (cases_eq q 1) [
                  | inl g ↦
                      subst (λ y. held_as (InTable 1) t.body y ≡ held_at w' name y) (sym g)
                      (held-here 1 t.body ∙ sym (held-one ∙ held-is))
                  | inr other ↦
                      held-elsewhere 1 q t.body other
                      ∙ sym (held-else q other ∙ seen.tables q ∙ ap (λ d. held_as d s.body q) deed-is
                      ∙ held-elsewhere 1 q s.body other)
                ]

    no-object : (name : Name) → is_object name ≡ true → has_deed_of name parcel ≡ true → ⊥
    no-object name g e =
        false≢true
        (sym (no-object-in script w before b holds parcel c sender.call (InHand c) leader_parcel name g) ∙ e)

    names-by : (name : Name) → has_deed_of name parcel ≡ true → get_named held_then name ≡ Some
        (leader_beside.body name)
    names-by (Proc q) e =
        then-in-parcel script w before b holds parcel c sender.call (InHand c) leader_parcel reads 1 parent-at-leader q
        e
    names-by (Msg id) e = absurd (no-object (Msg id) refl e)
    names-by (Sem id) e = absurd (no-object (Sem id) refl e)

    -- what holds of each name
    leader-names : (name : Name)
        → NameHolds script b.pids (is_born_in w') name (name_sight script w' hand_now leader_beside name)
    leader-names name = by-test (has_deed_of name parcel) refl
      where
        by-test : (t : Bool) → has_deed_of name parcel ≡ t
            → NameHolds script b.pids (is_born_in w') name (name_sight script w' hand_now leader_beside name)
        by-test true e = name-in-parcel name e (names-by name e)
        by-test false e =
            elim (name-cases name (Proc parcel.parent)) [
              | inl is ↦ name-of-parent name e is
              | inr other ↦ name-of-another name e other
            ]

    -- ---- the calls

    abbrev middle : Beside
    middle =
        between script w before b holds parcel c sender.call (InHand c) leader_parcel reads 1 parent-at-leader

    call-now : (p : ℕ)
        → SameCall (released_call of (call_sight w before middle p)) (call_sight w' hand_now leader_beside p)
    call-now p =
        record {
          number = sym (same (λ (m : Node). m.number) refl);
          pid = sym (same (λ (m : Node). m.pid) refl);
          stage = sym (same (λ (m : Node). m.stage) refl);
          caller = sym (same (λ (m : Node). m.caller) refl);
          leases = sym (same (λ (m : Node). m.leases) refl);
          place = refl;
          alive = refl;
          call = refl;
          frames_about = λ to r. sym (made-same script 1 w w' n [] [] entries changes
              (λ t s fs. filter (is_about p t s) fs) (λ t s. filter-is-list-map (is_about p t s)) tt tt to r);
          held = λ name. sym (ap (λ z. filter (is_item_about p) (held_for z name)) directory-now
              ∙ held-kept dir d2 of 1 arrives (is_item_about p) name);
          hand = sym (kept-in-hand script w items parcel b holds (is_item_about p) refl);
          waiters = λ name. sym (ap (filter (is_waiter_of p))
              (process-waiters script w before owes b holds after objects name));
        }
      where
        same : {A : Type 0} (f : Node → A) → f n ≡ f (node_of w 1) → f (node_of w' p) ≡ f (node_of w p)
        same f e = read-same script 1 w w' n [] [] entries changes f e p

    calls-then : (p : ℕ) → 1 ≤ p → p ≤ node_count script
        → CallHolds script p (is_born_in w') (call_sight w' hand_now leader_beside p)
    calls-then p low high =
        call-stays script p (is_born_in w) (is_born_in w') (released_call of (call_sight w before middle p))
        (call_sight w' hand_now leader_beside p) more (call-now p)
        (call-comes of script p (is_born_in w) (call_sight w before middle p)
        (parcel-apart script w items parcel b holds)
        (calls-between script w before b holds parcel c sender.call (InHand c) leader_parcel reads 1 parent-at-leader p
        low high))

    -- The exit is carried out at the leader, and what was held for the parcel's names is in hand. It may wake the
    -- parent.
    pub exit-at-leader : HoldsOwing script w' hand_now Wakes leader_beside
    exit-at-leader =
        exit-keeps script w before b holds parcel c sender.call (InHand c) leader_parcel reads 1 parent-at-leader moved
        refl (comes-released script b.pids of) where-moved calls_now cancels_now whole w' hand_now n [] changes
        is-exit-move leader-names
        calls-then
