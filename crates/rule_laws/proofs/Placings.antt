-- The leader is told where a new name is: it knows it from then on as it believed it.
use Rattle.std.proofs.Common.{◌≡◌, ◌≢◌, ◌⊎◌, ℕ, ◌≤◌, Bool, true, false, ◌&&◌, not, if◌then◌else◌, List, [], ◌∷◌, ◌++◌, length, filter, flat_map, nat_eq, nat_le, Contains, Option, Some, None, is_some, is_none, refl, ap, sym, subst, ◌∙◌, inl, inr, arith}
use Rattle.std.specs.List.{AllByRecursion}
use Rattle.std.proofs.lemmas.Bool.{eq-eqb, ne_eqb, le-leb, false≢true}
use Rattle.std.proofs.lemmas.List.Elements.{Contains-append_left, Contains-append_right, Contains-push}
use Rattle.pico_base.specs.declared.numbers.Name.{Name}
use Rattle.pico_base.specs.declared.numbers.Name.TheVariants.{Proc, Msg, Sem}
use Rattle.pico_base.specs.declared.script.Script.{Script}
use Rattle.pico_base.specs.declared.script.Event.TheVariants as events
use Rattle.rpc_frame.specs.declared.frame.Frame.{Frame}
use Rattle.rpc_frame.specs.declared.frame.Frame.TheVariants as frames
use Rattle.entry_laws.specs.Entering.{is_used_name}
use Rattle.node_model.specs.Kinds.{kind_of, number_of, get_named}
use Rattle.node_model.specs.Directory.{Directory, Place, At, Coming, place_of, place_name, with_place, items_of, destination_of, maker, maker_in, is_parcel_with}
use Rattle.node_model.specs.Leases.{leases_hold}
use Rattle.world_model.specs.Node.{Node, is_leader, is_node}
use Rattle.world_model.specs.Step.{Step, step_to, with_directory}
use Rattle.world_model.specs.Ranges.{take_placed}
use Rattle.world_model.specs.Census.{brings}
use Rattle.world_model.specs.World.{World, node_count, world_after}
use Rattle.world_laws.specs.Places.{Beside}
use Rattle.world_laws.specs.Sights.{node_of, frames_to, directory_of, stage_of, is_born_in}
use Rattle.world_laws.specs.Plays.{finds_place, Somewhere, believed, told, is_there, is_checkpoint_of, has_any, placed_in, news, News, plays, begin}
use Rattle.world_laws.specs.Names.{PlaysTo, NameSight, name_sight, NameHolds, IsTold, IsItemFor, held_at, comes_to, belief_of, maker_tells, is_nowhere, range_steps_of, forker, is_maker, SaysOf}
use Rattle.world_laws.specs.Ranges.{kind_sight}
use Rattle.world_laws.specs.Families.{NodeHolds}
use Rattle.world_laws.specs.Cancels.{Nothing}
use Rattle.world_laws.specs.Invariant.{Holds}
use Rattle.world_laws.proofs.Named.{name-cases, same-name, other-name}
use Rattle.world_laws.proofs.Stays.{IsMore, SameName, name-stays}
use Rattle.world_laws.proofs.Changes.{Changes, taken, made-before, filter-is-list-map, flat_map-is-list-map, made-same, only-stayed, read-same}
use Rattle.world_laws.proofs.LeftAlone.{LeavesName, DirectoryLeaves, name-left-alone}
use Rattle.world_laws.proofs.Steps.{KeepsAs, Heads, world_without, take-steps, changes-by-take}
use Rattle.world_laws.proofs.Numbers.{used-is-taken, zero-is-unused}
use Rattle.world_laws.proofs.Heads.{head-is, head-may-be, head-from-another}
use Rattle.rule_laws.proofs.Quiet.{IsQuiet, SameButPlaces, quiet-keeps, quiet-born}
use Rattle.rule_laws.proofs.Nodes.{node-with-directory, and-true}
use Rattle.rule_laws.proofs.Places.{directory-leaves, place-with-same, place-with-other, with-place-keeps, itself-keeps}

-- ---- the name

-- where the leader knows it now, and what there is still to be told of it
abbrev pub known-at : NameSight → Option Place → (ℕ → List ℕ) → (ℕ → List News) → NameSight
known-at x place tells needs = record x { place = place; placed = tells; news = needs }

-- it is known as it was believed, and less is on its way
pub record IsPlaced (x : NameSight) (place : Option Place) (tells : ℕ → List ℕ) : Type 0 where
  pub is_known : is_some place ≡ true
  pub is_used : x.used ≡ true
  pub belief_is : believed place (maker_tells x x.maker) ≡ belief_of x
  pub items_are : items_of place ≡ items_of x.place
  pub bound_is : destination_of place ≡ destination_of x.place
  pub fewer : (sender node : ℕ) → Contains (tells sender) node → Contains (x.placed sender) node

known-belief : (place : Option Place) (xs ys : List ℕ) → is_some place ≡ true → believed place xs ≡ believed place ys
known-belief None xs ys h = absurd (false≢true h)
known-belief (Some (At node)) xs ys h = refl
known-belief (Some (Coming to items)) xs ys h = refl

none-is-known : (place : Option Place) → is_some place ≡ true → place ≡ None → ⊥
none-is-known place h e = false≢true (sym (ap is_some e) ∙ h)

known-finds : (known : Bool) (ns : List News) → known ≡ true
    → finds_place known ns ≡ true
known-finds true ns h = refl
known-finds false ns h = absurd (false≢true h)

-- all holds of the name that is known now
pub name-placed : (script : Script) (pids : ℕ → ℕ) (born : ℕ → Bool) (name : Name) (x : NameSight)
    (place : Option Place) (tells : ℕ → List ℕ) (needs : ℕ → List News) → IsPlaced x place tells
    → NameHolds script pids born name x → NameHolds script pids born name (known-at x place tells needs)
name-placed script pids born name x place tells needs s h =
    record {
      parts = h.parts;
      callers = h.callers;
      made = h.made;
      place_fits = h.place_fits;
      tables = h.tables;
      streams = h.streams;
      kept = h.kept;
      in_hand = h.in_hand;
      known = λ e. s.is_used;
      believed = λ used. subst (λ c. is_nowhere c ≡ false) (sym same) (h.believed used);
      plays = λ q low. subst (λ c. PlaysTo (x.begins q) (x.steps q) (is_there q c)) (sym same)
          (h.plays q low);
      leader = subst (λ c. is_some (x.held 1) ≡ is_there 1 c) (sym same) h.leader;
      told = λ sender node there. h.told sender node (s.fewer sender node there);
      found = λ q low. known-finds (is_some place) (needs q) s.is_known;
      unplaced = λ used e. absurd (none-is-known place s.is_known e);
      ranged = h.ranged;
      leased = h.leased;
      bound = λ to e. h.bound to (sym s.bound_is ∙ e);
      items = subst (λ is. AllByRecursion (IsItemFor name) is) (sym s.items_are) h.items;
    }
  where
    same : belief_of (known-at x place tells needs) ≡ belief_of x
    same =
        known-belief place (maker_tells (known-at x place tells needs) x.maker) (maker_tells x x.maker) s.is_known
        ∙ s.belief_is

-- ---- the event

module _ (script : Script) (w : World) (b : Beside) (holds : Holds script w [] b) (p q : ℕ) (name : Name) (node : ℕ)
    (rest : List Frame) (h : Heads script w p q (frames.Placed name node) rest) where
  abbrev x : NameSight
  x = name_sight script w [] b name

  abbrev n : Node
  n = node_of w p

  abbrev d : Directory
  d = directory_of w

  known : NameHolds script b.pids (is_born_in w) name x
  known = holds.names name

  other : q ≢ p
  other = head-from-another script w p q (frames.Placed name node) rest h (is_born_in w) holds.frames_fit

  first : p ≡ 1
  first = head-may-be script w p q (frames.Placed name node) rest h (is_born_in w) holds.frames_fit

  not-first : q ≢ 1
  not-first e = other (e ∙ sym first)

  placed-first : x.placed q ≡ node ∷ placed_in name rest
  placed-first =
      subst (λ y. placed_in name (frames_to w y q) ≡ node ∷ placed_in name rest) first
      (ap (λ fs. placed_in name fs) (head-is script w p q (frames.Placed name node) rest h)
      ∙ ap (λ t. (if t then node ∷ [] else []) ++ placed_in name rest) (same-name name name refl))

  is-told : IsTold b.pids name x.used x.maker q node
  is-told =
      known.told q node
      (subst (λ ns. Contains ns node) (sym placed-first)
      (Contains-append_left (node ∷ []) (placed_in name rest) node (Contains-push [] node)))

  node-holds : NodeHolds script b.pids (is_born_in w) p n
  node-holds = holds.nodes p h.low h.high

  used-number : (pid : ℕ) → name ≡ Proc pid → pid ≢ 0
  used-number pid e z =
      let none : x.used ≡ false =
      subst (λ m. is_used_name b.kernel m ≡ false) (sym (e ∙ ap Proc z))
      (zero-is-unused (is_born_in w) (kind_sight w b.kernel (kind_of (Proc 0))) (holds.kinds (kind_of (Proc 0))))
      in false≢true (sym none ∙ is-told.used)

  in-range : (m : Name) → m ≡ name → SaysOf b.pids m q node → (1 ≤ node) × (node ≤ node_count script)
  in-range (Proc pid) e says =
      holds.pids.nodes node (λ z. used-number pid (sym e) (sym says ∙ z))
  in-range (Msg id) e says =
      let low = h.low_from in let high = h.high_from in (omega (arith, says, low), omega (arith, says, high))
  in-range (Sem id) e says =
      let low = h.low_from in let high = h.high_from in (omega (arith, says, low), omega (arith, says, high))

  is-node : is_node script node ≡ true
  is-node =
      let both = in-range name refl is-told.says
      in and-true (nat_le 1 node) (nat_le node (length script.blocks)) (le-leb 1 node both.0)
      (le-leb node (length script.blocks) both.1)

  not-leased : leases_hold n.leases name ≡ false
  not-leased =
      used-is-taken (is_born_in w) (kind_sight w b.kernel (kind_of name)) (holds.kinds (kind_of name))
      (number_of name) p h.low is-told.used

  abbrev after : Step
  after = step_to (with_directory n (place_name n.leader.directory name node))

  all-true : (leads from is_node is_first leased : Bool) → leads ≡ true → from ≡ false → is_node ≡ true
      → is_first ≡ false → leased ≡ false
      → ((leads && not from) && (is_node && (not is_first && not leased))) ≡ true
  all-true leads from is_node is_first leased a c d e f = rw (a, c, d, e, f) refl

  rule : take_placed script n q name node ≡ Some after
  rule =
      ap (λ t. if t then Some after else None)
      (all-true (is_leader n) (nat_eq q 1) (is_node script node) (nat_eq node 1) (leases_hold n.leases name)
      (eq-eqb n.number 1 (node-holds.number ∙ first)) (ne_eqb q 1 not-first) is-node (ne_eqb node 1 is-told.other)
      not-leased)

  -- what it changes

  abbrev next : World
  next = world_after (world_without w p q rest) p after

  abbrev takes : List (ℕ × Frame)
  takes = (q, frames.Placed name node) ∷ []

  changes : Changes script p w next after.node takes after.sends []
  changes = changes-by-take script w holds.shape p q (frames.Placed name node) rest after h tt

  was-first : n.leader.directory ≡ d
  was-first = ap (λ y. (node_of w y).leader.directory) first

  directory-now : directory_of next ≡ place_name d name node
  directory-now =
      subst (λ y. (node_of next y).leader.directory ≡ place_name d name node) first
      (ap (λ (m : Node). m.leader.directory) changes.here ∙ ap (λ y. place_name y name node) was-first)

  -- the name is known already, or it becomes known
  no-place : (o : Option Place) → is_none o ≡ true → o ≡ None
  no-place None e = refl
  no-place (Some v) e = absurd (false≢true e)

  known-some : (o : Option Place) → is_none o ≡ false → is_some o ≡ true
  known-some (Some v) e = refl
  known-some None e = absurd (false≢true (sym e))

  cases : (is_none (place_of d name) ≡ false) ⊎ (is_none (place_of d name) ≡ true)
  cases = by-test (is_none (place_of d name)) refl
    where
      by-test : (t : Bool) → is_none (place_of d name) ≡ t
          → (is_none (place_of d name) ≡ false) ⊎ (is_none (place_of d name) ≡ true)
      by-test true e = inr e
      by-test false e = inl e

  now-itself : is_none (place_of d name) ≡ false → place_name d name node ≡ d
  now-itself e = ap (λ t. if not t then d else with_place d name (At node)) e

  now-at : is_none (place_of d name) ≡ true → place_name d name node ≡ with_place d name (At node)
  now-at e = ap (λ t. if not t then d else with_place d name (At node)) e

  but-places : SameButPlaces d (directory_of next)
  but-places =
      subst (λ (y : Directory). SameButPlaces d y) (sym directory-now)
      (elim cases [
        | inl e ↦
            subst (λ (y : Directory). SameButPlaces d y) (sym (now-itself e)) (itself-keeps d holds.leading)
        | inr e ↦
            subst (λ (y : Directory). SameButPlaces d y) (sym (now-at e))
            (with-place-keeps d name (At node) holds.leading (sym (ap items_of (no-place (place_of d name) e))))
      ])

  place-elsewhere : (m : Name) → m ≢ name → place_of (directory_of next) m ≡ place_of d m
  place-elsewhere m e =
      ap (λ y. place_of y m) directory-now
      ∙ elim cases [
        | inl f ↦ ap (λ y. place_of y m) (now-itself f)
        | inr f ↦ ap (λ y. place_of y m) (now-at f) ∙ place-with-other d name (At node) m e
      ]

  quiet : IsQuiet script w next b b.deed p after.node takes after.sends
  quiet =
      record {
        caller = record { number = refl; pid = refl; stage = refl; caller = refl; leases = refl };
        queue_keys = refl;
        set_keys = refl;
        directory = but-places;
        node = node-with-directory script b.pids (is_born_in w) p n (place_name n.leader.directory name node)
            first node-holds;
        deeds = λ pid. refl;
        plain_taken = (refl, tt);
        plain_sent = tt;
        no_birth_taken = (refl, tt);
        no_birth_sent = tt;
        no_lease_taken = λ kind. (refl, tt);
        no_lease_sent = λ kind. tt;
        of_no_call = λ y. (refl, tt);
        sent_of_no_call = λ y. tt;
        no_cancel_taken = λ y. (refl, tt);
        no_cancel_sent = λ y. tt;
        may_be_sent = tt;
        to_others = tt;
      }

  abbrev place-now : Option Place
  place-now = place_of (directory_of next) name

  abbrev tells : ℕ → List ℕ
  tells s = placed_in name (frames_to next 1 s)

  abbrev needs : ℕ → List News
  needs s = news name (x.used && is_maker (maker (directory_of next) name) s) (frames_to next 1 s)

  place-now-same : is_none (place_of d name) ≡ false → place-now ≡ place_of d name
  place-now-same e = ap (λ y. place_of y name) (directory-now ∙ now-itself e)

  place-now-at : is_none (place_of d name) ≡ true → place-now ≡ Some (At node)
  place-now-at e = ap (λ y. place_of y name) (directory-now ∙ now-at e) ∙ place-with-same d name (At node)

  belief-told : is_none (place_of d name) ≡ true → Somewhere node ≡ belief_of x
  belief-told e =
      sym (ap (λ o. believed o (maker_tells x x.maker)) (no-place (place_of d name) e)
      ∙ ap (λ m. told (maker_tells x m)) is-told.maker ∙ ap told placed-first)

  is-placed : IsPlaced x place-now tells
  is-placed =
      record {
        is_known = elim cases [
          | inl e ↦ ap is_some (place-now-same e) ∙ known-some (place_of d name) e
          | inr e ↦ ap is_some (place-now-at e)
        ];
        is_used = is-told.used;
        belief_is = elim cases [
          | inl e ↦ ap (λ o. believed o (maker_tells x x.maker)) (place-now-same e)
          | inr e ↦ ap (λ o. believed o (maker_tells x x.maker)) (place-now-at e) ∙ belief-told e
        ];
        items_are = let same = but-places in same.held_is name;
        bound_is = elim cases [
          | inl e ↦ ap destination_of (place-now-same e)
          | inr e ↦ ap destination_of (place-now-at e)
              ∙ sym (ap destination_of (no-place (place_of d name) e))
        ];
        fewer = λ s v there. subst (λ ns. Contains ns v)
            (sym (made-before script p w next after.node takes after.sends [] changes
            (λ t s fs. placed_in name fs) (λ t s. flat_map-is-list-map _) 1 s))
            (Contains-append_right (placed_in name (taken p takes 1 s)) (placed_in name (changes.left 1 s)) v
            (subst (λ ns. Contains ns v)
            (only-stayed script p w next after.node takes after.sends [] changes
            (λ t s fs. placed_in name fs) (λ t s. flat_map-is-list-map _) tt 1 s) there));
      }

  comes-now : (y : ℕ) → comes_to script next name y ≡ comes_to script w name y
  comes-now y =
      ap (λ fs. not (nat_eq (forker script y) 1) && has_any fs)
      (made-same script p w next after.node takes after.sends [] changes
      (λ t s fs. filter (is_checkpoint_of name) fs) (λ t s. filter-is-list-map (is_checkpoint_of name)) (refl, tt)
      tt y (forker script y))

  begins-now : (y : ℕ)
      → x.begins y ≡ begin (stage_of next y) (is_some (held_at next name y)) (comes_to script next name y)
  begins-now y =
      ap (begin (stage_of w y) (is_some (held_at w name y))) (sym (comes-now y))
      ∙ sym (read-same script p w next after.node takes after.sends [] changes
      (λ (m : Node). begin m.stage (is_some (get_named m.deeds name)) (comes_to script next name y)) refl y)

  leaves : (m : Name) → place_of (directory_of next) m ≡ place_of d m → DirectoryLeaves d (directory_of next) m
  leaves m e = directory-leaves d (directory_of next) m but-places e

  sight-now : SameName (known-at x place-now tells needs) (name_sight script next [] b name)
  sight-now =
      let same = but-places
      in record {
        place = refl;
        maker = ap (λ ranges. maker_in ranges (number_of name)) (sym (same.ranges_are (kind_of name)));
        stays = λ y. ap is_none (sym (same.partings_are y));
        used = refl;
        part = refl;
        body = refl;
        deed = refl;
        held = λ y. sym (read-same script p w next after.node takes after.sends [] changes
            (λ (m : Node). get_named m.deeds name) refl y);
        brought = λ to sender. sym (made-same script p w next after.node takes after.sends [] changes
            (λ t s fs. filter (brings name) fs) (λ t s. filter-is-list-map (brings name)) (refl, tt) tt to
            sender);
        kept = λ pid. ap (filter (is_parcel_with name)) (sym (same.held_is (Proc pid)));
        hand = refl;
        begins = begins-now;
        steps = λ y. sym (made-same script p w next after.node takes after.sends [] changes
            (λ t s fs. plays x.used b.call name fs) (λ t s. flat_map-is-list-map _) (refl, tt) tt y 1);
        ranges = λ y. sym (made-same script p w next after.node takes after.sends [] changes
            (λ t s fs. flat_map (range_steps_of x.used b.call name) fs) (λ t s. flat_map-is-list-map _) (refl, tt) tt y
            1);
        placed = λ y. refl;
        news = λ y. refl;
      }

  others : (m : Name) → m ≢ name → LeavesName w next [] [] b b p after.node changes.left m
  others m e =
      record {
        directory = leaves m (place-elsewhere m e);
        used_is = refl;
        part_is = refl;
        body_is = refl;
        deed_is = refl;
        held_is = refl;
        begins_is = λ holds_it comes. refl;
        hand_is = refl;
        steps_are = λ used y. refl;
        ranges_are = λ used y. refl;
      }

  names : (m : Name) → NameHolds script b.pids (is_born_in next) m (name_sight script next [] b m)
  names m =
      elim (name-cases m name) [
        | inl e ↦
            subst (λ y. NameHolds script b.pids (is_born_in next) y (name_sight script next [] b y)) (sym e)
            (name-stays script b.pids (is_born_in w) (is_born_in next) name _ _ more sight-now
            (name-placed script b.pids (is_born_in w) name x place-now tells needs is-placed known))
        | inr e ↦
            name-stays script b.pids (is_born_in w) (is_born_in next) m _ _ more
            (name-left-alone script p w next after.node takes after.sends [] changes [] [] b b m (others m e)
            (other-name m name e, tt) tt) (holds.names m)
      ]
    where
      more : IsMore (is_born_in w) (is_born_in next)
      more = quiet-born script w next [] Nothing b b.deed p after.node takes after.sends h.low h.high holds changes
          quiet

  -- Nothing beside the world changes.
  pub placed-keeps : KeepsAs script w (events.Take p q) b
  placed-keeps =
      record {
        next = next;
        is_step = take-steps script w p q (frames.Placed name node) rest after holds.shape h rule refl;
        holds = quiet-keeps script w next [] Nothing b b.deed p after.node takes after.sends h.low h.high holds changes
            quiet
            names;
      }
