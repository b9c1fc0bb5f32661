-- The leader is told that a queue or set would be better at another node: it asks the owner for it, if it is still
-- there and the other node stays.
use Rattle.std.proofs.Common.{◌≡◌, ◌≢◌, ℕ, ◌-◌, ◌<◌, ◌≤◌, Bool, true, false, ◌&&◌, not, if◌then◌else◌, List, [], ◌∷◌, ◌++◌, length, filter, flat_map, nat_eq, nat_le, Option, Some, None, is_some, is_none, unwrap_or, refl, ap, sym, subst, ◌∙◌, inl, inr, arith, append-nil}
use Rattle.std.proofs.lemmas.Bool.{cases_eq, cases_lt, eqb-true, eq-eqb, ne_eqb, le-leb, le-ltb, false≢true}
use Rattle.std.proofs.lemmas.Option.{slice_get_past}
use Rattle.pico_base.specs.declared.numbers.Name.{Name}
use Rattle.pico_base.specs.declared.numbers.Name.TheVariants.{Proc}
use Rattle.pico_base.specs.declared.script.Script.{Script}
use Rattle.pico_base.specs.declared.script.Event.TheVariants as events
use Rattle.rpc_frame.specs.declared.frame.Frame.{Frame}
use Rattle.rpc_frame.specs.declared.frame.Frame.TheVariants as frames
use Rattle.node_model.specs.Kinds.{is_object, kind_of, number_of, get_named}
use Rattle.node_model.specs.Directory.{Directory, Place, At, Coming, place_of, with_place, items_of, maker, maker_in, stays, is_parcel_with}
use Rattle.world_model.specs.Node.{Node, is_leader, is_node, unborn_node}
use Rattle.world_model.specs.Step.{Step, step_to}
use Rattle.world_model.specs.Moves.{take_suggest, suggest, is_at}
use Rattle.world_model.specs.Routes.{recall_from}
use Rattle.world_model.specs.Census.{brings}
use Rattle.world_model.specs.World.{World, node_count, world_after, node_at, is_number}
use Rattle.world_laws.specs.Places.{Beside}
use Rattle.world_laws.specs.Sights.{node_of, frames_to, directory_of, stage_of, is_born_in, is_born_stage}
use Rattle.world_laws.specs.Plays.{Hold, Has, Lacks, Done, Somewhere, believed, is_there, is_has, is_checkpoint_of, has_any, placed_in, news, plays, play_on, Goes, steps_if, begin}
use Rattle.world_laws.specs.Names.{NameSight, name_sight, NameHolds, PlaysTo, held_at, comes_to, belief_of, maker_tells, range_steps_of, forker, is_maker}
use Rattle.world_laws.specs.Families.{NodeHolds}
use Rattle.world_laws.specs.Cancels.{Nothing}
use Rattle.world_laws.specs.Invariant.{Holds, MayBe, IsShaped}
use Rattle.world_laws.proofs.Named.{name-cases, same-name, other-name}
use Rattle.world_laws.proofs.Played.{play-append}
use Rattle.world_laws.proofs.Sends.{frame_if}
use Rattle.world_laws.proofs.Stays.{IsMore, SameName, name-stays}
use Rattle.world_laws.proofs.Changes.{Changes, sent, filter-is-list-map, flat_map-is-list-map, made-after, made-same, stayed, read-same}
use Rattle.world_laws.proofs.LeftAlone.{LeavesName, same-directory, name-left-alone}
use Rattle.world_laws.proofs.Steps.{KeepsAs, Heads, world_without, take-steps, changes-by-take}
use Rattle.world_laws.proofs.Heads.{head-may-be, head-from-another}
use Rattle.rule_laws.proofs.Quiet.{IsQuiet, SameButPlaces, quiet-keeps, quiet-born}
use Rattle.rule_laws.proofs.Nodes.{node-with-directory, and-true}
use Rattle.rule_laws.proofs.Places.{directory-leaves, place-with-same, place-with-other, with-place-keeps, itself-keeps}

-- a node that is born is one of the script
pub born-in-range : (script : Script) (w : World) → IsShaped script w → (x : ℕ) → is_born_in w x ≡ true
    → (1 ≤ x) × (x ≤ node_count script)
born-in-range script w s x born =
    elim (cases_eq x 0) [
      | inl zero ↦
          absurd
          (false≢true
          (ap (λ (m : Node). is_born_stage m.stage)
          (sym (ap (λ t. unwrap_or (if t then node_at w x else None) (unborn_node x)) (le-ltb 0 x (omega
          (arith, zero)))))
          ∙ born))
      | inr some ↦
          elim (cases_lt (node_count script) x) [
            | inl past ↦
                absurd
                (false≢true
                (ap (λ (m : Node). is_born_stage m.stage) (sym (nobody past (is_number x))) ∙ born))
            | inr within ↦ (omega (arith, some), omega (arith, within))
          ]
    ]
  where
    nobody : node_count script < x → (t : Bool)
        → unwrap_or (if t then node_at w x else None) (unborn_node x) ≡ unborn_node x
    nobody past true =
        ap (λ o. unwrap_or o (unborn_node x))
        (slice_get_past w.nodes (x - 1) (subst (λ k. k ≤ x - 1) (sym s.nodes) (omega (arith, past))))
    nobody past false = refl

-- ---- the name

-- it is on its way to the leader now, and the owner is asked for it
abbrev pub asked-back : NameSight → ℕ → ℕ → NameSight
asked-back x owner to =
    record x { place = Some (Coming (Some to) []); steps = λ h. x.steps h ++ steps_if (nat_eq h owner) Goes }

has-is : (hold : Hold) → is_has hold ≡ true → hold ≡ Has
has-is Has h = refl
has-is Lacks h = absurd (false≢true h)
has-is Done h = absurd (false≢true h)

some-same : (a b : ℕ) → Some a ≡ Some b → a ≡ b
some-same a b h = cc

none-is-some : (a : Place) → Some a ≡ None → ⊥
none-is-some a h = false≢true (sym (ap is_some h))

module _ (script : Script) (pids : ℕ → ℕ) (born : ℕ → Bool) (name : Name) (x : NameSight)
    (h : NameHolds script pids born name x) (owner to : ℕ) (low : 2 ≤ owner) (object : is_object name ≡ true)
    (is_born : born to ≡ true) (place : x.place ≡ Some (At owner)) where
  belief : belief_of x ≡ Somewhere owner
  belief = ap (λ o. believed o (maker_tells x x.maker)) place

  plays-at-owner : PlaysTo (x.begins owner) (x.steps owner ++ Goes ∷ []) false
  plays-at-owner =
      let old : PlaysTo (x.begins owner) (x.steps owner) (is_there owner (belief_of x)) = h.plays owner low
      in let has : old.last ≡ Has =
      has-is old.last (old.agrees ∙ ap (is_there owner) belief ∙ eq-eqb owner owner refl)
      in record {
        last = Lacks;
        plays = play-append (x.steps owner) (Goes ∷ []) (Some (x.begins owner))
            ∙ ap (play_on (Goes ∷ [])) (old.plays ∙ ap Some has);
        agrees = refl;
      }

  plays-elsewhere : (q : ℕ) → 2 ≤ q → q ≢ owner → PlaysTo (x.begins q) (x.steps q ++ []) false
  plays-elsewhere q low_q d =
      subst (λ t. PlaysTo (x.begins q) (x.steps q ++ []) t)
      (ap (is_there q) belief ∙ ne_eqb owner q (λ e. d (sym e)))
      (subst (λ ss. PlaysTo (x.begins q) ss (is_there q (belief_of x))) (sym (append-nil (x.steps q)))
      (h.plays q low_q))

  plays-now : (q : ℕ) → 2 ≤ q → PlaysTo (x.begins q) (x.steps q ++ steps_if (nat_eq q owner) Goes) false
  plays-now q low_q =
      elim (cases_eq q owner) [
        | inl e ↦
            subst (λ t. PlaysTo (x.begins q) (x.steps q ++ steps_if t Goes) false) (sym (eq-eqb q owner e))
            (subst (λ y. PlaysTo (x.begins y) (x.steps y ++ Goes ∷ []) false) (sym e) plays-at-owner)
        | inr d ↦
            subst (λ t. PlaysTo (x.begins q) (x.steps q ++ steps_if t Goes) false) (sym (ne_eqb q owner d))
            (plays-elsewhere q low_q d)
      ]

  -- all holds of the name that is asked back
  pub name-asked-back : NameHolds script pids born name (asked-back x owner to)
  name-asked-back =
      record {
        parts = h.parts;
        callers = h.callers;
        made = h.made;
        place_fits = h.place_fits;
        tables = h.tables;
        streams = h.streams;
        kept = h.kept;
        in_hand = h.in_hand;
        known = λ e. h.known (ap is_some place);
        believed = λ used. refl;
        plays = plays-now;
        leader = h.leader ∙ ap (is_there 1) belief ∙ ne_eqb owner 1 (λ e. omega (arith, e, low));
        told = h.told;
        found = λ q low_q. refl;
        unplaced = λ used e. absurd (none-is-some (Coming (Some to) []) e);
        ranged = h.ranged;
        leased = h.leased;
        bound = λ y e. record { object = object; is_born = subst (λ v. born v ≡ true) (some-same to y e) is_born };
        items = tt;
      }

-- ---- the event

module _ (script : Script) (w : World) (b : Beside) (holds : Holds script w [] b) (q : ℕ) (name : Name) (to : ℕ)
    (rest : List Frame) (h : Heads script w 1 q (frames.Suggest name to) rest) where
  abbrev x : NameSight
  x = name_sight script w [] b name

  abbrev n : Node
  n = node_of w 1

  abbrev d : Directory
  d = directory_of w

  other : q ≢ 1
  other = head-from-another script w 1 q (frames.Suggest name to) rest h (is_born_in w) holds.frames_fit

  may : MayBe script (is_born_in w) 1 q (frames.Suggest name to)
  may = head-may-be script w 1 q (frames.Suggest name to) rest h (is_born_in w) holds.frames_fit

  object : is_object name ≡ true
  object = may.1

  node-holds : NodeHolds script b.pids (is_born_in w) 1 n
  node-holds = holds.nodes 1 h.low h.high

  is-node : is_node script to ≡ true
  is-node =
      let both = born-in-range script w holds.shape to may.2
      in and-true (nat_le 1 to) (nat_le to (length script.blocks)) (le-leb 1 to both.0)
      (le-leb to (length script.blocks) both.1)

  all-true : (leads from is_node is_object : Bool) → leads ≡ true → from ≡ false → is_node ≡ true → is_object ≡ true
      → ((leads && not from) && (is_node && is_object)) ≡ true
  all-true leads from is_node is_object a c e f = rw (a, c, e, f) refl

  rule-by : take_suggest script n q name to ≡ Some (suggest n q name to)
  rule-by =
      ap (λ t. if t then Some (suggest n q name to) else None)
      (all-true (is_leader n) (nat_eq q 1) (is_node script to) (is_object name)
      (eq-eqb n.number 1 node-holds.number) (ne_eqb q 1 other) is-node object)

  abbrev takes : List (ℕ × Frame)
  takes = (q, frames.Suggest name to) ∷ []

  -- ---- it moves

  module _ (place : place_of d name ≡ Some (At q)) (stays_there : stays d to ≡ true) where
    abbrev after : Step
    after = recall_from (step_to n) name (Some to) q

    abbrev next : World
    next = world_after (world_without w 1 q rest) 1 after

    changes : Changes script 1 w next after.node takes after.sends []
    changes =
        changes-by-take script w holds.shape 1 q (frames.Suggest name to) rest after h
        (record { low = h.low_from; high = h.high_from }, tt)

    low-owner : 2 ≤ q
    low-owner = let low = h.low_from in omega (arith, low, other)

    directory-now : directory_of next ≡ with_place d name (Coming (Some to) [])
    directory-now = ap (λ (m : Node). m.leader.directory) changes.here

    but-places : SameButPlaces d (directory_of next)
    but-places =
        subst (λ (y : Directory). SameButPlaces d y) (sym directory-now)
        (with-place-keeps d name (Coming (Some to) []) holds.leading (sym (ap items_of place)))

    quiet : IsQuiet script w next b b.deed 1 after.node takes after.sends
    quiet =
        record {
          caller = record { number = refl; pid = refl; stage = refl; caller = refl; leases = refl };
          queue_keys = refl;
          set_keys = refl;
          directory = but-places;
          node = node-with-directory script b.pids (is_born_in w) 1 n (with_place d name (Coming (Some to) []))
              refl node-holds;
          deeds = λ pid. refl;
          plain_taken = (refl, tt);
          plain_sent = (refl, tt);
          no_birth_taken = (refl, tt);
          no_birth_sent = (refl, tt);
          no_lease_taken = λ kind. (refl, tt);
          no_lease_sent = λ kind. (refl, tt);
          of_no_call = λ y. (refl, tt);
          sent_of_no_call = λ y. (refl, tt);
          no_cancel_taken = λ y. (refl, tt);
          no_cancel_sent = λ y. (refl, tt);
          may_be_sent = ((refl, object), tt);
          to_others = (other, tt);
        }

    comes-now : (y : ℕ) → comes_to script next name y ≡ comes_to script w name y
    comes-now y =
        ap (λ fs. not (nat_eq (forker script y) 1) && has_any fs)
        (made-same script 1 w next after.node takes after.sends [] changes
        (λ t s fs. filter (is_checkpoint_of name) fs) (λ t s. filter-is-list-map (is_checkpoint_of name))
        (refl, tt) (refl, tt) y (forker script y))

    begins-now : (y : ℕ)
        → x.begins y ≡ begin (stage_of next y) (is_some (held_at next name y)) (comes_to script next name y)
    begins-now y =
        ap (begin (stage_of w y) (is_some (held_at w name y))) (sym (comes-now y))
        ∙ sym (read-same script 1 w next after.node takes after.sends [] changes
        (λ (m : Node). begin m.stage (is_some (get_named m.deeds name)) (comes_to script next name y)) refl y)

    goes-if : (t : Bool) → plays x.used b.call name (frame_if t (frames.Recall name) ++ []) ≡ steps_if t Goes
    goes-if true = ap (λ u. steps_if u Goes ++ []) (same-name name name refl)
    goes-if false = refl

    steps-now : (y : ℕ)
        → x.steps y ++ steps_if (nat_eq y q) Goes ≡ plays x.used b.call name (frames_to next y 1)
    steps-now y =
        sym (made-after script 1 w next after.node takes after.sends [] changes (λ t s fs. plays x.used b.call name fs)
        (λ t s. flat_map-is-list-map _) y 1
        ∙ ap (λ ss. ss ++ plays x.used b.call name (sent 1 after.sends y 1))
        (stayed script 1 w next after.node takes after.sends [] changes (λ t s fs. plays x.used b.call name fs)
        (λ t s. flat_map-is-list-map _) (refl, tt) y 1)
        ∙ ap (λ ss. x.steps y ++ ss) (goes-if (nat_eq y q)))

    sight-now : SameName (asked-back x q to) (name_sight script next [] b name)
    sight-now =
        let same = but-places
        in record {
          place = sym (ap (λ y. place_of y name) directory-now
              ∙ place-with-same d name (Coming (Some to) []));
          maker = ap (λ ranges. maker_in ranges (number_of name)) (sym (same.ranges_are (kind_of name)));
          stays = λ y. ap is_none (sym (same.partings_are y));
          used = refl;
          part = refl;
          body = refl;
          deed = refl;
          held = λ y. sym (read-same script 1 w next after.node takes after.sends [] changes
              (λ (m : Node). get_named m.deeds name) refl y);
          brought = λ t s. sym (made-same script 1 w next after.node takes after.sends [] changes
              (λ t s fs. filter (brings name) fs) (λ t s. filter-is-list-map (brings name)) (refl, tt) (refl, tt)
              t s);
          kept = λ pid. ap (filter (is_parcel_with name)) (sym (same.held_is (Proc pid)));
          hand = refl;
          begins = begins-now;
          steps = steps-now;
          ranges = λ y. sym (made-same script 1 w next after.node takes after.sends [] changes
              (λ t s fs. flat_map (range_steps_of x.used b.call name) fs) (λ t s. flat_map-is-list-map _) (refl, tt)
              (refl, tt) y 1);
          placed = λ y. sym (made-same script 1 w next after.node takes after.sends [] changes
              (λ t s fs. placed_in name fs) (λ t s. flat_map-is-list-map _) (refl, tt) (refl, tt) 1 y);
          news = λ y. ap (λ ranges. news name (x.used && is_maker (maker_in ranges (number_of name)) y)
              (frames_to w 1 y))
              (sym (same.ranges_are (kind_of name)))
              ∙ sym (made-same script 1 w next after.node takes after.sends [] changes
              (λ t s fs. news name (x.used && is_maker (maker (directory_of next) name) s) fs)
              (λ t s. flat_map-is-list-map _) (refl, tt) (refl, tt) 1 y);
        }

    others : (m : Name) → m ≢ name → LeavesName w next [] [] b b 1 after.node changes.left m
    others m e =
        record {
          directory = directory-leaves d (directory_of next) m but-places
              (ap (λ y. place_of y m) directory-now ∙ place-with-other d name (Coming (Some to) []) m e);
          used_is = refl;
          part_is = refl;
          body_is = refl;
          deed_is = refl;
          held_is = refl;
          begins_is = λ holds_it comes. refl;
          hand_is = refl;
          steps_are = λ used y. refl;
          ranges_are = λ used y. refl;
        }

    names : (m : Name) → NameHolds script b.pids (is_born_in next) m (name_sight script next [] b m)
    names m =
        elim (name-cases m name) [
          | inl e ↦
              subst (λ y. NameHolds script b.pids (is_born_in next) y (name_sight script next [] b y)) (sym e)
              (name-stays script b.pids (is_born_in w) (is_born_in next) name _ _ more sight-now
              (name-asked-back script b.pids (is_born_in w) name x (holds.names name) q to low-owner object may.2
              place))
          | inr e ↦
              name-stays script b.pids (is_born_in w) (is_born_in next) m _ _ more
              (name-left-alone script 1 w next after.node takes after.sends [] changes [] [] b b m (others m e)
              (refl, tt) (other-name m name e, tt)) (holds.names m)
        ]
      where
        more : IsMore (is_born_in w) (is_born_in next)
        more = quiet-born script w next [] Nothing b b.deed 1 after.node takes after.sends h.low h.high holds changes
            quiet

    is-at : is_at q (place_of d name) ≡ true
    is-at = ap (is_at q) place ∙ eq-eqb q q refl

    rule : take_suggest script n q name to ≡ Some after
    rule =
        rule-by
        ∙ ap (λ t. Some (if t then recall_from (step_to n) name (Some to) q else step_to n))
        (and-true (is_at q (place_of d name)) (stays d to) is-at stays_there)

    moves-keeps : KeepsAs script w (events.Take 1 q) b
    moves-keeps =
        record {
          next = next;
          is_step = take-steps script w 1 q (frames.Suggest name to) rest after holds.shape h rule refl;
          holds = quiet-keeps script w next [] Nothing b b.deed 1 after.node takes after.sends h.low h.high holds
              changes
              quiet names;
        }

  -- ---- it is too late

  module _ (late : (is_at q (place_of d name) && stays d to) ≡ false) where
    abbrev late-after : Step
    late-after = step_to n

    abbrev late-next : World
    late-next = world_after (world_without w 1 q rest) 1 late-after

    late-changes : Changes script 1 w late-next late-after.node takes [] []
    late-changes = changes-by-take script w holds.shape 1 q (frames.Suggest name to) rest late-after h tt

    late-directory-now : directory_of late-next ≡ d
    late-directory-now = ap (λ (m : Node). m.leader.directory) late-changes.here

    late-quiet : IsQuiet script w late-next b b.deed 1 late-after.node takes []
    late-quiet =
        record {
          caller = record { number = refl; pid = refl; stage = refl; caller = refl; leases = refl };
          queue_keys = refl;
          set_keys = refl;
          directory = subst (λ (y : Directory). SameButPlaces d y) (sym late-directory-now)
              (itself-keeps d holds.leading);
          node = node-holds;
          deeds = λ pid. refl;
          plain_taken = (refl, tt);
          plain_sent = tt;
          no_birth_taken = (refl, tt);
          no_birth_sent = tt;
          no_lease_taken = λ kind. (refl, tt);
          no_lease_sent = λ kind. tt;
          of_no_call = λ y. (refl, tt);
          sent_of_no_call = λ y. tt;
          no_cancel_taken = λ y. (refl, tt);
          no_cancel_sent = λ y. tt;
          may_be_sent = tt;
          to_others = tt;
        }

    late-others : (m : Name) → LeavesName w late-next [] [] b b 1 late-after.node late-changes.left m
    late-others m =
        record {
          directory = same-directory d (directory_of late-next) late-directory-now m;
          used_is = refl;
          part_is = refl;
          body_is = refl;
          deed_is = refl;
          held_is = refl;
          begins_is = λ holds_it comes. refl;
          hand_is = refl;
          steps_are = λ used y. refl;
          ranges_are = λ used y. refl;
        }

    late-more : IsMore (is_born_in w) (is_born_in late-next)
    late-more =
        quiet-born script w late-next [] Nothing b b.deed 1 late-after.node takes [] h.low h.high holds late-changes
        late-quiet

    late-keeps : KeepsAs script w (events.Take 1 q) b
    late-keeps =
        record {
          next = late-next;
          is_step = take-steps script w 1 q (frames.Suggest name to) rest late-after holds.shape h
              (rule-by ∙ ap (λ t. Some (if t then recall_from (step_to n) name (Some to) q else step_to n)) late) refl;
          holds = quiet-keeps script w late-next [] Nothing b b.deed 1 late-after.node takes [] h.low h.high holds
              late-changes late-quiet
              (λ m. name-stays script b.pids (is_born_in w) (is_born_in late-next) m _ _ late-more
              (name-left-alone script 1 w late-next late-after.node takes [] [] late-changes [] [] b b m
              (late-others m) (refl, tt) tt)
              (holds.names m));
        }

  at-is : (place : Option Place) → is_at q place ≡ true → place ≡ Some (At q)
  at-is None e = absurd (false≢true e)
  at-is (Some (At node)) e = ap (λ y. Some (At y)) (eqb-true node q e)
  at-is (Some (Coming to items)) e = absurd (false≢true e)

  -- Nothing beside the world changes.
  pub suggest-keeps : KeepsAs script w (events.Take 1 q) b
  suggest-keeps = by-tests (is_at q (place_of d name)) (stays d to) refl refl
    where
      by-tests : (t u : Bool) → is_at q (place_of d name) ≡ t → stays d to ≡ u → KeepsAs script w (events.Take 1 q) b
      by-tests true true e f = moves-keeps (at-is (place_of d name) e) f
      by-tests true false e f = late-keeps (ap (λ v. v && stays d to) e ∙ f)
      by-tests false u e f = late-keeps (ap (λ v. v && stays d to) e)
