-- The first parcel in the leader's hand goes on to the node where its parent's deed is: its names are there from then
-- on, and what was held for them is in the hand.
use Rattle.std.proofs.Common.{◌≡◌, ◌≢◌, ℕ, ◌≤◌, Bool, true, false, ◌&&◌, not, cond, if◌then◌else◌, List, [], ◌∷◌, ◌++◌, filter, flat_map, nat_eq, Some, None, is_none, is_some, refl, ap, sym, subst, ◌∙◌, inl, inr, arith, append-nil}
use Rattle.std.proofs.lemmas.Bool.{eq-eqb, false≢true}
use Rattle.pico_base.specs.declared.numbers.Name.{Name}
use Rattle.pico_base.specs.declared.numbers.Name.TheVariants.{Proc}
use Rattle.pico_base.specs.declared.script.Script.{Script}
use Rattle.rpc_frame.specs.declared.deed.Parcel.{Parcel}
use Rattle.rpc_frame.specs.declared.frame.Frame.{Frame}
use Rattle.rpc_frame.specs.declared.frame.Frame.TheVariants as frames
use Rattle.number_maps.specs.Maps.{get}
use Rattle.node_model.specs.declared.held.Held.{Held}
use Rattle.node_model.specs.declared.held.Held.TheVariants.{Ending}
use Rattle.node_model.specs.Kinds.{kind_of, number_of, is_same_name, get_named, for_kind}
use Rattle.node_model.specs.Directory.{Directory, At, place_of, maker, maker_in, stays, has_deed_of, is_parcel_with, held_for}
use Rattle.world_model.specs.Node.{Node}
use Rattle.world_model.specs.Step.{with_directory}
use Rattle.world_model.specs.Census.{brings}
use Rattle.world_model.specs.World.{World}
use Rattle.world_laws.specs.Places.{DeedPlace, InHand, InExitTo, CallPlace, Beside}
use Rattle.world_laws.specs.Sights.{node_of, frames_to, directory_of, stage_of, is_born_in}
use Rattle.world_laws.specs.Plays.{Hold, Has, Lacks, Done, PlayStep, Comes, IsNeeded, plays, steps_of, steps_if, begin, is_has, is_there, is_checkpoint_of, has_any, believed, placed_in, news}
use Rattle.world_laws.specs.Names.{NameSight, name_sight, NameHolds, OneIf, IsBringer, PlaysTo, RangeStep, is_stream_of, held_as, held_at, comes_to, range_steps_of, forker, is_maker, belief_of, maker_tells}
use Rattle.world_laws.specs.Ways.{under_way_of, HasSender}
use Rattle.world_laws.specs.Invariant.{HoldsOwing}
use Rattle.world_laws.proofs.Changes.{Changes, sent, frames_if, filter-is-list-map, flat_map-is-list-map, made-after, made-same, stayed, still-born, read-same}
use Rattle.world_laws.proofs.Heads.{kept-of-sent}
use Rattle.world_laws.proofs.Sends.{frame_if}
use Rattle.world_laws.proofs.Named.{name-cases, same-name, other-name}
use Rattle.world_laws.proofs.Stays.{IsMore, SameName, name-stays}
use Rattle.world_laws.specs.Cancels.{Owing}
use Rattle.route_laws.proofs.hand.Forwards.{name-sent-for, steps_as, ranges_as}
use Rattle.rule_laws.proofs.ends.Taken.{fewer-none, play-without, plays-without, begin-without}
use Rattle.rule_laws.proofs.ends.Releases.{checkpoints-bring}
use Rattle.route_laws.proofs.exits.Arrivals.{either-way, Arrives}
use Rattle.route_laws.proofs.exits.Released.{call_released, deed_released, released_name, name-released}
use Rattle.route_laws.proofs.exits.Parcels.{HasParcel, hand-sender, parcel-in-hand, is-used-there, in-parcel-made}
use Rattle.route_laws.proofs.exits.Hands.{names, hand_then, parcel-apart, held_with, seen-held, in-hand-then, none-in-hand, kept-then, none-kept-then, place-then, place-still}
use Rattle.route_laws.proofs.exits.Onward.{is_done, done-together, lacks-is, plays-released, ranges-released, GoesOnward, gone_onward, name-gone-onward}
use Rattle.route_laws.proofs.exits.Cancelled.{cancel_released}
use Rattle.entry_laws.specs.Entering.{is_used_name}

and-false : (t : Bool) → (t && false) ≡ false
and-false true = refl
and-false false = refl

has-is : (hold : Hold) → is_has hold ≡ true → is_done hold ≡ false
has-is Has h = refl
has-is Lacks h = refl
has-is Done h = absurd (false≢true h)

-- ---- a name whose deed is in the leader's hand

module _ (script : Script) (w : World) (hands : List Held) {owes : Owing} (b : Beside)
    (holds : HoldsOwing script w hands owes b) (name : Name)
    (c : ℕ) (deed : b.deed name ≡ InHand c) where
  abbrev x : NameSight
  x = name_sight script w hands b name

  known : NameHolds script b.pids (is_born_in w) name x
  known = holds.names name

  none-held : (q : ℕ) → held_at w name q ≡ None
  none-held q = known.tables q ∙ ap (λ z. held_as z x.body q) deed

  -- no frame brings it
  pub hand-not-brought : (q sender : ℕ) → filter (brings name) (frames_to w q sender) ≡ []
  hand-not-brought q sender =
      subst (λ z. OneIf (is_stream_of (forker script) z q sender) (IsBringer b.pids name x.body z)
      (x.brought q sender)) deed (known.streams q sender)

  comes-not : (q : ℕ) → comes_to script w name q ≡ false
  comes-not q =
      ap (λ fs. not (nat_eq (forker script q) 1) && has_any fs)
      (fewer-none (is_checkpoint_of name) (brings name) (checkpoints-bring name) (frames_to w q (forker script q))
      (hand-not-brought q (forker script q)))
      ∙ and-false (not (nat_eq (forker script q) 1))

  -- and no node will have it
  pub hand-plays : (q : ℕ) → 2 ≤ q → PlaysTo (x.begins q) (x.steps q) false
  hand-plays q low =
      let played : PlaysTo (x.begins q) (x.steps q) (is_there q (belief_of x)) = known.plays q low
      in record {
        last = played.last;
        plays = played.plays;
        agrees = play-without (x.begins q) played.last (x.steps q)
            (plays-without (is_used_name b.kernel name) b.call name (frames_to w q 1) (hand-not-brought q 1))
            (ap (λ o. is_has (begin (stage_of w q) (is_some o) (comes_to script w name q))) (none-held q)
            ∙ ap (λ t. is_has (begin (stage_of w q) false t)) (comes-not q)
            ∙ begin-without (stage_of w q)) played.plays;
      }

-- what is made of the one frame that is sent
sent-steps : (used : Bool) (call : ℕ → CallPlace) (name : Name) (f : Frame) (ss : List PlayStep)
    → steps_of used call name f ≡ ss → (t : Bool)
    → plays used call name (frames_if true (frame_if t f ++ [])) ≡ (if t then ss else [])
sent-steps used call name f ss e true = append-nil (steps_of used call name f) ∙ e
sent-steps used call name f ss e false = refl

-- ---- the event

module _ (script : Script) (w : World) (items : List Held) (parcel : Parcel) {owes : Owing} (b : Beside)
    (holds : HoldsOwing script w (Ending parcel ∷ items) owes b) (x : ℕ)
    (place : place_of (directory_of w) (Proc parcel.parent) ≡ Some (At x)) (low : 2 ≤ x) (d2 : Directory)
    (arrives : Arrives (directory_of w) d2 (names script w items parcel b holds) x) (w' : World)
    (changes : Changes script 1 w w' (with_directory (node_of w 1) d2) [] ((x, frames.ExitTo parcel) ∷ []) []) where
  abbrev before : List Held
  before = Ending parcel ∷ items

  abbrev of : List Name
  of = names script w items parcel b holds

  abbrev dir : Directory
  dir = directory_of w

  abbrev frame : Frame
  frame = frames.ExitTo parcel

  abbrev sends : List (ℕ × Frame)
  sends = (x, frame) ∷ []

  abbrev after : Node
  after = with_directory (node_of w 1) d2

  abbrev sender : HasSender script b.pids (stage_of w) (under_way_of w) parcel
  sender = hand-sender script w items parcel b holds

  abbrev c : ℕ
  c = sender.node

  parcel_is : HasParcel script w b parcel c sender.call (InHand c)
  parcel_is = parcel-in-hand script w items parcel b holds

  abbrev hand_now : List Held
  hand_now = hand_then script w items parcel b holds

  abbrev deeds_now : Name → DeedPlace
  deeds_now name = if has_deed_of name parcel then InExitTo c x else deed_released script b.pids of (b.deed name)

  abbrev calls_now : ℕ → CallPlace
  calls_now p = call_released of (b.call p)

  -- what is beside the world then
  abbrev pub sent_beside : Beside
  sent_beside = record b { deed = deeds_now; call = calls_now; cancel = λ p. cancel_released of (b.cancel p) }

  away : x ≢ 1
  away e = omega (arith, e, low)

  directory-now : directory_of w' ≡ d2
  directory-now = ap (λ (m : Node). m.leader.directory) changes.here

  more : IsMore (is_born_in w) (is_born_in w')
  more = still-born script 1 w w' after [] sends [] changes (λ g. g)

  -- ---- the names

  module _ (name : Name) where
    abbrev s : NameSight
    s = name_sight script w before b name

    seen : NameHolds script b.pids (is_born_in w) name s
    seen = holds.names name

    maker-same : maker (directory_of w') name ≡ s.maker
    maker-same =
        ap (λ z. maker z name) directory-now
        ∙ ap (λ ranges. maker_in (for_kind ranges (kind_of name)) (number_of name)) arrives.ranges_are

    stays-same : (q : ℕ) → stays (directory_of w') q ≡ s.stays q
    stays-same q = ap (λ z. stays z q) directory-now ∙ ap (λ partings. is_none (get partings q)) arrives.partings_are

    comes-now : (q : ℕ) → comes_to script w' name q ≡ comes_to script w name q
    comes-now q =
        ap (λ fs. not (nat_eq (forker script q) 1) && has_any fs)
        (made-same script 1 w w' after [] sends [] changes (λ t s fs. filter (is_checkpoint_of name) fs)
        (λ t s. filter-is-list-map (is_checkpoint_of name)) tt (refl, tt) q (forker script q))

    begins-now : (q : ℕ)
        → s.begins q ≡ begin (stage_of w' q) (is_some (held_at w' name q)) (comes_to script w' name q)
    begins-now q =
        ap (begin (stage_of w q) (is_some (held_at w name q))) (sym (comes-now q))
        ∙ sym (read-same script 1 w w' after [] sends [] changes
        (λ (m : Node). begin m.stage (is_some (get_named m.deeds name)) (comes_to script w' name q)) refl q)

    held-now : (q : ℕ) → s.held q ≡ held_at w' name q
    held-now q =
        sym (read-same script 1 w w' after [] sends [] changes (λ (m : Node). get_named m.deeds name) refl q)

    steps-now : (ss : List PlayStep) → steps_of s.used b.call name frame ≡ ss → (q : ℕ)
        → s.steps q ++ (if nat_eq q x then ss else []) ≡ plays s.used calls_now name (frames_to w' q 1)
    steps-now ss e q =
        sym (plays-released of s.used b.call name (frames_to w' q 1)
        ∙ made-after script 1 w w' after [] sends [] changes (λ t r fs. plays s.used b.call name fs)
        (λ t s. flat_map-is-list-map _) q 1
        ∙ (λ i. stayed script 1 w w' after [] sends [] changes (λ t r fs. plays s.used b.call name fs)
        (λ t s. flat_map-is-list-map _) tt q 1 i
        ++ sent-steps s.used b.call name frame ss e (nat_eq q x) i))

    ranges-now : (q : ℕ) → s.ranges q ≡ flat_map (range_steps_of s.used calls_now name) (frames_to w' q 1)
    ranges-now q =
        sym (ranges-released of s.used b.call name (frames_to w' q 1)
        ∙ made-same script 1 w w' after [] sends [] changes
        (λ t r fs. flat_map (range_steps_of s.used b.call name) fs) (λ t s. flat_map-is-list-map _) tt (refl, tt) q 1)

    placed-now : (q : ℕ) → s.placed q ≡ placed_in name (frames_to w' 1 q)
    placed-now q =
        sym (made-same script 1 w w' after [] sends [] changes (λ t s fs. placed_in name fs)
        (λ t s. flat_map-is-list-map _) tt (refl, tt) 1 q)

    news-now : (q : ℕ)
        → s.news q ≡ news name (s.used && is_maker (maker (directory_of w') name) q) (frames_to w' 1 q)
    news-now q =
        ap (λ m. news name (s.used && is_maker m q) (frames_to w 1 q)) (sym maker-same)
        ∙ sym (made-same script 1 w w' after [] sends [] changes
        (λ t r fs. news name (s.used && is_maker (maker (directory_of w') name) r) fs)
        (λ t s. flat_map-is-list-map _) tt (refl, tt) 1 q)

    brought-with : (to sender : ℕ)
        → filter (brings name) (frames_to w' to sender)
        ≡ s.brought to sender ++ filter (brings name) (sent 1 sends to sender)
    brought-with to sender =
        made-after script 1 w w' after [] sends [] changes (λ t s fs. filter (brings name) fs)
        (λ t s. filter-is-list-map (brings name)) to sender
        ∙ ap (λ fs. fs ++ filter (brings name) (sent 1 sends to sender))
        (stayed script 1 w w' after [] sends [] changes (λ t s fs. filter (brings name) fs)
        (λ t s. filter-is-list-map (brings name)) tt to sender)

    -- a name of the parcel

    module _ (e : has_deed_of name parcel ≡ true) where
      deed-was : b.deed name ≡ InHand c
      deed-was = parcel_is.deeds name e

      brought-now : (to sender : ℕ)
          → cond (nat_eq to x && nat_eq sender 1) (frame ∷ []) []
          ≡ filter (brings name) (frames_to w' to sender)
      brought-now to sender =
          sym (brought-with to sender
          ∙ ap (λ fs. fs ++ filter (brings name) (sent 1 sends to sender))
          (hand-not-brought script w before b holds name c deed-was to sender)
          ∙ kept-of-sent (brings name) frame e (nat_eq to x) (nat_eq sender 1))

      gone-seen : SameName (gone_onward s c x parcel) (name_sight script w' hand_now sent_beside name)
      gone-seen =
          record {
            place = sym (ap (λ z. place_of z name) directory-now
                ∙ place-then script w items parcel b holds x d2 arrives name e);
            maker = sym maker-same;
            stays = λ q. sym (stays-same q);
            used = refl;
            part = refl;
            body = refl;
            deed = sym (ap (λ t. if t then InExitTo c x else deed_released script b.pids of (b.deed name)) e);
            held = held-now;
            brought = brought-now;
            kept = λ pid. sym (ap (λ z. filter (is_parcel_with name) (held_for z (Proc pid))) directory-now
                ∙ none-kept-then script w items parcel b holds x d2 arrives name e pid);
            hand = sym (none-in-hand script w items parcel b holds name e);
            begins = begins-now;
            steps = λ q. ap (λ ss. s.steps q ++ ss) (steps-if-is (nat_eq q x))
                ∙ steps-now (Comes ∷ [])
                (ap (λ t. if t then Comes ∷ [] else steps_if (is_same_name name (Proc parcel.parent)) IsNeeded) e) q;
            ranges = ranges-now;
            placed = placed-now;
            news = news-now;
          }
        where
          steps-if-is : (t : Bool) → steps_if t Comes ≡ (if t then Comes ∷ [] else [])
          steps-if-is true = refl
          steps-if-is false = refl

    -- any other

    module _ (e : has_deed_of name parcel ≡ false) where
      abbrev y : NameSight
      y = released_name script b.pids of s (held_with script w items parcel b holds name)

      released : NameHolds script b.pids (is_born_in w) name y
      released =
          name-released script b.pids of (is_born_in w) name s (held_with script w items parcel b holds name)
          (parcel-apart script w items parcel b holds) (seen-held script w items parcel b holds name) seen

      no-deed : (t r : Bool) → filter (brings name) (frames_if r (frame_if t frame ++ [])) ≡ []
      no-deed true true = ap (λ u. cond u (frame ∷ []) []) e
      no-deed true false = refl
      no-deed false true = refl
      no-deed false false = refl

      seen-with : (steps : ℕ → List PlayStep) (ranges : ℕ → List RangeStep)
          → ((q : ℕ) → steps q ≡ plays s.used calls_now name (frames_to w' q 1))
          → ((q : ℕ) → ranges q ≡ flat_map (range_steps_of s.used calls_now name) (frames_to w' q 1))
          → SameName (record y { steps = steps; ranges = ranges }) (name_sight script w' hand_now sent_beside name)
      seen-with steps ranges steps_are ranges_are =
          record {
            place = sym (ap (λ z. place_of z name) directory-now
                ∙ place-still script w items parcel b holds x d2 arrives name e);
            maker = sym maker-same;
            stays = λ q. sym (stays-same q);
            used = refl;
            part = refl;
            body = refl;
            deed = sym (ap (λ t. if t then InExitTo c x else deed_released script b.pids of (b.deed name)) e);
            held = held-now;
            brought = λ to r. sym (brought-with to r
                ∙ ap (λ fs. s.brought to r ++ fs) (no-deed (nat_eq to x) (nat_eq r 1))
                ∙ append-nil (s.brought to r));
            kept = λ pid. sym (ap (λ z. filter (is_parcel_with name) (held_for z (Proc pid))) directory-now
                ∙ kept-then script w items parcel b holds x d2 arrives name pid);
            hand = sym (in-hand-then script w items parcel b holds name e);
            begins = begins-now;
            steps = steps_are;
            ranges = ranges_are;
            placed = placed-now;
            news = news-now;
          }

      steps-of-frame : (t : Bool) → is_same_name name (Proc parcel.parent) ≡ t
          → steps_of s.used b.call name frame ≡ steps_if t IsNeeded
      steps-of-frame t g =
          ap (λ u. if u then Comes ∷ [] else steps_if (is_same_name name (Proc parcel.parent)) IsNeeded) e
          ∙ ap (λ u. steps_if u IsNeeded) g

      of-parent : name ≡ Proc parcel.parent
          → NameHolds script b.pids (is_born_in w') name (name_sight script w' hand_now sent_beside name)
      of-parent is =
          name-stays script b.pids (is_born_in w) (is_born_in w') name _ _ more
          (seen-with (λ q. s.steps q ++ steps_as true x q) (λ q. s.ranges q ++ ranges_as true x q)
          (λ q. ap (λ ss. s.steps q ++ ss) (needed-is (nat_eq q x))
          ∙ steps-now (IsNeeded ∷ []) (steps-of-frame true (same-name name (Proc parcel.parent) is)) q)
          (λ q. append-nil (s.ranges q) ∙ ranges-now q))
          (name-sent-for script b.pids (is_born_in w) name y released x low true false (ap (place_of dir) is ∙ place)
          (λ lasts. absurd (false≢true lasts)))
        where
          needed-is : (t : Bool) → steps_if t IsNeeded ≡ (if t then IsNeeded ∷ [] else [])
          needed-is true = refl
          needed-is false = refl

      of-another : name ≢ Proc parcel.parent
          → NameHolds script b.pids (is_born_in w') name (name_sight script w' hand_now sent_beside name)
      of-another isnt =
          name-stays script b.pids (is_born_in w) (is_born_in w') name _ _ more
          (seen-with s.steps s.ranges
          (λ q. sym (ap (λ ss. s.steps q ++ ss) (either-way {A = List PlayStep} (nat_eq q x) [])
          ∙ append-nil (s.steps q))
          ∙ steps-now [] (steps-of-frame false (other-name name (Proc parcel.parent) isnt)) q)
          ranges-now) released

  -- the parent will be at the node
  parent-plays : PlaysTo (begin (stage_of w x) (is_some (held_at w (Proc parcel.parent) x))
      (comes_to script w (Proc parcel.parent) x))
      (plays (is_used_name b.kernel (Proc parcel.parent)) b.call (Proc parcel.parent) (frames_to w x 1)) true
  parent-plays =
      let p : NameSight = name_sight script w before b (Proc parcel.parent)
      in let of_parent : NameHolds script b.pids (is_born_in w) (Proc parcel.parent) p =
      holds.names (Proc parcel.parent)
      in subst (λ t. PlaysTo (p.begins x) (p.steps x) t)
      (ap (λ o. is_there x (believed o (maker_tells p p.maker))) place ∙ eq-eqb x x refl) (of_parent.plays x low)

  goes-onward : (name : Name) → has_deed_of name parcel ≡ true
      → GoesOnward b.pids name (name_sight script w before b name) c x parcel
  goes-onward name e =
      let plays_there = hand-plays script w before b holds name c (parcel_is.deeds name e)
      in let here = plays_there x low
      in record {
        deed = parcel_is.deeds name e;
        has = parcel_is.has name e;
        used = is-used-there script w before b name holds
            (in-parcel-made script w before b holds parcel c sender.call (InHand c) parcel_is name e);
        away = away;
        others = plays_there;
        lacks = here.plays
            ∙ ap Some (lacks-is here.last here.agrees
            (done-together (is_used_name b.kernel name) (is_used_name b.kernel (Proc parcel.parent)) b.call name
            (Proc parcel.parent) (stage_of w x) (is_some (held_at w name x))
            (comes_to script w name x) (is_some (held_at w (Proc parcel.parent) x))
            (comes_to script w (Proc parcel.parent) x) (frames_to w x 1) here.last parent-plays.last here.plays
            parent-plays.plays
            ∙ has-is parent-plays.last parent-plays.agrees));
      }

  -- What holds of each name.
  pub sent-names : (name : Name)
      → NameHolds script b.pids (is_born_in w') name (name_sight script w' hand_now sent_beside name)
  sent-names name = by-test (has_deed_of name parcel) refl
    where
      by-test : (t : Bool) → has_deed_of name parcel ≡ t
          → NameHolds script b.pids (is_born_in w') name (name_sight script w' hand_now sent_beside name)
      by-test true e =
          name-stays script b.pids (is_born_in w) (is_born_in w') name _ _ more (gone-seen name e)
          (name-gone-onward script b.pids (is_born_in w) name _ c x parcel (goes-onward name e) (holds.names name))
      by-test false e =
          elim (name-cases name (Proc parcel.parent)) [
            | inl is ↦ of-parent name e is
            | inr isnt ↦ of-another name e isnt
          ]
