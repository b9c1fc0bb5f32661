-- What holds of a name when the leader sends a withdrawal to a node: where the name is used the deed is there, or comes
-- there before, and where it isn't that is the maker's.
use Rattle.std.proofs.Common.{Bool, Contains, List, Some, [], ap, append-nil, arith, false, filter, flat_map, is_some, nat_eq, not, refl, subst, sym, true, ℕ, ◌&&◌, ◌++◌, ◌∙◌, ◌∷◌, ◌≡◌}
use Rattle.std.proofs.lemmas.Bool.{eqb-true, false≢true}
use Rattle.std.specs.List.{AllByRecursion}
use Rattle.pico_base.specs.declared.numbers.Name.{Name}
use Rattle.pico_base.specs.declared.reply.Entry.{Entry}
use Rattle.pico_base.specs.declared.script.Script.{Script}
use Rattle.rpc_frame.specs.declared.asked.Asked.{Asked}
use Rattle.rpc_frame.specs.declared.frame.Frame.TheVariants as frames
use Rattle.rpc_frame.specs.declared.frame.Frame.{Frame}
use Rattle.node_model.specs.Bodies.{body_in}
use Rattle.node_model.specs.Directory.{is_parcel_with, maker}
use Rattle.node_model.specs.Kinds.{get_named}
use Rattle.node_model.specs.declared.held.Held.{Held}
use Rattle.world_model.specs.Census.{brings}
use Rattle.world_model.specs.Node.{Node}
use Rattle.world_model.specs.World.{World}
use Rattle.entry_laws.specs.Entering.{is_used_name}
use Rattle.world_laws.proofs.Changes.{Changes, IsListMap, filter-is-list-map, flat_map-is-list-map, made-after, made-same, read-same, sent, stayed}
use Rattle.world_laws.proofs.LeftAlone.{DirectoryLeaves}
use Rattle.world_laws.proofs.Played.{play-append}
use Rattle.world_laws.proofs.Sends.{frame_if}
use Rattle.world_laws.proofs.Stays.{SameName}
use Rattle.world_laws.specs.Names.{IsLeased, IsSentThere, NameHolds, NameSight, PlaysTo, RangeStep, belief_of, comes_to, forker, held_at, is_maker, leases_first, name_sight, range_steps_if, range_steps_of}
use Rattle.world_laws.specs.Places.{Beside, CallPlace}
use Rattle.world_laws.specs.Plays.{Done, Has, Hold, IsNeeded, Lacks, begin, has_any, is_cancel_on, is_checkpoint_of, is_has, is_there, news, placed_in, play_on, plays, steps_if}
use Rattle.world_laws.specs.Sights.{directory_of, frames_to, stage_of}

-- ---- the name

-- these come behind what was on its way to a node
abbrev pub sent_sight : NameSight → ℕ → Bool → Bool → NameSight
sent_sight x node needs ranged =
    record x {
      steps = λ h. x.steps h ++ steps_if (nat_eq h node && needs) IsNeeded;
      ranges = λ h. x.ranges h ++ range_steps_if (nat_eq h node && ranged) IsSentThere;
    }

has-is : (hold : Hold) → is_has hold ≡ true → hold ≡ Has
has-is Has e = refl
has-is Lacks e = absurd (false≢true e)
has-is Done e = absurd (false≢true e)

leases-first-behind : (ss : List RangeStep) → leases_first ss ≡ true → leases_first (ss ++ IsSentThere ∷ []) ≡ true
leases-first-behind [] h = refl
leases-first-behind (IsLeased ∷ ss) h = leases-first-behind ss h
leases-first-behind (IsSentThere ∷ []) h = refl
leases-first-behind (IsSentThere ∷ IsSentThere ∷ ss) h = leases-first-behind (IsSentThere ∷ ss) h
leases-first-behind (IsSentThere ∷ IsLeased ∷ ss) h = absurd (false≢true h)

none-there : {T : Type 0} (a : T) → Contains [] a → ⊥
none-there a there = omega (arith, there.1)

both-true : (a b : Bool) → (a && b) ≡ true → (a ≡ true) × (b ≡ true)
both-true true b h = (refl, h)
both-true false b h = absurd (false≢true h)

module _ (script : Script) (pids : ℕ → ℕ) (born : ℕ → Bool) (name : Name) (x : NameSight)
    (h : NameHolds script pids born name x) (node : ℕ) (needs ranged : Bool)
    (deed : needs ≡ true → is_there node (belief_of x) ≡ true) (makes : ranged ≡ true → x.maker ≡ Some node) where
  plays-behind : (y : ℕ) (t : Bool) → (t ≡ true → is_there y (belief_of x) ≡ true)
      → PlaysTo (x.begins y) (x.steps y) (is_there y (belief_of x))
      → PlaysTo (x.begins y) (x.steps y ++ steps_if t IsNeeded) (is_there y (belief_of x))
  plays-behind y false there old =
      subst (λ ss. PlaysTo (x.begins y) ss (is_there y (belief_of x))) (sym (append-nil (x.steps y))) old
  plays-behind y true there old =
      record {
        last = Has;
        plays = play-append (x.steps y) (IsNeeded ∷ []) (Some (x.begins y))
            ∙ ap (play_on (IsNeeded ∷ [])) (old.plays ∙ ap Some (has-is old.last (old.agrees ∙ there refl)));
        agrees = sym (there refl);
      }

  there-at : (y : ℕ) → (nat_eq y node && needs) ≡ true → is_there y (belief_of x) ≡ true
  there-at y e =
      let both = both-true (nat_eq y node) needs e
      in subst (λ z. is_there z (belief_of x) ≡ true) (sym (eqb-true y node both.0)) (deed both.1)

  ranged-behind : (y : ℕ) (t : Bool) → (t ≡ true → x.maker ≡ Some y)
      → Contains (x.ranges y ++ range_steps_if t IsSentThere) IsSentThere → x.maker ≡ Some y
  ranged-behind y false made there = h.ranged y (subst (λ rs. Contains rs IsSentThere) (append-nil (x.ranges y)) there)
  ranged-behind y true made there = made refl

  made-at : (y : ℕ) → (nat_eq y node && ranged) ≡ true → x.maker ≡ Some y
  made-at y e =
      let both = both-true (nat_eq y node) ranged e
      in makes both.1 ∙ ap Some (sym (eqb-true y node both.0))

  leased-behind : (y : ℕ) (t : Bool) → leases_first (x.ranges y) ≡ true
      → leases_first (x.ranges y ++ range_steps_if t IsSentThere) ≡ true
  leased-behind y true old = leases-first-behind (x.ranges y) old
  leased-behind y false old = ap leases_first (append-nil (x.ranges y)) ∙ old

  -- all holds of the name
  pub name-cancel-sent : NameHolds script pids born name (sent_sight x node needs ranged)
  name-cancel-sent =
      record {
        parts = h.parts;
        callers = h.callers;
        made = h.made;
        place_fits = h.place_fits;
        tables = h.tables;
        streams = h.streams;
        kept = h.kept;
        in_hand = h.in_hand;
        known = h.known;
        believed = h.believed;
        plays = λ y low. plays-behind y (nat_eq y node && needs) (there-at y) (h.plays y low);
        leader = h.leader;
        told = h.told;
        found = h.found;
        unplaced = h.unplaced;
        ranged = λ y there. ranged-behind y (nat_eq y node && ranged) (made-at y) there;
        leased = λ y low. leased-behind y (nat_eq y node && ranged) (h.leased y low);
        bound = h.bound;
        items = h.items;
      }

-- ---- the sight

steps-of-cancel : (used : Bool) (call : ℕ → CallPlace) (name : Name) (asked : Asked) (t : Bool)
    → plays used call name (frame_if t (frames.Cancel asked) ++ [])
    ≡ steps_if (t && (used && is_cancel_on name asked)) IsNeeded
steps-of-cancel used call name asked true = append-nil (steps_if (used && is_cancel_on name asked) IsNeeded)
steps-of-cancel used call name asked false = refl

ranges-of-cancel : (used : Bool) (call : ℕ → CallPlace) (name : Name) (asked : Asked) (t : Bool)
    → flat_map (range_steps_of used call name) (frame_if t (frames.Cancel asked) ++ [])
    ≡ range_steps_if (t && (not used && is_cancel_on name asked)) IsSentThere
ranges-of-cancel used call name asked true =
    append-nil (range_steps_if (not used && is_cancel_on name asked) IsSentThere)
ranges-of-cancel used call name asked false = refl

module _ (script : Script) (w w' : World) (n : Node) (h : ℕ) (asked : Asked) (entries : List Entry)
    (c : Changes script 1 w w' n [] ((h, frames.Cancel asked) ∷ []) entries)
    (hand hand' : List Held) (b b' : Beside) (name : Name)
    (leaves : DirectoryLeaves (directory_of w) (directory_of w') name)
    (used_is : is_used_name b'.kernel name ≡ is_used_name b.kernel name)
    (part_is : body_in b'.kernel name ≡ body_in b.kernel name) (body_is : b'.body name ≡ b.body name)
    (deed_is : b'.deed name ≡ b.deed name) (call_is : b'.call ≡ b.call)
    (held_is : get_named n.deeds name ≡ held_at w name 1)
    (stage_is : n.stage ≡ stage_of w 1)
    (hand_is : filter (is_parcel_with name) hand' ≡ filter (is_parcel_with name) hand) where
  abbrev sends : List (ℕ × Frame)
  sends = (h, frames.Cancel asked) ∷ []

  abbrev used : Bool
  used = is_used_name b.kernel name

  abbrev made : {T : Type 0} → (f : ℕ → ℕ → List Frame → List T) → ((to sender : ℕ) → IsListMap (f to sender))
      → AllByRecursion (λ s. f s.0 1 (s.1 ∷ []) ≡ []) sends
      → (to sender : ℕ) → f to sender (frames_to w' to sender) ≡ f to sender (frames_to w to sender)
  made f m none = made-same script 1 w w' n [] sends entries c f m tt none

  behind : {T : Type 0} (g : List Frame → List T) → IsListMap g → (y : ℕ)
      → g (frames_to w' y 1) ≡ g (frames_to w y 1) ++ g (frame_if (nat_eq y h) (frames.Cancel asked) ++ [])
  behind g m y =
      made-after script 1 w w' n [] sends entries c (λ t s fs. g fs) (λ t s. m) y 1
      ∙ ap (λ fs. fs ++ g (sent 1 sends y 1))
      (stayed script 1 w w' n [] sends entries c (λ t s fs. g fs) (λ t s. m) tt y 1)

  begins-same : (y : ℕ)
      → begin (stage_of w' y) (is_some (held_at w' name y)) (comes_to script w' name y)
      ≡ begin (stage_of w y) (is_some (held_at w name y)) (comes_to script w name y)
  begins-same y =
      ap (λ fs. begin (stage_of w' y) (is_some (held_at w' name y)) (not (nat_eq (forker script y) 1) && has_any fs))
      (made (λ t s fs. filter (is_checkpoint_of name) fs) (λ t s. filter-is-list-map (is_checkpoint_of name))
      (refl, tt) y (forker script y))
      ∙ read-same script 1 w w' n [] sends entries c
      (λ (m : Node). begin m.stage (is_some (get_named m.deeds name)) (comes_to script w name y))
      (ap (λ o. begin n.stage (is_some o) (comes_to script w name y)) held_is
      ∙ ap (λ z. begin z (is_some (held_at w name 1)) (comes_to script w name y)) stage_is) y

  -- The withdrawal stands behind all that was on its way to the node.
  pub name-seen-sent : SameName
      (sent_sight (name_sight script w hand b name) h (is_used_name b.kernel name && is_cancel_on name asked)
      (not (is_used_name b.kernel name) && is_cancel_on name asked)) (name_sight script w' hand' b' name)
  name-seen-sent =
      record {
        place = sym leaves.place_is;
        maker = sym leaves.maker_is;
        stays = λ y. sym (leaves.stays_is y);
        used = sym used_is;
        part = sym part_is;
        body = sym body_is;
        deed = sym deed_is;
        held = λ y. sym (read-same script 1 w w' n [] sends entries c (λ (m : Node). get_named m.deeds name) held_is y);
        brought = λ to sender. sym (made (λ t s fs. filter (brings name) fs) (λ t s. filter-is-list-map (brings name))
            (refl, tt) to sender);
        kept = λ pid. sym (leaves.kept_is pid);
        hand = sym hand_is;
        begins = λ y. sym (begins-same y);
        steps = λ y. sym (ap (λ u. plays u b'.call name (frames_to w' y 1)) used_is
            ∙ ap (λ call. plays used call name (frames_to w' y 1)) call_is
            ∙ behind (plays used b.call name) (flat_map-is-list-map _) y
            ∙ ap (λ ss. plays used b.call name (frames_to w y 1) ++ ss)
            (steps-of-cancel used b.call name asked (nat_eq y h)));
        ranges = λ y. sym (ap (λ u. flat_map (range_steps_of u b'.call name) (frames_to w' y 1)) used_is
            ∙ ap (λ call. flat_map (range_steps_of used call name) (frames_to w' y 1)) call_is
            ∙ behind (λ fs. flat_map (range_steps_of used b.call name) fs) (flat_map-is-list-map _) y
            ∙ ap (λ ss. flat_map (range_steps_of used b.call name) (frames_to w y 1) ++ ss)
            (ranges-of-cancel used b.call name asked (nat_eq y h)));
        placed = λ q. sym (made (λ t s fs. placed_in name fs) (λ t s. flat_map-is-list-map _) (refl, tt) 1 q);
        news = λ q.
            sym (ap (λ u. news name (u && is_maker (maker (directory_of w') name) q) (frames_to w' 1 q)) used_is
            ∙ ap (λ m. news name (used && is_maker m q) (frames_to w' 1 q)) leaves.maker_is
            ∙ made (λ t s fs. news name (used && is_maker (maker (directory_of w) name) s) fs)
            (λ t s. flat_map-is-list-map _) (refl, tt) 1 q);
      }
