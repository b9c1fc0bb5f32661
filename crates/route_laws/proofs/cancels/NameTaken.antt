-- What holds of a name when a node takes a withdrawal that the leader has sent it: what needed the deed there has found
-- it, and what went to the maker is there.
use Rattle.std.proofs.Common.{Bool, List, [], ap, append-nil, filter, flat_map, inl, is_some, nat_eq, not, refl, sym, ℕ, ◌&&◌, ◌++◌, ◌∙◌, ◌∷◌, ◌≡◌, ◌≢◌, ◌≤◌}
use Rattle.std.specs.List.{AllByRecursion}
use Rattle.pico_base.specs.declared.numbers.Name.{Name}
use Rattle.pico_base.specs.declared.reply.Entry.{Entry}
use Rattle.pico_base.specs.declared.script.Script.{Script}
use Rattle.rpc_frame.specs.declared.asked.Asked.{Asked}
use Rattle.rpc_frame.specs.declared.frame.Frame.TheVariants as frames
use Rattle.rpc_frame.specs.declared.frame.Frame.{Frame}
use Rattle.node_model.specs.Bodies.{body_in}
use Rattle.node_model.specs.Directory.{is_parcel_with, maker}
use Rattle.node_model.specs.Kinds.{get_named}
use Rattle.node_model.specs.declared.held.Held.{Held}
use Rattle.world_model.specs.Census.{brings}
use Rattle.world_model.specs.Node.{Node}
use Rattle.world_model.specs.World.{World}
use Rattle.entry_laws.specs.Entering.{is_used_name}
use Rattle.world_laws.proofs.Changes.{Changes, IsListMap, filter-is-list-map, flat_map-is-list-map, made-same, only-stayed, read-same}
use Rattle.world_laws.proofs.Heads.{others-stay, rest-stays}
use Rattle.world_laws.proofs.LeftAlone.{DirectoryLeaves}
use Rattle.world_laws.proofs.Stays.{IsMore, SameName, name-stays}
use Rattle.world_laws.specs.Names.{IsSentThere, NameHolds, NameSight, RangeStep, comes_to, forker, held_at, is_maker, name_sight, range_steps_if, range_steps_of}
use Rattle.world_laws.specs.Places.{Beside}
use Rattle.world_laws.specs.Plays.{IsNeeded, PlayStep, begin, has_any, is_cancel_on, is_checkpoint_of, news, placed_in, plays, steps_if}
use Rattle.world_laws.specs.Sights.{directory_of, frames_to, is_born_in, stage_of}
use Rattle.route_laws.proofs.sent.Needed.{HasHead, name-head-taken}

module _ (script : Script) (p : ℕ) (w w' : World) (n : Node) (asked : Asked) (entries : List Entry)
    (c : Changes script p w w' n ((1, frames.Cancel asked) ∷ []) [] entries)
    (hand hand' : List Held) (b b' : Beside) (name : Name)
    (leaves : DirectoryLeaves (directory_of w) (directory_of w') name)
    (used_is : is_used_name b'.kernel name ≡ is_used_name b.kernel name)
    (part_is : body_in b'.kernel name ≡ body_in b.kernel name) (body_is : b'.body name ≡ b.body name)
    (deed_is : b'.deed name ≡ b.deed name) (call_is : b'.call ≡ b.call)
    (held_is : get_named n.deeds name ≡ held_at w name p)
    (stage_is : n.stage ≡ stage_of w p)
    (hand_is : filter (is_parcel_with name) hand' ≡ filter (is_parcel_with name) hand) where
  abbrev takes : List (ℕ × Frame)
  takes = (1, frames.Cancel asked) ∷ []

  abbrev used : Bool
  used = is_used_name b.kernel name

  abbrev x : NameSight
  x = name_sight script w hand b name

  abbrev steps-left : ℕ → List PlayStep
  steps-left h = plays used b.call name (frames_to w' h 1)

  abbrev ranges-left : ℕ → List RangeStep
  ranges-left h = flat_map (range_steps_of used b.call name) (frames_to w' h 1)

  -- what is seen of the name with what is left
  abbrev left_sight : NameSight
  left_sight = record x { steps = steps-left; ranges = ranges-left }

  abbrev made : {T : Type 0} → (f : ℕ → ℕ → List Frame → List T) → ((to sender : ℕ) → IsListMap (f to sender))
      → AllByRecursion (λ s. f p s.0 (s.1 ∷ []) ≡ []) takes
      → (to sender : ℕ) → f to sender (frames_to w' to sender) ≡ f to sender (frames_to w to sender)
  made f m none = made-same script p w w' n takes [] entries c f m none tt

  begins-same : (y : ℕ)
      → begin (stage_of w' y) (is_some (held_at w' name y)) (comes_to script w' name y)
      ≡ begin (stage_of w y) (is_some (held_at w name y)) (comes_to script w name y)
  begins-same y =
      ap (λ fs. begin (stage_of w' y) (is_some (held_at w' name y)) (not (nat_eq (forker script y) 1) && has_any fs))
      (made (λ t s fs. filter (is_checkpoint_of name) fs) (λ t s. filter-is-list-map (is_checkpoint_of name))
      (refl, tt) y (forker script y))
      ∙ read-same script p w w' n takes [] entries c
      (λ (m : Node). begin m.stage (is_some (get_named m.deeds name)) (comes_to script w name y))
      (ap (λ o. begin n.stage (is_some o) (comes_to script w name y)) held_is
      ∙ ap (λ z. begin z (is_some (held_at w name p)) (comes_to script w name y)) stage_is) y

  seen-left : SameName left_sight (name_sight script w' hand' b' name)
  seen-left =
      record {
        place = sym leaves.place_is;
        maker = sym leaves.maker_is;
        stays = λ y. sym (leaves.stays_is y);
        used = sym used_is;
        part = sym part_is;
        body = sym body_is;
        deed = sym deed_is;
        held = λ y. sym (read-same script p w w' n takes [] entries c (λ (m : Node). get_named m.deeds name) held_is y);
        brought = λ to sender. sym (made (λ t s fs. filter (brings name) fs) (λ t s. filter-is-list-map (brings name))
            (refl, tt) to sender);
        kept = λ pid. sym (leaves.kept_is pid);
        hand = sym hand_is;
        begins = λ y. sym (begins-same y);
        steps = λ y. sym (ap (λ u. plays u b'.call name (frames_to w' y 1)) used_is
            ∙ ap (λ call. plays used call name (frames_to w' y 1)) call_is);
        ranges = λ y. sym (ap (λ u. flat_map (range_steps_of u b'.call name) (frames_to w' y 1)) used_is
            ∙ ap (λ call. flat_map (range_steps_of used call name) (frames_to w' y 1)) call_is);
        placed = λ q. sym (made (λ t s fs. placed_in name fs) (λ t s. flat_map-is-list-map _) (refl, tt) 1 q);
        news = λ q.
            sym (ap (λ u. news name (u && is_maker (maker (directory_of w') name) q) (frames_to w' 1 q)) used_is
            ∙ ap (λ m. news name (used && is_maker m q) (frames_to w' 1 q)) leaves.maker_is
            ∙ made (λ t s fs. news name (used && is_maker (maker (directory_of w) name) s) fs)
            (λ t s. flat_map-is-list-map _) (refl, tt) 1 q);
      }

  here : {T : Type 0} (g : List Frame → List T) → IsListMap g
      → g (frames_to w p 1) ≡ g (frames.Cancel asked ∷ []) ++ g (frames_to w' p 1)
  here g m =
      rest-stays script p 1 w w' n (frames.Cancel asked) [] entries c (λ t s fs. g fs) (λ t s. m)
      ∙ ap (λ xs. g (frames.Cancel asked ∷ []) ++ xs)
      (sym (only-stayed script p w w' n takes [] entries c (λ t s fs. g fs) (λ t s. m) tt p 1))

  elsewhere : {T : Type 0} (g : List Frame → List T) → IsListMap g → (y : ℕ) → y ≢ p
      → g (frames_to w' y 1) ≡ g (frames_to w y 1)
  elsewhere g m y d =
      only-stayed script p w w' n takes [] entries c (λ t s fs. g fs) (λ t s. m) tt y 1
      ∙ others-stay script p 1 w w' n (frames.Cancel asked) [] entries c (λ t s fs. g fs) (λ t s. m) y 1 (inl d)

  head : HasHead x p (used && is_cancel_on name asked) (not used && is_cancel_on name asked) steps-left ranges-left
  head =
      record {
        steps_here = here (plays used b.call name) (flat_map-is-list-map _)
            ∙ ap (λ ss. ss ++ steps-left p) (append-nil (steps_if (used && is_cancel_on name asked) IsNeeded));
        steps_there = elsewhere (plays used b.call name) (flat_map-is-list-map _);
        ranges_here = here (λ fs. flat_map (range_steps_of used b.call name) fs) (flat_map-is-list-map _)
            ∙ ap (λ ss. ss ++ ranges-left p)
            (append-nil (range_steps_if (not used && is_cancel_on name asked) IsSentThere));
        ranges_there = elsewhere (λ fs. flat_map (range_steps_of used b.call name) fs) (flat_map-is-list-map _);
      }

  -- All holds of the name.
  pub name-cancel-taken : (pids : ℕ → ℕ) → 2 ≤ p → IsMore (is_born_in w) (is_born_in w')
      → NameHolds script pids (is_born_in w) name (name_sight script w hand b name)
      → NameHolds script pids (is_born_in w') name (name_sight script w' hand' b' name)
  name-cancel-taken pids low more h =
      name-stays script pids (is_born_in w) (is_born_in w') name left_sight (name_sight script w' hand' b' name) more
      seen-left
      (name-head-taken script pids (is_born_in w) name x h p low (used && is_cancel_on name asked)
      (not used && is_cancel_on name asked) steps-left ranges-left head)
