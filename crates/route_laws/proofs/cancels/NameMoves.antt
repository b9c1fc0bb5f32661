-- What is seen of a name when a withdrawal is taken or sent: between other nodes and the leader nothing of it is, and
-- on its way from the leader it needs the deed, or goes to the maker.
use Rattle.std.proofs.Common.{Bool, List, Option, [], ap, cond, false, filter, flat_map, is_some, nat_eq, not, refl, sym, true, ℕ, ◌&&◌, ◌∙◌, ◌∷◌, ◌≡◌, ◌≢◌}
use Rattle.std.proofs.lemmas.Bool.{false≢true, ne_eqb}
use Rattle.std.specs.List.{AllByRecursion}
use Rattle.pico_base.specs.declared.numbers.Name.TheVariants.{Proc}
use Rattle.pico_base.specs.declared.numbers.Name.{Name}
use Rattle.pico_base.specs.declared.reply.Entry.{Entry}
use Rattle.pico_base.specs.declared.script.Script.{Script}
use Rattle.rpc_frame.specs.declared.frame.Frame.TheVariants as frames
use Rattle.rpc_frame.specs.declared.frame.Frame.{Frame}
use Rattle.node_model.specs.Bodies.{body_in}
use Rattle.node_model.specs.Directory.{Directory, Place, held_for, is_parcel_with, maker, place_of, stays}
use Rattle.node_model.specs.Kinds.{get_named}
use Rattle.node_model.specs.declared.held.Held.{Held}
use Rattle.world_model.specs.Census.{brings}
use Rattle.world_model.specs.Node.{Node}
use Rattle.world_model.specs.World.{World}
use Rattle.entry_laws.specs.Entering.{is_used_name}
use Rattle.world_laws.proofs.Changes.{Changes, IsListMap, filter-is-list-map, flat_map-is-list-map, made-same, read-same}
use Rattle.world_laws.proofs.Frames.{all-weaker}
use Rattle.world_laws.proofs.Stays.{SameName}
use Rattle.world_laws.specs.Names.{comes_to, forker, held_at, is_maker, name_sight, range_steps_of}
use Rattle.world_laws.specs.Places.{Beside}
use Rattle.world_laws.specs.Plays.{begin, has_any, is_checkpoint_of, news, placed_in, plays}
use Rattle.world_laws.specs.Sights.{directory_of, frames_to, stage_of}

-- ---- between other nodes and the leader

abbrev pub is_cancel : Frame → Bool
is_cancel (frames.Cancel asked) = true
is_cancel frame = false

-- withdrawals that weren't sent by the leader
pub record CarriesCancels (p : ℕ) (takes sends : List (ℕ × Frame)) : Type 0 where
  pub taken : AllByRecursion (λ s. is_cancel s.1 ≡ true) takes
  pub from_others : AllByRecursion (λ s. s.0 ≢ 1) takes
  pub sent : AllByRecursion (λ s. is_cancel s.1 ≡ true) sends
  pub by_another : AllByRecursion (λ (s : ℕ × Frame). p ≢ 1) sends

-- for a name such a frame is nothing but a step in a play or a range
is-no-deed : (name : Name) (f : Frame) → is_cancel f ≡ true → filter (brings name) (f ∷ []) ≡ []
is-no-deed name (frames.Cancel asked) h = refl
is-no-deed name f h = absurd (false≢true h)

is-no-checkpoint : (name : Name) (f : Frame) → is_cancel f ≡ true → filter (is_checkpoint_of name) (f ∷ []) ≡ []
is-no-checkpoint name (frames.Cancel asked) h = refl
is-no-checkpoint name f h = absurd (false≢true h)

is-no-place : (name : Name) (f : Frame) → is_cancel f ≡ true → placed_in name (f ∷ []) ≡ []
is-no-place name (frames.Cancel asked) h = refl
is-no-place name f h = absurd (false≢true h)

is-no-news : (name : Name) (made : Bool) (f : Frame) → is_cancel f ≡ true → news name made (f ∷ []) ≡ []
is-no-news name made (frames.Cancel asked) h = refl
is-no-news name made f h = absurd (false≢true h)

-- of a stream from the leader what is made of it, and of others nothing
abbrev from_leader : {T : Type 0} → (List Frame → List T) → ℕ → List Frame → List T
from_leader g sender fs = cond (nat_eq sender 1) (g fs) []

from-leader-is-list-map : {T : Type 0} (g : List Frame → List T) → IsListMap g → (sender : ℕ)
    → IsListMap (from_leader g sender)
from-leader-is-list-map g m sender = by (nat_eq sender 1)
  where
    by : (t : Bool) → IsListMap (λ fs. cond t (g fs) [])
    by true = record { of_none = m.of_none; of_both = m.of_both }
    by false = record { of_none = refl; of_both = λ xs ys. refl }

-- the directory says the same of a name but for its place
pub record DirectoryLeavesBut (d d' : Directory) (name : Name) : Type 0 where
  pub maker_is : maker d' name ≡ maker d name
  pub stays_is : (x : ℕ) → stays d' x ≡ stays d x
  pub kept_is : (pid : ℕ)
      → filter (is_parcel_with name) (held_for d' (Proc pid)) ≡ filter (is_parcel_with name) (held_for d (Proc pid))

module _ (script : Script) (p : ℕ) (w w' : World) (n : Node) (takes sends : List (ℕ × Frame)) (entries : List Entry)
    (c : Changes script p w w' n takes sends entries) (carries : CarriesCancels p takes sends)
    (hand hand' : List Held) (b b' : Beside) (name : Name) (place : Option Place)
    (place_is : place_of (directory_of w') name ≡ place)
    (leaves : DirectoryLeavesBut (directory_of w) (directory_of w') name)
    (used_is : is_used_name b'.kernel name ≡ is_used_name b.kernel name)
    (part_is : body_in b'.kernel name ≡ body_in b.kernel name) (body_is : b'.body name ≡ b.body name)
    (deed_is : b'.deed name ≡ b.deed name) (call_is : b'.call ≡ b.call)
    (held_is : get_named n.deeds name ≡ held_at w name p)
    (stage_is : n.stage ≡ stage_of w p)
    (hand_is : filter (is_parcel_with name) hand' ≡ filter (is_parcel_with name) hand) where
  abbrev made : {T : Type 0} → (f : ℕ → ℕ → List Frame → List T) → ((to sender : ℕ) → IsListMap (f to sender))
      → AllByRecursion (λ s. f p s.0 (s.1 ∷ []) ≡ []) takes → AllByRecursion (λ s. f s.0 p (s.1 ∷ []) ≡ []) sends
      → (to sender : ℕ) → f to sender (frames_to w' to sender) ≡ f to sender (frames_to w to sender)
  made = made-same script p w w' n takes sends entries c

  -- what is made of the leader's streams stays
  from-leader-same : {T : Type 0} (g : List Frame → List T) → IsListMap g → (to : ℕ)
      → g (frames_to w' to 1) ≡ g (frames_to w to 1)
  from-leader-same g m to =
      made (λ t s fs. from_leader g s fs) (λ t s. from-leader-is-list-map g m s)
      (all-weaker (λ s other. ap (λ u. cond u (g (s.1 ∷ [])) []) (ne_eqb s.0 1 other)) takes carries.from_others)
      (all-weaker (λ s other. ap (λ u. cond u (g (s.1 ∷ [])) []) (ne_eqb p 1 other)) sends carries.by_another)
      to 1

  begins-same : (h : ℕ)
      → begin (stage_of w' h) (is_some (held_at w' name h)) (comes_to script w' name h)
      ≡ begin (stage_of w h) (is_some (held_at w name h)) (comes_to script w name h)
  begins-same h =
      ap (λ fs. begin (stage_of w' h) (is_some (held_at w' name h)) (not (nat_eq (forker script h) 1) && has_any fs))
      (made (λ t s fs. filter (is_checkpoint_of name) fs) (λ t s. filter-is-list-map (is_checkpoint_of name))
      (all-weaker (λ s. is-no-checkpoint name s.1) takes carries.taken)
      (all-weaker (λ s. is-no-checkpoint name s.1) sends carries.sent) h (forker script h))
      ∙ read-same script p w w' n takes sends entries c
      (λ (m : Node). begin m.stage (is_some (get_named m.deeds name)) (comes_to script w name h))
      (ap (λ o. begin n.stage (is_some o) (comes_to script w name h)) held_is
      ∙ ap (λ z. begin z (is_some (held_at w name p)) (comes_to script w name h)) stage_is) h

  -- A name is seen the same, but for its place.
  pub name-passed-by : SameName (record (name_sight script w hand b name) { place = place })
      (name_sight script w' hand' b' name)
  name-passed-by =
      record {
        place = sym place_is;
        maker = sym leaves.maker_is;
        stays = λ y. sym (leaves.stays_is y);
        used = sym used_is;
        part = sym part_is;
        body = sym body_is;
        deed = sym deed_is;
        held = λ h. sym (read-same script p w w' n takes sends entries c (λ (m : Node). get_named m.deeds name)
            held_is h);
        brought = λ to sender. sym (made (λ t s fs. filter (brings name) fs) (λ t s. filter-is-list-map (brings name))
            (all-weaker (λ s. is-no-deed name s.1) takes carries.taken)
            (all-weaker (λ s. is-no-deed name s.1) sends carries.sent) to sender);
        kept = λ pid. sym (leaves.kept_is pid);
        hand = sym hand_is;
        begins = λ h. sym (begins-same h);
        steps = λ h. sym (ap (λ u. plays u b'.call name (frames_to w' h 1)) used_is
            ∙ ap (λ call. plays (is_used_name b.kernel name) call name (frames_to w' h 1)) call_is
            ∙ from-leader-same (plays (is_used_name b.kernel name) b.call name) (flat_map-is-list-map _) h);
        ranges = λ h. sym (ap (λ u. flat_map (range_steps_of u b'.call name) (frames_to w' h 1)) used_is
            ∙ ap (λ call. flat_map (range_steps_of (is_used_name b.kernel name) call name) (frames_to w' h 1)) call_is
            ∙ from-leader-same (λ fs. flat_map (range_steps_of (is_used_name b.kernel name) b.call name) fs)
            (flat_map-is-list-map _) h);
        placed = λ q. sym (made (λ t s fs. placed_in name fs) (λ t s. flat_map-is-list-map _)
            (all-weaker (λ s. is-no-place name s.1) takes carries.taken)
            (all-weaker (λ s. is-no-place name s.1) sends carries.sent) 1 q);
        news = λ q.
            sym (ap (λ u. news name (u && is_maker (maker (directory_of w') name) q) (frames_to w' 1 q)) used_is
            ∙ ap (λ m. news name (is_used_name b.kernel name && is_maker m q) (frames_to w' 1 q)) leaves.maker_is
            ∙ made
            (λ t s fs. news name (is_used_name b.kernel name && is_maker (maker (directory_of w) name) s) fs)
            (λ t s. flat_map-is-list-map _)
            (all-weaker (λ s. is-no-news name _ s.1) takes carries.taken)
            (all-weaker (λ s. is-no-news name _ s.1) sends carries.sent) 1 q);
      }
