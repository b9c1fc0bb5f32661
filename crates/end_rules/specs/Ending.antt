-- What the end of a process and the release of what was held come to, a part at a time.
use Rattle.std.specs.Prelude.{◌≡◌, ℕ, ◌+◌, ◌≤◌, ◌<◌, Bool, true, false, nat_eq, if◌then◌else◌, List, [], ◌∷◌, ◌++◌, Option, Some, None, count_by}
use Rattle.pico_base.specs.declared.numbers.Name.{Name}
use Rattle.pico_base.specs.declared.script.Script.{Script}
use Rattle.rpc_frame.specs.declared.deed.Parcel.{Parcel}
use Rattle.rpc_frame.specs.declared.frame.Frame.TheVariants as frames
use Rattle.node_model.specs.declared.held.Held.{Held}
use Rattle.node_model.specs.Directory.{Directory, At, arrive, held_for, is_coming, is_parcel, parcels_held}
use Rattle.world_model.specs.Step.{Step, send, with_directory, with_node}
use Rattle.world_model.specs.Ends.{AfterEnd, IsHeld, Releases, arrive_all, end_by, end_process, exit_here, held_for_all}
use Rattle.world_model.specs.Releases.{release_round}

-- how many parcels there are in a list of items
abbrev pub parcels_among : List Held → ℕ
parcels_among items = count_by is_parcel items

abbrev pub parcels_in : Step → ℕ
parcels_in step = parcels_held step.node.leader.directory

abbrev pub with_places : Step → Directory → Step
with_places step d = with_node step (with_directory step.node d)

-- A process that was on its way is at this node, and what was held for it isn't held any more.
pub record Arrived (old : Step) (name : Name) (node : ℕ) (new : Step) (items : List Held) : Type 0 where
  pub came : is_coming old.node.leader.directory name ≡ true
  pub held : items ≡ held_for old.node.leader.directory name
  pub after : new ≡ with_places old (arrive old.node.leader.directory name node)
  pub counts : parcels_in new + parcels_among items ≡ parcels_in old

-- All these have arrived, and this was held for them, in order.
pub record AllArrived (old : Step) (names : List Name) (node : ℕ) (new : Step) (items : List Held) : Type 0 where
  pub held : items ≡ held_for_all old.node.leader.directory names
  pub after : new ≡ with_places old (arrive_all old.node.leader.directory names node)
  pub counts : parcels_in new + parcels_among items ≡ parcels_in old

-- ---- the end

-- the exit is carried out here, or sent to the parent's node
abbrev pub exit_at : Script → Step → Parcel → ℕ → Option Step
exit_at script step parcel node =
    if nat_eq node step.node.number then exit_here script step parcel else Some (send step node (frames.ExitTo parcel))

-- The parent is at this node, and these items are to be released.
pub record EndsAt (script : Script) (old : Step) (parcel : Parcel) (node : ℕ) (new : Step) (items : List Held)
    : Type 0 where
  pub after : end_by script old parcel (Some (At node)) ≡ Some (Releases new items)
  pub counts : parcels_in new + parcels_among items ≤ parcels_in old

-- The parcel's end is held, or these items are to be released.
abbrev pub after_end : Step → Option (List Held) → AfterEnd
after_end new None = IsHeld new
after_end new (Some items) = Releases new items

abbrev pub CountsAfter : Step → Step → Option (List Held) → Type 0
CountsAfter old new None = parcels_in new ≤ parcels_in old + 1
CountsAfter old new (Some items) = parcels_in new + parcels_among items ≤ parcels_in old

pub record Ends (script : Script) (old : Step) (parcel : Parcel) (new : Step) (released : Option (List Held))
    : Type 0 where
  pub after : end_process script old parcel ≡ Some (after_end new released)
  pub counts : CountsAfter old new released

-- ---- a round

-- The item is taken off, and the round goes on with the rest.
pub record GoesOn (script : Script) (old : Step) (item : Held) (new : Step) : Type 0 where
  pub round : (next : List Held → Step → Option Step) (rest : List Held)
      → release_round script next (item ∷ rest) old ≡ release_round script next rest new
  pub counts : parcels_in new ≤ parcels_among (item ∷ []) + parcels_in old

-- The item was a parcel, and the next round begins with what it releases in front.
pub record BeginsNext (script : Script) (old : Step) (item : Held) (new : Step) (items : List Held) : Type 0 where
  pub round : (next : List Held → Step → Option Step) (rest : List Held)
      → release_round script next (item ∷ rest) old ≡ next (items ++ rest) new
  pub counts : parcels_in new + parcels_among items < parcels_among (item ∷ []) + parcels_in old

abbrev pub TakesOff : Script → Step → Held → Step → Option (List Held) → Type 0
TakesOff script old item new None = GoesOn script old item new
TakesOff script old item new (Some items) = BeginsNext script old item new items

-- how many parcels there are in hand, and held
abbrev pub parcels_left : List Held → Step → ℕ
parcels_left items step = parcels_among items + parcels_in step

-- A round of these items goes on with the ones that are left.
pub record RoundGoes (script : Script) (old : Step) (items : List Held) (new : Step) (left : List Held) : Type 0 where
  pub round : (next : List Held → Step → Option Step)
      → release_round script next items old ≡ release_round script next left new
  pub counts : parcels_left left new ≤ parcels_left items old

-- The next round begins with the ones that are left.
pub record RoundEnds (script : Script) (old : Step) (items : List Held) (new : Step) (left : List Held) : Type 0 where
  pub round : (next : List Held → Step → Option Step) → release_round script next items old ≡ next left new
  pub counts : parcels_left left new < parcels_left items old

-- There is a next round, or no item is left.
abbrev pub Rounds : Script → Step → List Held → Step → List Held → Bool → Type 0
Rounds script old items new left true = RoundEnds script old items new left
Rounds script old items new left false =
    (next : List Held → Step → Option Step) → release_round script next items old ≡ Some new
