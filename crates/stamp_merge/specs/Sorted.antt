-- What two stable sorts leave, the one by node and then the one by stamp.
use Rattle.std.specs.Prelude.{◌≡◌, ◌⊎◌, ⊤, ℕ, ◌<◌, ◌≤◌, nat_eq, List, [], ◌∷◌}
use Rattle.std.specs.List.{AllByRecursion, filter}
use Rattle.std.specs.List.Sorted.{IsPermutation}
use Rattle.stamp_merge.specs.declared.Stamped.{Stamped}
use Rattle.stamp_merge.specs.Merge.{items_of}

-- a lower stamp, or the same at a node that isn't higher
abbrev pub IsNotAfter : {T : Type 0} → Stamped T → Stamped T → Type 0
IsNotAfter e f = (e.stamp < f.stamp) ⊎ ((e.stamp ≡ f.stamp) × (e.node ≤ f.node))

-- no item is after one that stands behind it
abbrev pub NoneFalls : {T : Type 0} → List (Stamped T) → Type 0
NoneFalls [] = ⊤
NoneFalls (e ∷ items) = AllByRecursion (IsNotAfter e) items × NoneFalls items

-- the items of one stamp
abbrev pub stamped : {T : Type 0} → ℕ → List (Stamped T) → List (Stamped T)
stamped stamp items = filter (λ e. nat_eq e.stamp stamp) items

-- no item falls; the items that have the stamp and the node of an item are as they were; the items are the same
pub record IsSortOf {T : Type 0} (items sorted : List (Stamped T)) : Type 0 where
  pub none_falls : NoneFalls sorted
  pub stays : (e : Stamped T) → stamped e.stamp (items_of e.node sorted) ≡ stamped e.stamp (items_of e.node items)
  pub all : IsPermutation items sorted
