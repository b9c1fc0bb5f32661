-- Two logs and their merge, computed by the checker.
use Rattle.std.specs.Prelude.{◌≡◌, ℕ, List, [], ◌∷◌}
use mathlib.Core.Path.{refl}
use Rattle.stamp_merge.specs.declared.Stamped.{Stamped}
use Rattle.stamp_merge.specs.Merge.{items_of}

-- a number as an item
abbrev pub at : ℕ → ℕ → ℕ → Stamped ℕ
at stamp node item = record { stamp = stamp; node = node; item = item }

abbrev pub of_node_1 : List (Stamped ℕ)
of_node_1 = at 3 1 71 ∷ at 4 1 73 ∷ []

abbrev pub of_node_2 : List (Stamped ℕ)
of_node_2 = at 1 2 70 ∷ at 3 2 72 ∷ []

-- at stamp 3 both have an item: that of node 1 comes first
abbrev pub merged : List (Stamped ℕ)
merged = at 1 2 70 ∷ at 3 1 71 ∷ at 3 2 72 ∷ at 4 1 73 ∷ []

-- each log is the part of its node
parts : (items_of 1 merged ≡ of_node_1) × (items_of 2 merged ≡ of_node_2)
parts = (refl, refl)

-- node 3 has no log, and no part
no_others : items_of 3 merged ≡ []
no_others = refl
