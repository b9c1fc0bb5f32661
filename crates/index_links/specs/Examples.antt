-- Nodes in their order, computed by the checker.
use Rattle.std.specs.Prelude.{◌≡◌, ℕ, pos, negsuc, List, [], ◌∷◌, Some, None}
use mathlib.Core.Path.{refl}
use Rattle.index_links.specs.Keys.{key_of, class_of}
use Rattle.index_links.specs.Nodes.{Node, node_at, without, first_slot, first_slot_of, slot_after, least_upto}

abbrev pub a : Node ℕ
a = record { slot = 3; class = pos 2; value = 97 }

abbrev pub b : Node ℕ
b = record { slot = 0; class = pos 1; value = 98 }

abbrev pub c : Node ℕ
c = record { slot = 1; class = pos 2; value = 99 }

abbrev pub nodes : List (Node ℕ)
nodes = a ∷ b ∷ c ∷ []

-- one is taken out of the middle, and the others keep their slots
taken : without 0 nodes ≡ a ∷ c ∷ []
taken = refl

at_a_slot : (node_at 1 nodes ≡ Some c) × (node_at 2 nodes ≡ None)
at_a_slot = (refl, refl)

oldest : (first_slot nodes ≡ Some 3) × (first_slot {V = ℕ} [] ≡ None)
oldest = (refl, refl)

oldest_of_a_class : (first_slot_of (pos 2) nodes ≡ Some 3) × (first_slot_of (pos 1) nodes ≡ Some 0)
    × (first_slot_of (pos 3) nodes ≡ None)
oldest_of_a_class = (refl, refl, refl)

next : (slot_after 3 nodes ≡ Some 0) × (slot_after 1 nodes ≡ None)
next = (refl, refl)

lowest : (least_upto (pos 9) nodes ≡ Some (pos 1)) × (least_upto (pos 0) nodes ≡ None)
lowest = (refl, refl)

-- class 0 stands in the middle of the numbers, the lowest class at 0
keys : (key_of (pos 0) ≡ 2147483648) × (key_of (negsuc 2147483647) ≡ 0) × (class_of 2147483649 ≡ pos 1)
unfolding key_of class_of
keys = (refl, refl, refl)
