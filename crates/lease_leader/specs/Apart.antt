-- Ranges of a kind don't overlap: a range brings numbers that were in none.
use Rattle.std.specs.Prelude.{◌≡◌, ◌+◌, ◌<◌, ◌≤◌, ◌⊎◌, ℕ, List, Some, None}
use Rattle.node_model.specs.Directory.{maker_in, range_size}

-- The next range, from its first number on: its numbers were in no range and are now in one of this node, and every
-- other number is where it was.
pub record IsNextRange (before after : List ℕ) (first node : ℕ) : Type 0 where
  pub new : (number : ℕ) → first ≤ number → number < first + range_size
      → (maker_in before number ≡ None) × (maker_in after number ≡ Some node)
  pub others : (number : ℕ) → (number < first) ⊎ (first + range_size ≤ number)
      → maker_in after number ≡ maker_in before number
