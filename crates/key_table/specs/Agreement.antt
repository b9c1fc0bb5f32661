-- The index from identifiers to keys, against what the keys are bound to.
use Rattle.std.specs.Prelude.{◌≡◌, ◌↔◌, ℕ, Option, Some, IsTrue}
use Rattle.key_table.specs.declared.Bound.{Bound}
use Rattle.key_table.specs.KeyMap.{is_bound_to}

-- a key is the identifier's exactly where it is bound to it
abbrev pub Agree : (ℕ → Option Bound) → (ℕ → Option ℕ) → Type 0
Agree bound key_of = (id key : ℕ) → IsTrue (is_bound_to id (bound key)) ↔ (key_of id ≡ Some key)
