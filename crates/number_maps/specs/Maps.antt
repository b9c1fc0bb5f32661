-- Finite maps and sets of numbers, by rising number: what std's ordered maps and sets hold. They compute, so
-- that the checker can work out examples.
use Rattle.std.specs.Prelude.{ℕ, Bool, not, List, nat_eq, Option}
use Rattle.std.specs.List.{list_any, filter}
use Rattle.std.specs.Ordering.{nat_cmp}
use Rattle.std.specs.Map.{lookup}
use Rattle.std.specs.BTreeMap.{insert_entry, is_at}
use Rattle.std.specs.BTreeSet.{insert_key}

abbrev pub Numbered : Type 0 → Type 0
Numbered V = List (ℕ × V)

-- what the map has at a number
abbrev pub get : {V : Type 0} → Numbered V → ℕ → Option V
get m k = lookup (is_at (nat_cmp k)) m

-- the map with this value at the number
abbrev pub put : {V : Type 0} → Numbered V → ℕ → V → Numbered V
put m k v = insert_entry nat_cmp m k v

-- the map with nothing at the number
abbrev pub without : {V : Type 0} → Numbered V → ℕ → Numbered V
without m k = filter (λ e. not (nat_eq k e.0)) m

-- the map without each value of this number
abbrev pub without_value : {V : Type 0} → (V → ℕ) → Numbered V → ℕ → Numbered V
without_value number m n = filter (λ e. not (nat_eq (number e.1) n)) m

-- the number is in the set
abbrev pub is_used : List ℕ → ℕ → Bool
is_used used n = list_any (nat_eq n) used

-- the set with this number
abbrev pub used_with : List ℕ → ℕ → List ℕ
used_with used n = insert_key nat_cmp used n
