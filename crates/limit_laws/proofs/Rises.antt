-- Maps by rising number, from a number on.
use Rattle.std.proofs.Common.{ℕ, ◌+◌, ◌≤◌, [], ◌∷◌, arith}
use Rattle.std.specs.List.{AllByRecursion}
use Rattle.number_maps.proofs.Rising.{Above}
use Rattle.number_maps.specs.Maps.{Numbered}

-- each number is at least this one
abbrev pub AreFrom : {V : Type 0} → ℕ → Numbered V → Type 0
AreFrom {V} low m = AllByRecursion (λ (e : ℕ × V). low ≤ e.0) m

-- Numbers above one are at least the next.
pub above-from : {V : Type 0} (n : ℕ) (m : Numbered V) → Above n m → AreFrom (n + 1) m
above-from n [] above = tt
above-from n (e ∷ m) above = let first = above.0 in (omega (arith, first), above-from n m above.1)
