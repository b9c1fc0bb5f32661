-- What holds of each item of a list with its number, the first of which is given.
use Rattle.std.specs.Prelude.{ℕ, ◌+◌, List, [], ◌∷◌}

abbrev pub AllFrom : {A : Type 0} → (ℕ → A → Type 0) → ℕ → List A → Type 0
AllFrom P first [] = Unit {0}
AllFrom P first (x ∷ xs) = P first x × AllFrom P (first + 1) xs
