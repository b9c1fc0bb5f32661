-- The children of a process, living and ended.
use Rattle.std.specs.Prelude.{◌≡◌, ℕ, ◌≤◌, Bool, true, false, not, ◌&&◌, nat_eq, List, [], ◌∷◌, ◌++◌, length, map}
use Rattle.std.specs.List.{list_any}
use Rattle.kernel_model.specs.Row.{Family, EndedChild}

abbrev pub members_of : List ℕ → List (EndedChild) → Family
members_of living ended = record { living = living; ended = ended }

-- their numbers
abbrev pub children : Family → List ℕ
children f = f.living ++ map (λ e. e.pid) f.ended

abbrev pub is_child : Family → ℕ → Bool
is_child f child = list_any (nat_eq child) (children f)

-- no number is there twice
abbrev pub are_different : List ℕ → Bool
are_different [] = true
are_different (n ∷ ns) = not (list_any (nat_eq n) ns) && are_different ns

-- at most 31 numbers, since there are 32 picoprocesses, all different, and 0 isn't among them
pub record AreChildren (ns : List ℕ) : Type 0 where
  pub few : length ns ≤ 31
  pub positive : list_any (nat_eq 0) ns ≡ false
  pub different : are_different ns ≡ true
