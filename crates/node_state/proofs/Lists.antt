-- A test that finds a number exactly where a list has it.
use Rattle.std.proofs.Common.{◌≡◌, ℕ, Bool, true, false, nat_eq, List, IsTrue, Contains, refl, sym}
use Rattle.std.specs.List.{list_any}
use Rattle.std.proofs.lemmas.Map.Views.{list_any-from_Contains, Contains-from_any}
use Rattle.number_maps.proofs.Order.{same-from-nat_eq}
use Rattle.std.specs.Cmp.{nat_eq_equiv}

-- a truth value that holds just where the list has the number is the answer of a search for it
pub contained-as-found : (b : Bool) (xs : List ℕ) (n : ℕ) → (IsTrue b → Contains xs n) → (Contains xs n → IsTrue b)
    → b ≡ list_any (nat_eq n) xs
contained-as-found true xs n has only = sym (list_any-from_Contains nat_eq_equiv n xs (has refl))
contained-as-found false xs n has only = at (list_any (nat_eq n) xs) refl
  where
    at : (b : Bool) → list_any (nat_eq n) xs ≡ b → false ≡ list_any (nat_eq n) xs
    at true is =
        let never : IsTrue false = only (Contains-from_any same-from-nat_eq n xs is)
        in absurd (cc)
    at false is = sym is
