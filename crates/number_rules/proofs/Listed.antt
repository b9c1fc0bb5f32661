-- A test of each process that is held, as the machine's node holds it.
use Rattle.std.proofs.Common.{◌≡◌, ◌||◌, List, [], ◌∷◌, map, Bool, refl, ap}
use Rattle.std.specs.List.{list_any}

-- a test of what each is mapped to is one of the mapped list
pub any-mapped : {X Y : Type 0} (p : Y → Bool) (f : X → Y) (xs : List X)
    → list_any (λ x. p (f x)) xs ≡ list_any p (map f xs)
any-mapped p f [] = refl
any-mapped p f (x ∷ xs) = ap (λ (b : Bool). p (f x) || b) (any-mapped p f xs)
