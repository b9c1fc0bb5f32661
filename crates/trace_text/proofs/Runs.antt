-- Texts of one byte again and again.
use Rattle.std.proofs.Common.{◌≡◌, ℕ, List, [], ◌∷◌, length, take, refl, arith}
use Rattle.std.specs.Prelude.{nat_eq}
use Rattle.std.specs.List.{list_all}
use Rattle.std.specs.Str.{bytes_eq}

-- the bytes behind the first are all as it is where each is as the one before it
pub same_throughout : (b : ℕ) (bs : List ℕ) → bytes_eq bs (take (length bs) (b ∷ bs)) ≡ list_all (nat_eq b) bs
same_throughout b [] = refl
same_throughout b (c ∷ cs) = grind (arith, same_throughout c cs)
