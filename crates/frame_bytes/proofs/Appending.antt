-- Bytes that are added one after the other.
use Rattle.std.proofs.Common.{◌≡◌, List, ℕ, ◌++◌, ap, ◌∙◌, append_assoc}

-- bytes that grew by three pieces, one after the other, grew by all three
pub three-pieces : (a b c d x y z : List ℕ) → b ≡ a ++ x → c ≡ b ++ y → d ≡ c ++ z → d ≡ a ++ (x ++ (y ++ z))
three-pieces a b c d x y z p q r =
    r ∙ ap (λ (l : List ℕ). l ++ z) q ∙ ap (λ (l : List ℕ). (l ++ y) ++ z) p ∙ append_assoc (a ++ x) y z
    ∙ append_assoc a x (y ++ z)
