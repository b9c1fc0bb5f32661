-- One text behind another.
use Rattle.std.proofs.Common.{◌≡◌, ℕ, List, ◌++◌, ap, sym, ◌∙◌, append_assoc}

-- three parts put behind a text, one after another
pub three_parts : (a b c d x y z : List ℕ) → b ≡ a ++ x → c ≡ b ++ y → d ≡ c ++ z → d ≡ a ++ (x ++ (y ++ z))
three_parts a b c d x y z p q r =
    r ∙ ap (λ t. t ++ z) (q ∙ ap (λ t. t ++ y) p) ∙ ap (λ t. t ++ z) (append_assoc a x y) ∙ append_assoc a (x ++ y) z
    ∙ ap (λ t. a ++ t) (append_assoc x y z)

-- two parts put behind a text that grew before
pub two_parts_more : (a x y b c p q : List ℕ) → b ≡ a ++ x → c ≡ b ++ p ++ q → y ≡ x ++ (p ++ q) → c ≡ a ++ y
two_parts_more a x y b c p q grown more whole =
    more ∙ ap (λ t. t ++ p ++ q) grown ∙ append_assoc (a ++ x) p q ∙ append_assoc a x (p ++ q)
    ∙ ap (λ t. a ++ t) (sym whole)

-- one part put behind a text that grew before
pub one_part_more : (a x y b c p : List ℕ) → b ≡ a ++ x → x ++ p ≡ y → c ≡ b ++ p → c ≡ a ++ y
one_part_more a x y b c p grown whole more =
    more ∙ ap (λ t. t ++ p) grown ∙ append_assoc a x p ∙ ap (λ t. a ++ t) whole
