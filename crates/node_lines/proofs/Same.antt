-- Lists of the same lines.
use Rattle.std.proofs.Common.{◌≡◌, ℕ, zero, suc, List, [], ◌∷◌, get_or, set, refl, ◌∙◌}
use Rattle.log_model.specs.Views.{Line}
use Rattle.log_model.specs.Logged.{others_in}
use Rattle.node_lines.specs.Lines.{IsSameLine, AreSameLines}

-- a line is the same as itself
pub IsSameLine-refl : (line : Line) → IsSameLine line line
IsSameLine-refl line = record { other = refl; out = refl; into = refl }

pub IsSameLine-trans : (a b c : Line) → IsSameLine a b → IsSameLine b c → IsSameLine a c
IsSameLine-trans a b c s t =
    record { other = t.other ∙ s.other; out = t.out ∙ s.out; into = t.into ∙ s.into }

-- and lines as themselves
pub AreSameLines-refl : (lines : List Line) → AreSameLines lines lines
AreSameLines-refl [] = tt
AreSameLines-refl (line ∷ lines) = (IsSameLine-refl line, AreSameLines-refl lines)

-- sameness goes on
pub AreSameLines-trans : (a b c : List Line) → AreSameLines a b → AreSameLines b c → AreSameLines a c
AreSameLines-trans [] [] [] s t = tt
AreSameLines-trans [] [] (z ∷ zs) s t = t
AreSameLines-trans [] (y ∷ ys) c s t = absurd s
AreSameLines-trans (x ∷ xs) [] c s t = absurd s
AreSameLines-trans (x ∷ xs) (y ∷ ys) [] s t = absurd t
AreSameLines-trans (x ∷ xs) (y ∷ ys) (z ∷ zs) s t =
    (IsSameLine-trans x y z s.0 t.0, AreSameLines-trans xs ys zs s.1 t.1)

-- one of them is replaced by the same line
pub AreSameLines-set : (olds news : List Line) (i : ℕ) (new d : Line) → AreSameLines olds news
    → IsSameLine (get_or news i d) new → AreSameLines olds (set news i new)
AreSameLines-set [] [] i new d s t = tt
AreSameLines-set [] (y ∷ ys) i new d s t = absurd s
AreSameLines-set (x ∷ xs) [] i new d s t = absurd s
AreSameLines-set (x ∷ xs) (y ∷ ys) zero new d s t = (IsSameLine-trans x y new s.0 t, s.1)
AreSameLines-set (x ∷ xs) (y ∷ ys) (suc i) new d s t = (s.0, AreSameLines-set xs ys i new d s.1 t)

-- they are with the same nodes
pub AreSameLines-others : (olds news : List Line) → AreSameLines olds news → others_in news ≡ others_in olds
AreSameLines-others [] [] s = refl
AreSameLines-others [] (y ∷ ys) s = absurd s
AreSameLines-others (x ∷ xs) [] s = absurd s
AreSameLines-others (x ∷ xs) (y ∷ ys) s =
    let first : y.other ≡ x.other = s.0.other in
    let others : others_in ys ≡ others_in xs = AreSameLines-others xs ys s.1 in
    cc
