-- What is kept beside counts, worked out.
use Rattle.std.proofs.Common.{◌≡◌, [], ◌∷◌, refl}
use Rattle.world_core.specs.Counts.{busy_mask}

-- the first and the third of three nodes have events: the bits of 1 and of 4
mask_of_three : busy_mask (2 ∷ 0 ∷ 1 ∷ []) ≡ 5
mask_of_three = refl

-- no node has one
mask_of_none : busy_mask (0 ∷ 0 ∷ []) ≡ 0
mask_of_none = refl
