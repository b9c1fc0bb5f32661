-- Bytes and their pieces, computed by the checker.
use Rattle.std.specs.Prelude.{◌≡◌, ℕ, List, [], ◌∷◌, length, map, replicate}
use mathlib.Core.Path.{refl}
use Rattle.stream_pair.specs.Pieces.{pieces}

-- the sizes of the pieces of so many bytes
abbrev sizes : ℕ → List ℕ
sizes count = map (λ p. length p.bytes) (pieces 7 (replicate count 0))

-- a frame that takes 1,200 bytes with its length field goes as three pieces
long_frame : sizes 1200 ≡ 512 ∷ 512 ∷ 176 ∷ []
long_frame = refl

-- all of them have its event's stamp
long_frame_stamps : map (λ p. p.stamp) (pieces 7 (replicate 1200 0)) ≡ 7 ∷ 7 ∷ 7 ∷ []
long_frame_stamps = refl

-- what fits one piece is one, and nothing is none
short_frames : (sizes 512 ≡ 512 ∷ []) × (sizes 513 ≡ 512 ∷ 1 ∷ []) × (sizes 0 ≡ [])
short_frames = (refl, refl, refl)
