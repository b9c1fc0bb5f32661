-- What is on its way to one node: a stream of frames from each node, each in the order of sending.
use Rattle.std.specs.Prelude.{◌≡◌, ℕ, ◌-◌, ◌≤◌, Bool, true, false, ◌||◌, List, [], ◌∷◌, set, get_or, map, Option, length, Some, None, count_by}
use Rattle.rpc_frame.specs.declared.frame.Frame.{Frame}
use Rattle.std.specs.List.{filter}
use Rattle.std.specs.Simd.Lanes.{mask_l}
use Rattle.world_model.specs.World.{numbers, is_checkpoint}

-- the frames from this node
abbrev pub from_node : List (List Frame) → ℕ → List Frame
from_node row from = get_or row (from - 1) []

-- the streams where the one from this node is so
abbrev pub with_from : List (List Frame) → ℕ → List Frame → List (List Frame)
with_from row from frames = set row (from - 1) frames

-- the first frame of a stream was taken
abbrev pub IsFirstOf : List Frame → Option Frame → List Frame → Type 0
IsFirstOf old None new = (old ≡ []) × (new ≡ [])
IsFirstOf old (Some frame) new = old ≡ frame ∷ new

-- the first frame of the stream from this node was taken, if there is one
abbrev pub IsTaken : List (List Frame) → ℕ → Option Frame → List (List Frame) → Type 0
IsTaken old from None new = (from_node old from ≡ []) × (new ≡ old)
IsTaken old from (Some frame) new =
    (frames_left : List Frame) × (from_node old from ≡ frame ∷ frames_left) × (new ≡ with_from old from frames_left)

abbrev pub is_filled : List Frame → Bool
is_filled [] = false
is_filled (frame ∷ frames) = true

-- how many of the streams have a frame
abbrev pub filled_in : List (List Frame) → ℕ
filled_in row = count_by is_filled row

-- the streams that have a frame, as a number: the bit of each stands at its place
abbrev pub filled_mask : List (List Frame) → ℕ
filled_mask row = mask_l (map is_filled row)

-- At most 32 streams, and this number has a bit for each, which is set where the stream has a frame.
abbrev pub IsMarked : ℕ → List (List Frame) → Type 0
IsMarked filled row = (length row ≤ 32) × (filled ≡ filled_mask row)

-- whether a node takes the first frame of a stream: one that isn't born takes a Checkpoint alone
abbrev pub may_take : Bool → List Frame → Bool
may_take is_born [] = false
may_take is_born (frame ∷ frames) = is_born || is_checkpoint frame

-- who sent the frames that the node may take, by rising number
abbrev pub senders : Bool → List (List Frame) → List ℕ
senders is_born row = filter (λ from. may_take is_born (from_node row from)) (numbers 1 (length row))
