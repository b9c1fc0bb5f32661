-- The frames on their way from one node to another, each beside the node that it is sent to.
use Rattle.std.specs.Prelude.{ℕ, Bool, false, List, [], ◌∷◌, ◌++◌, map, reverse}
use Rattle.rpc_frame.specs.declared.frame.Frame.{Frame}
use Rattle.world_core.specs.Inbox.{is_filled}

abbrev pub frame_of : ℕ × Frame → Frame
frame_of sent = sent.1

-- those at the front stand in reverse
abbrev pub frames_of : List (ℕ × Frame) → List (ℕ × Frame) → List Frame
frames_of front back = map frame_of (reverse front ++ back)

-- whether more than one frame is on its way
abbrev pub has_second : List Frame → Bool
has_second [] = false
has_second (frame ∷ frames) = is_filled frames
