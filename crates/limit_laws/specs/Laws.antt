-- A node within limits stays so, and what it sends is within the limits of frames.
use Rattle.std.specs.Prelude.{◌≡◌, ◌≤◌, ◌&&◌, ℕ, true, nat_lt, length, Some}
use Rattle.std.specs.List.{AllByRecursion}
use Rattle.pico_base.specs.declared.script.Script.{Script}
use Rattle.rpc_frame.specs.declared.frame.Frame.{Frame}
use Rattle.rpc_frame.specs.declared.frame.Frame.TheVariants as frames
use Rattle.frame_bytes.specs.Limits.{is_frame}
use Rattle.kernel_model.specs.Script.{IsSoundScript}
use Rattle.limit_laws.specs.Within.{IsFrameWithin, IsNodeWithin, IsStepWithin}
use Rattle.world_model.specs.Node.{Node, opening_node}
use Rattle.world_model.specs.Starting.{run}
use Rattle.world_model.specs.Step.{Step}
use Rattle.world_model.specs.Turn.{has_room_for, take_frame}

-- What the type of a variable says of it, and the limits of frames don't: its index is at most 2885.
abbrev pub HasVariables : Frame → Type 0
HasVariables (frames.Checkpoint pid parent deed vars) = AllByRecursion (λ (v : ℕ × ℕ). v.0 ≤ 2885) vars
HasVariables frame = Unit {0}

-- Each node begins within limits,
abbrev pub OpeningNodesAreWithinLimits : Type 0
OpeningNodesAreWithinLimits = (script : Script) (number : ℕ) → IsNodeWithin script (opening_node number)

-- stays so where it takes a frame, and sends frames within them: a frame that isn't within them has no step, nor has
-- one that would have it send such a frame.
abbrev pub TakingKeepsLimits : Type 0
TakingKeepsLimits =
    (script : Script) (n : Node) (from : ℕ) (frame : Frame) (s : Step) → IsSoundScript script → IsNodeWithin script n
    → HasVariables frame → take_frame script n from frame ≡ Some s → IsStepWithin script s

-- and the same where it starts a call.
abbrev pub RunningKeepsLimits : Type 0
RunningKeepsLimits =
    (script : Script) (n : Node) (s : Step) → IsSoundScript script → IsNodeWithin script n → run script n ≡ Some s
    → IsStepWithin script s

-- What a node within limits has sent may come, as far as limits go; the count of deeds is asked of who hands over.
abbrev pub SentFramesPass : Type 0
SentFramesPass =
    (n : Node) (from : ℕ) (frame : Frame) → IsFrameWithin frame → nat_lt (length n.deeds.processes) 256 ≡ true
    → HasVariables frame × ((is_frame frame && has_room_for n from frame) ≡ true)
