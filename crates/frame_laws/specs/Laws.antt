-- What holds of the frames on their way in the worlds that a run of a script leads to.
use Rattle.std.specs.Prelude.{ℕ, Contains}
use Rattle.pico_base.specs.declared.script.Script.{Script}
use Rattle.rpc_frame.specs.declared.frame.Frame.{Frame}
use Rattle.kernel_model.specs.Script.{IsSoundScript}
use Rattle.world_model.specs.Run.{IsReachableWorld}
use Rattle.world_model.specs.World.{World}
use Rattle.world_laws.specs.Sights.{frames_to}
use Rattle.frame_bytes.specs.Limits.{IsWithinLimits}

-- Each is within the limits of frames, so it has a spelling.
abbrev pub FramesAreWithinLimits : Type 0
FramesAreWithinLimits =
    (script : Script) (w : World) → IsSoundScript script → IsReachableWorld script w
    → (to sender : ℕ) (frame : Frame) → Contains (frames_to w to sender) frame → IsWithinLimits frame
