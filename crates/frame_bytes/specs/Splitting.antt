-- The steps by which a stream is split.
use Rattle.std.specs.Prelude.{◌≡◌, ℕ, ◌≤◌, List, ◌++◌, length, drop, Option, Some, None}
use Rattle.std.specs.List.{flat_map, AllByRecursion}
use Rattle.rpc_frame.specs.declared.frame.Frame.{Frame}
use Rattle.frame_bytes.specs.declared.fault.FrameFault.{FrameFault}
use Rattle.frame_bytes.specs.declared.splitting.Ahead.{Ahead}
use Rattle.frame_bytes.specs.declared.splitting.Ahead.TheVariants as aheads
use Rattle.frame_bytes.specs.Frames.{frame_bytes}
use Rattle.frame_bytes.specs.Ranges.{IsFrame}
use Rattle.frame_bytes.specs.Streams.{IsPartial, Stands, Begins}

-- what stands at the front of the bytes
abbrev pub AheadIs : List ℕ → Ahead → Type 0
AheadIs bytes aheads.Partial = IsPartial bytes
AheadIs bytes (aheads.Broken fault) = Stands fault bytes
AheadIs bytes (aheads.Whole f len) = Begins f len bytes

-- the end that a stream has behind its frames: bytes that may still become a frame, or a fault
abbrev pub EndIs : List ℕ → Option FrameFault → Type 0
EndIs bytes None = IsPartial bytes
EndIs bytes (Some fault) = Stands fault bytes

-- these frames stand at the front of the bytes, and take so many of them
pub record Front (bytes : List ℕ) (frames : List Frame) (used : ℕ) : Type 0 where
  pub within : used ≤ length bytes
  pub spelled : bytes ≡ flat_map frame_bytes frames ++ drop used bytes
  pub each : AllByRecursion IsFrame frames
