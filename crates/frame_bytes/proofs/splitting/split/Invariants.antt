use Rattle.std.proofs.Common.{◌-◌, length}
use Rattle.frame_bytes.specs.Splitting.{Front}
use Rattle.frame_bytes.proofs.splitting.split.Given as goal

abbrev pub invariant-loop-frames : goal.invariant-loop-frames
invariant-loop-frames l = Front l.bytes l.frames.items l.used

abbrev pub decreases-loop-frames : goal.decreases-loop-frames
decreases-loop-frames l = length l.bytes - l.used
