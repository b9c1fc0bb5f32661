-- In each world that a run of a sound script leads to, nodes and frames on their way are within limits: so every frame
-- has a spelling.
use Rattle.std.proofs.lemmas.List.Elements.{All-contains, All-from_recursion}
use Rattle.world_laws.specs.Sights.{frames_to}
use Rattle.limit_laws.specs.Within.{IsFrameWithin}
use Rattle.world_limit_laws.specs.Within.{IsWorldWithin}
use Rattle.run_laws.proofs.Worlds.{IsSettled, reachable-is-settled}
use Rattle.frame_laws.specs.Laws.{FramesAreWithinLimits}

-- Every frame on its way is within the limits.
pub frames_are_within_limits_lemma : FramesAreWithinLimits
frames_are_within_limits_lemma script w sound run to sender f there =
    let settled : IsSettled script w = reachable-is-settled script sound w run
    in let within : IsWorldWithin script w = settled.roomy.within
    in let frame : IsFrameWithin f =
    All-contains IsFrameWithin (frames_to w to sender) f
    (All-from_recursion IsFrameWithin (frames_to w to sender) (within.streams to sender)) there
    in frame.limits
