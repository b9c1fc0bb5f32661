use Rattle.frame_laws.proofs.Reachable.{frames_are_within_limits_lemma}
use Rattle.frame_laws.proofs.frames_are_within_limits.Goals as goal

pub returns : goal.returns
returns c = frames_are_within_limits_lemma
