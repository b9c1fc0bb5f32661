use Rattle.limit_laws.proofs.Turns.{sent-frames-pass}
use Rattle.limit_laws.proofs.sent_frames_pass.Goals as goal

pub returns : goal.returns
returns c = sent-frames-pass
