use Rattle.frame_bytes.proofs.StreamLaws.{one-reading}
use Rattle.frame_bytes.proofs.laws.a_stream_has_one_reading.Goals as goal

pub returns : goal.returns
returns c = λ stream fs gs l m s t. one-reading stream fs gs l m s t
