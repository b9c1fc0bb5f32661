use Rattle.frame_bytes.proofs.StreamLaws.{frame-same}
use Rattle.frame_bytes.proofs.laws.no_spelling_begins_another.Goals as goal

pub returns : goal.returns
returns c = λ f g x y hf hg e. let same = frame-same f g x y hf hg e in (same.value, same.rest)
