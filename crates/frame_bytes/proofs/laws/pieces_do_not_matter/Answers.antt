use Rattle.frame_bytes.proofs.StreamLaws.{all-fed-splits}
use Rattle.frame_bytes.proofs.laws.pieces_do_not_matter.Goals as goal

pub returns : goal.returns
returns c = λ pieces frames left fed. all-fed-splits pieces frames left fed
