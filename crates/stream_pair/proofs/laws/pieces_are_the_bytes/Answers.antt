use Rattle.stream_pair.proofs.Cuts.{the_pieces_are_the_bytes}
use Rattle.stream_pair.proofs.laws.pieces_are_the_bytes.Goals as goal

pub returns : goal.returns
returns c = the_pieces_are_the_bytes
