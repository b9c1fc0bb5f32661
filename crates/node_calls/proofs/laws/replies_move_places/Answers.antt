use Rattle.node_calls.proofs.PlaceLemmas.{place-moves}
use Rattle.node_calls.proofs.laws.replies_move_places.Goals as goal

pub returns : goal.returns
returns c = place-moves
