use Rattle.waiting_laws.proofs.MarkMoves.{reachable-moves}
use Rattle.waiting_laws.proofs.entries_move_marks.Goals as goal

pub returns : goal.returns
returns c = reachable-moves
