use Rattle.migrate.proofs.Runs.{fourth_moves}
use Rattle.migrate.proofs.fourth_in_a_row.Goals as goal

pub returns : goal.returns
returns c = fourth_moves
