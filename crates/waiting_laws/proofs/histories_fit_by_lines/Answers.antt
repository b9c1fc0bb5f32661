use Rattle.waiting_laws.proofs.FitsByLines.{histories-fit-by-lines}
use Rattle.waiting_laws.proofs.histories_fit_by_lines.Goals as goal

pub returns : goal.returns
returns c = histories-fit-by-lines
