use Rattle.waiting_laws.proofs.GoingOn.{lines-go-on}
use Rattle.waiting_laws.proofs.lines_go_on.Goals as goal

pub returns : goal.returns
returns c = lines-go-on
