use Rattle.waiting_laws.proofs.OneEnd.{lines-have-one-end}
use Rattle.waiting_laws.proofs.lines_have_one_end.Goals as goal

pub returns : goal.returns
returns c = lines-have-one-end
