use Rattle.script_reader.proofs.Edges.{change_first, change_at}
use Rattle.script_reader.proofs.words.changes_in.Goals as goal

pub returns-clause-first : goal.returns-clause-first
returns-clause-first c = change_first c.args.mask

pub returns-clause-others : goal.returns-clause-others
returns-clause-others c k some low = change_at c.args.mask k some low
