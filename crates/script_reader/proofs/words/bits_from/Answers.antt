use Rattle.script_reader.proofs.Edges.{back_under, back_kept}
use Rattle.script_reader.proofs.words.bits_from.Goals as goal

pub returns-clause-under : goal.returns-clause-under
returns-clause-under c k low = back_under c.args.mask c.args.start k c.requires low

pub returns-clause-kept : goal.returns-clause-kept
returns-clause-kept c k high low = back_kept c.args.mask c.args.start k high low
