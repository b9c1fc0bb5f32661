use Rattle.node_calls.proofs.LineLemmas.{count-is}
use Rattle.node_calls.proofs.lines.count.Goals as goal

pub returns-in-Some : goal.returns-in-Some
returns-in-Some c =
    count-is c.args.script.now c.args.node c.count_with_exit.result c.in-Some.block.now c.as_slice.result.now c.requires
    c.in-Some.ensures
    c.as_slice.ensures c.count_with_exit.ensures
