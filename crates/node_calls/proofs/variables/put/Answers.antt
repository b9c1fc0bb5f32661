use Rattle.node_calls.proofs.VariableLemmas.{put-at, put-in_gap}
use Rattle.node_calls.proofs.variables.put.Goals as goal

pub returns-in-Ok-clause-ok : goal.returns-in-Ok-clause-ok
returns-in-Ok-clause-ok c =
    put-at c.args.values.now.items c.args.variable c.args.value c.in-Ok.place c.requires
    (rw c.deref.ensures.value at c.in-Ok.ensures.found)

pub returns-in_ok-insert-in-Err-clause-ok : goal.returns-in_ok-insert-in-Err-clause-ok
returns-in_ok-insert-in-Err-clause-ok c =
    rw c.in_ok-insert-in-Err.ensures.items
    (put-in_gap c.args.values.now.items c.args.variable c.args.value c.in-Err.place
    (rw c.deref.ensures.value at c.in-Err.ensures.absent))
