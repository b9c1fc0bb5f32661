use Rattle.number_maps.proofs.Rising.{rising-put}
use Rattle.std.proofs.lemmas.Result.{on_ok_weaker, on_err_weaker}
use Rattle.mono_kernel.proofs.LandLemmas.{child-lands, numbers-stay, unchanged-lands}
use Rattle.mono_kernel.proofs.processes.add_child_at.Goals as goal

pub returns-in-Some-clause-ok : goal.returns-in-Some-clause-ok
returns-in-Some-clause-ok c =
    on_ok_weaker c.add_child.result
    (λ e. child-lands c.args.cells.now.entries c.pid.inside.0 c.args.pid c.args.child c.value_mut.result.now
    c.add_child.new.self c.pid.view_is c.value_mut.ensures.value e)
    c.add_child.ensures.ok

pub returns-in-Some-clause-err : goal.returns-in-Some-clause-err
returns-in-Some-clause-err c =
    on_err_weaker c.add_child.result
    (λ e. unchanged-lands c.args.cells.now.entries c.pid.inside.0 c.value_mut.result.now c.add_child.new.self
    c.rise.ensures c.value_mut.ensures.value e)
    c.add_child.ensures.err

pub returns-in-Some-clause-same_numbers : goal.returns-in-Some-clause-same_numbers
returns-in-Some-clause-same_numbers c =
    numbers-stay c.args.cells.now.entries c.pid.inside.0 c.value_mut.result.now c.add_child.new.self c.rise.ensures
    c.value_mut.ensures.value

pub returns-in-Some-clause-rising : goal.returns-in-Some-clause-rising
returns-in-Some-clause-rising c =
    rising-put c.args.cells.now.entries c.pid.inside.0 c.add_child.new.self c.rise.ensures
