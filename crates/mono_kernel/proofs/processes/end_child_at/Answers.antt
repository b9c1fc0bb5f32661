use Rattle.number_maps.proofs.Rising.{rising-put}
use Rattle.mono_kernel.proofs.LandLemmas.{end-lands, lists-there, found-lands, numbers-stay}
use Rattle.mono_kernel.proofs.processes.end_child_at.Goals as goal

pub end_child-requires : goal.end_child-requires
end_child-requires c =
    lists-there c.args.cells.now.entries c.args.pid c.args.child c.value_mut.result.now
    (rw c.pid.view_is at c.value_mut.ensures.value) c.requires.listed

pub returns-in-Some-clause-changed : goal.returns-in-Some-clause-changed
returns-in-Some-clause-changed c =
    end-lands c.args.cells.now.entries c.pid.inside.0 c.args.pid c.args.child c.args.ending c.value_mut.result.now
    c.end_child.new.self c.pid.view_is c.value_mut.ensures.value c.end_child.ensures.ended

pub returns-in-Some-clause-found : goal.returns-in-Some-clause-found
returns-in-Some-clause-found c =
    found-lands c.args.cells.now.entries c.args.pid c.args.child c.args.ending c.value_mut.result.now _
    (rw c.pid.view_is at c.value_mut.ensures.value) c.end_child.ensures.found

pub returns-in-Some-clause-same_numbers : goal.returns-in-Some-clause-same_numbers
returns-in-Some-clause-same_numbers c =
    numbers-stay c.args.cells.now.entries c.pid.inside.0 c.value_mut.result.now c.end_child.new.self c.rise.ensures
    c.value_mut.ensures.value

pub returns-in-Some-clause-rising : goal.returns-in-Some-clause-rising
returns-in-Some-clause-rising c =
    rising-put c.args.cells.now.entries c.pid.inside.0 c.end_child.new.self c.rise.ensures
